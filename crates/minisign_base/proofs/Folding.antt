-- Lemmas about folding a message into 32 bytes, byte by byte.
use Rattle.std.proofs.Common.{◌≡◌, ℕ, ◌+◌, ◌%◌, ◌<◌, ◌≢◌, suc, add-zero, ◌==◌, List, [], ◌∷◌, ◌++◌, length}
use Rattle.std.proofs.Common.{take, map, slice_index, slice_set, bit_xor, if◌then◌else◌, ap, sym, ◌∙◌, arith}
use Rattle.std.proofs.Common.{cond, eq-eqb, zero-add, ⊎_elim}
use Rattle.std.specs.Int.Bits.{xor_assoc, xor_zero_r}
use Rattle.std.proofs.lemmas.Bool.{ne_eqb, cases_eq}
use Rattle.std.specs.List.{range_with_len}
use Rattle.std.proofs.lemmas.List.{ext_get_or, get_or-map, get_or-set_other, length-take-le, take_more}
use Rattle.std.proofs.lemmas.Grind.{get_or-set_at}
use Rattle.std.proofs.lemmas.List.FromFn.{length-range_with_len, get_or-range_with_len}
use Rattle.minisign_base.specs.Toy.{column, fold_of}

-- An appended byte is xored into its column, the one of its index modulo 32, and into no other.
pub column-append : (i j : ℕ) (xs : List ℕ) (b : ℕ) → column i j (xs ++ b ∷ []) ≡ bit_xor (column i j xs)
    (if (j + length xs) % 32 == i then b else 0)
column-append i j [] b = rw add-zero (xor_zero_r (if j % 32 == i then b else 0))
column-append i j (x ∷ xs) b =
    let next : j + 1 + length xs ≡ j + suc (length xs) = omega arith in
    ap (λ t. bit_xor (if j % 32 == i then x else 0) t) (column-append i (j + 1) xs b)
    ∙ sym (xor_assoc (if j % 32 == i then x else 0) (column i (j + 1) xs)
    (if (j + 1 + length xs) % 32 == i then b else 0))
    ∙ ap (λ k. bit_xor (bit_xor (if j % 32 == i then x else 0) (column i (j + 1) xs))
    (if k % 32 == i then b else 0)) next

-- An appended byte changes its own column.
pub column-changed : (i j : ℕ) (xs : List ℕ) (b : ℕ) → length xs ≡ j → j % 32 ≡ i → column i 0 (xs ++ b ∷ [])
    ≡ bit_xor (column i 0 xs) b
column-changed i j xs b len e = column-append i 0 xs b ∙ ap (λ t. bit_xor (column i 0 xs) (cond t b 0))
    (eq-eqb ((0 + length xs) % 32) i (ap (λ k. k % 32) (zero-add (length xs)) ∙ ap (λ k. k % 32) len ∙ e))

-- An appended byte does not change the other columns.
pub column-kept : (i j : ℕ) (xs : List ℕ) (b : ℕ) → length xs ≡ j → j % 32 ≢ i → column i 0 (xs ++ b ∷ [])
    ≡ column i 0 xs
column-kept i j xs b len ne =
    column-append i 0 xs b ∙ ap (λ t. bit_xor (column i 0 xs) (cond t b 0))
    (ne_eqb ((0 + length xs) % 32) i
    (λ z. ne (ap (λ k. k % 32) (sym len ∙ sym (zero-add (length xs))) ∙ z))) ∙ xor_zero_r (column i 0 xs)

columns-at : (m : List ℕ) (n i : ℕ) → i < n → slice_index (map (λ k. column k 0 m) (range_with_len 0 n)) i
    ≡ column i 0 m
columns-at m n i l =
    let len : length (range_with_len 0 n) ≡ n = length-range_with_len 0 n in
    get_or-map (λ k. column k 0 m) (range_with_len 0 n) i 0 0 (omega (arith, len))
    ∙ ap (λ k. column k 0 m) (get_or-range_with_len 0 n i 0 l ∙ zero-add i)

-- 32 bytes that hold the columns are the folded message.
pub folded : (m xs : List ℕ) → length xs ≡ 32 → ((i : ℕ) → i < 32 → slice_index xs i ≡ column i 0 m)
    → xs ≡ fold_of m
unfolding fold_of
folded m xs len each = ext_get_or 0 xs (fold_of m) len
    (λ i l. let low : i < 32 = omega (arith, len) in each i low ∙ sym (columns-at m 32 i low))

-- If the columns are those of the first j bytes, xoring byte number j into its column gives those
-- of the first j + 1.
pub columns-next : (m columns : List ℕ) (j : ℕ) → length columns ≡ 32 → j < length m
    → ((i : ℕ) → i < 32 → slice_index columns i ≡ column i 0 (take j m)) → (i : ℕ) → i < 32
    → slice_index (slice_set columns (j % 32) (bit_xor (slice_index columns (j % 32)) (slice_index m j))) i
    ≡ column i 0 (take (j + 1) m)
columns-next m columns j full inside each i low =
    let byte = slice_index m j in
    let size : length (take j m) ≡ j = length-take-le j m (omega (arith, inside)) in
    let place : j % 32 < length columns = omega (arith, full) in
    let changed = bit_xor (slice_index columns (j % 32)) byte in
    rw (take_more m j 0 inside)
    (⊎_elim
    (λ same. get_or-set_at columns (j % 32) i changed 0 (sym same) place
    ∙ ap (λ k. bit_xor (slice_index columns k) byte) same
    ∙ ap (λ k. bit_xor k byte) (each i low)
    ∙ sym (column-changed i j (take j m) byte size same))
    (λ other. get_or-set_other columns (j % 32) i changed 0 (λ z. other (sym z)) ∙ each i low
    ∙ sym (column-kept i j (take j m) byte size other))
    (cases_eq (j % 32) i))
