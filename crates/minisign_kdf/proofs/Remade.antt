-- Lemmas about kept rows in one list of words, and the rows that are computed from them.
use Rattle.std.proofs.Common.{◌≡◌, ℕ, zero, suc, ◌+◌, ◌-◌, ◌*◌, ◌/◌, ◌%◌, ◌^◌, ◌<◌, ◌≤◌, List, [], ◌∷◌, ◌++◌}
use Rattle.std.proofs.Common.{length, map, get_or, bit_xor, refl, sym, ap, ◌∙◌, arith, inl, inr, add-one}
use Rattle.std.proofs.Common.{zero-add, mod-lt, pow_pos}
use Rattle.std.proofs.Math.Nat.{mul-suc}
use Rattle.std.proofs.lemmas.Bool.{cases_lt}
use Rattle.std.proofs.lemmas.List.FromFn.{get_or-map-range_with_len, length-map-range_with_len}
use Rattle.std.proofs.lemmas.List.FromFn.{map-range_with_len_more}
use Rattle.std.specs.Int.{div_ceil}
use Rattle.std.specs.List.{range_with_len}
use Rattle.std.specs.Simd.Lanes.{zip2}
use Rattle.minisign_kdf.specs.Blocks.{block}
use Rattle.minisign_kdf.specs.Diagonal.{diagonal_bytes}
use Rattle.minisign_kdf.specs.Kept.{integerify, kept_rows, remade_row, rom_mix_from, rows_of}
use Rattle.minisign_kdf.specs.Scrypt.{block_mix, mixed_part, row_at}
use Rattle.minisign_kdf.proofs.Blocks.{block_front, block_new, block_whole, row_before}
use Rattle.minisign_kdf.proofs.Kept.{quotient_kept, row_at-add, kept_count_positive}
use Rattle.minisign_kdf.proofs.RowMixing.{mod_64, row_at_none}

-- == Rows of words ==

pub row_of : (r count : ℕ) (words : List ℕ) (i : ℕ) → i < count → get_or (rows_of r count words) i []
    ≡ diagonal_bytes (block (32 * r) words i)
unfolding rows_of
row_of r count words i lt = get_or-map-range_with_len (λ (j : ℕ). diagonal_bytes (block (32 * r) words j)) 0
    count i i [] lt (zero-add i)

pub length-rows_of : (r count : ℕ) (words : List ℕ) → length (rows_of r count words) ≡ count
unfolding rows_of
length-rows_of r count words = length-map-range_with_len (λ (j : ℕ). diagonal_bytes (block (32 * r) words j))
    0 count

map_same : (f g : ℕ → List ℕ) (n : ℕ) → ((j : ℕ) → j < n → f j ≡ g j) → map f (range_with_len 0 n)
    ≡ map g (range_with_len 0 n)
map_same f g zero same = refl
map_same f g (suc n) same =
    ap (λ (m : ℕ). map f (range_with_len 0 m)) (sym (add-one n)) ∙ map-range_with_len_more f 0 n n
    (zero-add n)
    ∙ (λ t. map_same f g n (λ j lt. same j (omega arith)) t ++ same n (omega arith) t ∷ [])
    ∙ sym (map-range_with_len_more g 0 n n (zero-add n)) ∙ ap (λ (m : ℕ). map g (range_with_len 0 m))
    (add-one n)

-- If each row in the words is the kept row with the same index, the rows in the words are the list
-- of kept rows.
pub kept_rows_of : (r n k : ℕ) (b words : List ℕ)
    → ((i : ℕ) → i < div_ceil n k → diagonal_bytes (block (32 * r) words i) ≡ row_at r b (k * i))
    → rows_of r (div_ceil n k) words ≡ kept_rows r n k b
unfolding rows_of kept_rows
kept_rows_of r n k b words each = map_same (λ (i : ℕ). diagonal_bytes (block (32 * r) words i))
    (λ (i : ℕ). row_at r b (k * i)) (div_ceil n k) each

-- == Filling ==

-- The first kept row is row 0.
pub first_kept_row : (r k i : ℕ) (xs y : List ℕ) → xs ≡ y → length y ≡ 32 * r → i < 1
    → diagonal_bytes (block (32 * r) xs i) ≡ row_at r (diagonal_bytes y) (k * i)
first_kept_row r k i xs y ex ly lt =
    let e : i ≡ 0 = omega arith in
    let none : k * 0 ≡ 0 = omega arith in
    rw (e, ex, none) (ap diagonal_bytes (block_whole (32 * r) y ly) ∙ sym (row_at_none r (diagonal_bytes y)))

-- If the first m kept rows have been stored, appending the last one, mixed k times, gives the first
-- m + 1 kept rows.
pub next_kept_row : (r k m i : ℕ) (b xs y : List ℕ)
    → ((j : ℕ) → j < m → diagonal_bytes (block (32 * r) xs j) ≡ row_at r b (k * j)) → length xs ≡ 32 * r * m
    → 1 ≤ m
    → length y ≡ 32 * r → diagonal_bytes y ≡ row_at r (diagonal_bytes (block (32 * r) xs (m - 1))) k
    → i < m + 1 → diagonal_bytes (block (32 * r) (xs ++ y) i) ≡ row_at r b (k * i)
next_kept_row r k m i b xs y done lx some ly ey lt = elim (cases_lt i m) [
  | inl before ↦ ap diagonal_bytes (block_front (32 * r) m i xs y lx before) ∙ done i before
  | inr past ↦
      let e : i ≡ m = omega arith in
      let one : suc (m - 1) ≡ m = omega arith in
      let up : k * (m - 1) + k ≡ k * m = sym (mul-suc k (m - 1)) ∙ ap (λ (j : ℕ). k * j) one in
      rw e (ap diagonal_bytes (block_new (32 * r) m xs y lx ly) ∙ ey ∙ ap (λ (l : List ℕ). row_at r l k)
      (done (m - 1) (omega arith))
      ∙ row_at-add r b (k * (m - 1)) k ∙ ap (row_at r b) up)
]

-- == Mixing with rows that are computed again ==

-- The kept row from which row j is computed is within the words.
pub kept_within : (r n k j : ℕ) → 1 ≤ k → j < n → 32 * r * (j / k) + 32 * r ≤ 32 * r * div_ceil n k
kept_within r n k j some lt = row_before (32 * r) (div_ceil n k) (j / k) (quotient_kept n k j some lt)

-- One step of the second loop, with a row that is computed again from the kept rows.
pub mixed_with_remade : (r lg k seen j : ℕ) (words kept x z : List ℕ) → 1 ≤ k → lg < 64
    → seen ≡ integerify r (diagonal_bytes x) % 2 ^ 64 → j ≡ seen % 2 ^ lg
    → kept ≡ block (32 * r) words (j / k)
    → z ≡ block_mix r (zip2 bit_xor (diagonal_bytes x) (row_at r (diagonal_bytes kept) (j % k)))
    → z ≡ block_mix r (zip2 bit_xor (diagonal_bytes x)
    (remade_row r k (rows_of r (div_ceil (2 ^ lg) k) words) (integerify r (diagonal_bytes x) % 2 ^ lg)))
unfolding remade_row
mixed_with_remade r lg k seen j words kept x z some lt es ej ek ez =
    let named : j ≡ integerify r (diagonal_bytes x) % 2 ^ lg = ej ∙ ap (λ (m : ℕ). m % 2 ^ lg) es
    ∙ mod_64 (integerify r (diagonal_bytes x)) lg lt in
    let below : j < 2 ^ lg = rw ej (mod-lt seen (pow_pos lg)) in
    let row : get_or (rows_of r (div_ceil (2 ^ lg) k) words) (j / k) [] ≡ diagonal_bytes kept =
    row_of r (div_ceil (2 ^ lg) k) words (j / k) (quotient_kept (2 ^ lg) k j some below)
    ∙ ap diagonal_bytes (sym ek) in
    ez ∙ ap (λ (l : List ℕ). block_mix r (zip2 bit_xor (diagonal_bytes x) (row_at r l (j % k)))) (sym row)
    ∙ ap (λ (m : ℕ). block_mix r
    (zip2 bit_xor (diagonal_bytes x)
    (row_at r (get_or (rows_of r (div_ceil (2 ^ lg) k) words) (m / k) []) (m % k)))) named

-- Row n, computed from the last kept row.
abbrev pub last_row_mixed : ℕ → ℕ → ℕ → List ℕ → List ℕ
last_row_mixed r n k words =
    row_at r (diagonal_bytes (block (32 * r) words (div_ceil n k - 1))) (n - k * (div_ceil n k - 1))

-- The result of all steps with rows from the kept rows is scryptROMix from the kept rows.
pub mixed_from : (r n k : ℕ) (words y : List ℕ) → 1 ≤ k → 1 ≤ n
    → y ≡ mixed_part r n (remade_row r k (rows_of r (div_ceil n k) words)) (last_row_mixed r n k words) n
    → y ≡ rom_mix_from r n k (rows_of r (div_ceil n k) words)
unfolding rom_mix_from
mixed_from r n k words y some rows ey =
    let c : ℕ = div_ceil n k in
    let kept : List (List ℕ) = rows_of r c words in
    let count : length kept - 1 ≡ c - 1 = ap (λ (m : ℕ). m - 1) (length-rows_of r c words) in
    let within : c - 1 < c = (let some_row : 0 < c = kept_count_positive n k some rows in omega arith) in
    let start : row_at r (get_or kept (length kept - 1) []) (n - k * (length kept - 1))
    ≡ last_row_mixed r n k words =
    ap (λ (m : ℕ). row_at r (get_or kept m []) (n - k * m)) count
    ∙ ap (λ (l : List ℕ). row_at r l (n - k * (c - 1))) (row_of r c words (c - 1) within) in
    ey ∙ ap (λ (l : List ℕ). mixed_part r n (remade_row r k kept) l n) (sym start)
