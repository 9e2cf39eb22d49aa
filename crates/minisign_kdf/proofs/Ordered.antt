-- Lemmas about the bytes of lists of blocks in diagonal order, if the lists are appended, split or xored.
use Rattle.std.proofs.Common.{◌≡◌, ℕ, ◌+◌, ◌*◌, ◌/◌, ◌<◌, ◌≤◌, List, [], ◌++◌, length, take, drop}
use Rattle.std.proofs.Common.{length-append, length-drop, bit_xor, refl, sym, ap, ◌∙◌, arith}
use Rattle.std.proofs.Math.Seq.{take-add}
use Rattle.std.proofs.lemmas.List.{length-take-le}
use Rattle.std.proofs.lemmas.Simd.{length-zip2}
use Rattle.std.proofs.lemmas.Slice.{take-put_mid}
use borrow.Rule.Slice.PartMut.{put_mid}
use Rattle.std.specs.Simd.Lanes.{zip2}
use Rattle.minisign_kdf.specs.Blocks.{block, joined_lists}
use Rattle.minisign_kdf.specs.Diagonal.{diagonal_bytes, standard_order}
use Rattle.minisign_kdf.specs.Salsa20.{bytes_of_words32}
use Rattle.minisign_kdf.proofs.Blocks.{block_behind, block_front, block_whole, block-joined_lists, cut-zip2}
use Rattle.minisign_kdf.proofs.Blocks.{joined_lists-zip2, row_before}
use Rattle.minisign_kdf.proofs.Bytes.{bytes_of_words32-xor, length-bytes_of_words32}
use Rattle.minisign_kdf.proofs.Diagonal.{length-standard_order, standard_order-xor}
use Rattle.minisign_kdf.proofs.Joined.{joined_lists_next, joined_lists_none, joined_lists_same}
use Rattle.minisign_kdf.proofs.Joined.{joined_lists_split}

-- The bytes of block number i.
abbrev bytes_at : List ℕ → ℕ → List ℕ
bytes_at xs i = bytes_of_words32 (standard_order (block 16 xs i))

length-bytes_at : (xs : List ℕ) (i : ℕ) → length (bytes_at xs i) ≡ 64
length-bytes_at xs i = length-bytes_of_words32 (standard_order (block 16 xs i))
    ∙ ap (λ (n : ℕ). 4 * n) (length-standard_order (block 16 xs i))

pub diagonal_bytes_is : (xs : List ℕ) (n : ℕ) → length xs ≡ 16 * n
    → diagonal_bytes xs ≡ joined_lists (λ i. bytes_of_words32 (standard_order (block 16 xs i))) n
unfolding diagonal_bytes
diagonal_bytes_is xs n len =
    let e : length xs / 16 ≡ n = omega arith in
    ap (joined_lists (bytes_at xs)) e

-- Block number i of the bytes is block number i of the words, in the order of RFC 7914.
pub block-diagonal_bytes : (xs : List ℕ) (n i : ℕ) → length xs ≡ 16 * n → i < n
    → block 64 (diagonal_bytes xs) i ≡ bytes_of_words32 (standard_order (block 16 xs i))
block-diagonal_bytes xs n i len lt =
    ap (λ (l : List ℕ). block 64 l i) (diagonal_bytes_is xs n len) ∙ block-joined_lists (bytes_at xs) 64 n i
    (length-bytes_at xs) lt

pub diagonal_bytes-append : (xs ys : List ℕ) (n m : ℕ) → length xs ≡ 16 * n → length ys ≡ 16 * m
    → diagonal_bytes (xs ++ ys) ≡ diagonal_bytes xs ++ diagonal_bytes ys
diagonal_bytes-append xs ys n m lx ly =
    let both : length (xs ++ ys) ≡ 16 * (n + m) = omega (arith, length-append xs ys) in
    diagonal_bytes_is (xs ++ ys) (n + m) both
    ∙ joined_lists_split (bytes_at (xs ++ ys)) n m
    ∙ (λ t. joined_lists_same (bytes_at (xs ++ ys)) (bytes_at xs) n
    (λ j lt. ap (λ (l : List ℕ). bytes_of_words32 (standard_order l)) (block_front 16 n j xs ys lx lt)) t
    ++ joined_lists_same (λ j. bytes_at (xs ++ ys) (n + j)) (bytes_at ys) m
    (λ j lt. ap (λ (l : List ℕ). bytes_of_words32 (standard_order l)) (block_behind 16 n j xs ys lx)) t)
    ∙ (λ t. sym (diagonal_bytes_is xs n lx) t ++ sym (diagonal_bytes_is ys m ly) t)

-- The bytes of a single block are the bytes of its words in the order of RFC 7914.
pub diagonal_bytes-block : (y : List ℕ) → length y ≡ 16
    → diagonal_bytes y ≡ bytes_of_words32 (standard_order y)
diagonal_bytes-block y ly =
    diagonal_bytes_is y 1 ly ∙ joined_lists_next (bytes_at y) 0
    ∙ ap (λ (l : List ℕ). l ++ bytes_at y 0) (joined_lists_none (bytes_at y))
    ∙ ap (λ (l : List ℕ). bytes_of_words32 (standard_order l)) (block_whole 16 y ly)

-- The bytes of the xor of two lists of words are the xor of their bytes.
pub diagonal_bytes-xor : (xs ys : List ℕ) (n : ℕ) → length xs ≡ 16 * n → length ys ≡ 16 * n
    → diagonal_bytes (zip2 bit_xor xs ys) ≡ zip2 bit_xor (diagonal_bytes xs) (diagonal_bytes ys)
diagonal_bytes-xor xs ys n lx ly =
    let both : length (zip2 bit_xor xs ys) ≡ 16 * n = length-zip2 bit_xor xs ys (lx ∙ sym ly) ∙ lx in
    let each : (j : ℕ) → j < n → bytes_at (zip2 bit_xor xs ys) j ≡ zip2 bit_xor (bytes_at xs j)
    (bytes_at ys j) =
    (λ j lt.
    let fits : 16 * j + 16 ≤ 16 * n = row_before 16 n j lt in
    let bx : length (block 16 xs j) ≡ 16 = length-take-le 16 _ (omega (arith, length-drop (16 * j) xs)) in
    let by : length (block 16 ys j) ≡ 16 = length-take-le 16 _ (omega (arith, length-drop (16 * j) ys)) in
    ap (λ (l : List ℕ). bytes_of_words32 (standard_order l))
    (cut-zip2 bit_xor 16 (16 * j) xs ys (lx ∙ sym ly))
    ∙ ap bytes_of_words32 (standard_order-xor (block 16 xs j) (block 16 ys j) bx by)
    ∙ bytes_of_words32-xor (standard_order (block 16 xs j)) (standard_order (block 16 ys j))) in
    diagonal_bytes_is (zip2 bit_xor xs ys) n both
    ∙ joined_lists_same (bytes_at (zip2 bit_xor xs ys)) (λ j. zip2 bit_xor (bytes_at xs j) (bytes_at ys j)) n
    each
    ∙ joined_lists-zip2 bit_xor (bytes_at xs) (bytes_at ys) 64 n (length-bytes_at xs) (length-bytes_at ys)
    ∙ (λ t. zip2 bit_xor (sym (diagonal_bytes_is xs n lx) t) (sym (diagonal_bytes_is ys n ly) t))

pub diagonal_bytes-none : diagonal_bytes [] ≡ []
diagonal_bytes-none = diagonal_bytes_is [] 0 refl ∙ joined_lists_none (bytes_at [])

-- The bytes of the first i + 1 blocks are those of the first i, followed by those of block number
-- i.
next_block : (xs : List ℕ) (i m : ℕ) → 16 * i + 16 ≤ length xs → m ≡ 16
    → diagonal_bytes (take (16 * (i + 1)) xs) ≡ diagonal_bytes (take (16 * i) xs)
    ++ bytes_of_words32 (standard_order (take m (drop (16 * i) xs)))
next_block xs i m fits em =
    let e : 16 * (i + 1) ≡ 16 * i + 16 = omega arith in
    let front : length (take (16 * i) xs) ≡ 16 * i = length-take-le (16 * i) xs (omega arith) in
    let this : length (take 16 (drop (16 * i) xs)) ≡ 16 = length-take-le 16 (drop (16 * i) xs)
    (omega (arith, length-drop (16 * i) xs)) in
    ap (λ (k : ℕ). diagonal_bytes (take k xs)) e ∙ ap diagonal_bytes (take-add (16 * i) 16 xs)
    ∙ diagonal_bytes-append (take (16 * i) xs) (take 16 (drop (16 * i) xs)) i 1 front this
    ∙ ap (λ (l : List ℕ). diagonal_bytes (take (16 * i) xs) ++ l)
    (diagonal_bytes-block (take 16 (drop (16 * i) xs)) this
    ∙ ap (λ (k : ℕ). bytes_of_words32 (standard_order (take k (drop (16 * i) xs)))) (sym em))

-- If the first i blocks have been read, reading block number i gives the first i + 1 blocks.
pub loaded_next : (words bytes y : List ℕ) (i k m : ℕ) → diagonal_bytes (take (16 * i) words)
    ≡ take (64 * i) bytes → 16 * i + 16 ≤ length words → length bytes ≡ 4 * length words
    → length y ≡ 16 → m ≡ 64 → bytes_of_words32 (standard_order y) ≡ take m (drop (64 * i) bytes)
    → diagonal_bytes (take (16 * (i + 1)) (put_mid (16 * i) k words y)) ≡ take (64 * (i + 1)) bytes
loaded_next words bytes y i k m done fits len ly em ey =
    let e : 64 * (i + 1) ≡ 64 * i + 64 = omega arith in
    let front : length (take (16 * i) words) ≡ 16 * i = length-take-le (16 * i) words (omega arith) in
    ap diagonal_bytes (take-put_mid (16 * i) k words y (16 * (i + 1)) (omega arith) (omega arith))
    ∙ diagonal_bytes-append (take (16 * i) words) y i 1 front ly
    ∙ (λ t. done t ++ (diagonal_bytes-block y ly ∙ ey ∙ ap (λ (j : ℕ). take j (drop (64 * i) bytes)) em) t)
    ∙ sym (ap (λ (j : ℕ). take j bytes) e ∙ take-add (64 * i) 64 bytes)

-- If the first i blocks have been written, writing block number i gives the first i + 1 blocks.
pub stored_next : (words bytes ys : List ℕ) (i k m : ℕ) → take (64 * i) bytes
    ≡ diagonal_bytes (take (16 * i) words) → 16 * i + 16 ≤ length words → length bytes ≡ 4 * length words
    → length ys ≡ 64 → m ≡ 16 → ys ≡ bytes_of_words32 (standard_order (take m (drop (16 * i) words)))
    → take (64 * (i + 1)) (put_mid (64 * i) k bytes ys) ≡ diagonal_bytes (take (16 * (i + 1)) words)
stored_next words bytes ys i k m done fits len ly em ey =
    take-put_mid (64 * i) k bytes ys (64 * (i + 1)) (omega arith) (omega arith) ∙ (λ t. done t ++ ey t)
    ∙ sym (next_block words i m fits em)
