-- Lemmas about the bytes of lists of words, if the lists are appended, split or xored.
use Rattle.std.proofs.Common.{◌≡◌, ℕ, zero, suc, ◌+◌, ◌*◌, ◌/◌, ◌%◌, ◌^◌, ◌<◌, ◌≤◌, List, [], ◌∷◌, ◌++◌}
use Rattle.std.proofs.Common.{length, take, drop, slice_index, slice_set, bit_xor, refl, sym, ap, ◌∙◌, arith}
use Rattle.std.proofs.Common.{append_assoc, lit<}
use Rattle.std.proofs.lemmas.List.{append-nil, take_more, take_more_set}
use Rattle.std.proofs.lemmas.Nat.{xor_shr, xor_mod, from_le_bytes-to_le_bytes_4, le_bytes_4}
use Rattle.std.proofs.lemmas.Simd.{get_or-zip2, length-zip2}
use Rattle.std.proofs.lemmas.Slice.{take-put_mid}
use borrow.Rule.Slice.PartMut.{put_mid}
use Rattle.std.proofs.lemmas.Grind.{flat_map-append}
use Rattle.std.specs.Int.{w32, from_le_bytes, to_le_bytes}
use Rattle.std.specs.Simd.Lanes.{number_l, zip2}
use Rattle.minisign_kdf.specs.Blocks.{block}
use Rattle.minisign_kdf.specs.Diagonal.{salsa_words}
use Rattle.minisign_kdf.specs.Salsa20.{bytes_of_words32, words32_of, salsa20_8}

pub bytes_of_words32-append : (xs ys : List ℕ) → bytes_of_words32 (xs ++ ys) ≡ bytes_of_words32 xs
    ++ bytes_of_words32 ys
bytes_of_words32-append xs ys = flat_map-append (to_le_bytes w32) xs ys

pub length-bytes_of_words32 : (xs : List ℕ) → length (bytes_of_words32 xs) ≡ 4 * length xs
length-bytes_of_words32 [] = refl
length-bytes_of_words32 (x ∷ xs) = let h : length (bytes_of_words32 xs) ≡ 4 * length xs =
    length-bytes_of_words32 xs in omega arith

-- The first 4 * n bytes of words are the bytes of the first n words.
pub take-bytes_of_words32 : (n : ℕ) (xs : List ℕ) → take (4 * n) (bytes_of_words32 xs)
    ≡ bytes_of_words32 (take n xs)
take-bytes_of_words32 zero xs = refl
take-bytes_of_words32 (suc n) [] = let e : 4 * suc n ≡ suc (suc (suc (suc (4 * n)))) = omega arith in
    rw e refl
take-bytes_of_words32 (suc n) (x ∷ xs) =
    let e : 4 * suc n ≡ suc (suc (suc (suc (4 * n)))) = omega arith in
    rw e (ap (λ (l : List ℕ). to_le_bytes w32 x ++ l) (take-bytes_of_words32 n xs))

pub drop-bytes_of_words32 : (n : ℕ) (xs : List ℕ) → drop (4 * n) (bytes_of_words32 xs)
    ≡ bytes_of_words32 (drop n xs)
drop-bytes_of_words32 zero xs = refl
drop-bytes_of_words32 (suc n) [] = let e : 4 * suc n ≡ suc (suc (suc (suc (4 * n)))) = omega arith in
    rw e refl
drop-bytes_of_words32 (suc n) (x ∷ xs) =
    let e : 4 * suc n ≡ suc (suc (suc (suc (4 * n)))) = omega arith in
    rw e (drop-bytes_of_words32 n xs)

xor_byte : (x y k : ℕ) → bit_xor x y / 2 ^ k % 2 ^ 8 ≡ bit_xor (x / 2 ^ k % 2 ^ 8) (y / 2 ^ k % 2 ^ 8)
xor_byte x y k = ap (λ (n : ℕ). n % 2 ^ 8) (xor_shr x y k) ∙ xor_mod (x / 2 ^ k) (y / 2 ^ k) 8

-- The bytes of the xor of two words are the xor of their bytes.
xor_bytes : (x y : ℕ) → to_le_bytes w32 (bit_xor x y) ≡ zip2 bit_xor (to_le_bytes w32 x) (to_le_bytes w32 y)
xor_bytes x y = rw (xor_mod x y 8, xor_byte x y 8, xor_byte x y 16, xor_byte x y 24) refl

pub bytes_of_words32-xor : (xs ys : List ℕ) → bytes_of_words32 (zip2 bit_xor xs ys)
    ≡ zip2 bit_xor (bytes_of_words32 xs) (bytes_of_words32 ys)
bytes_of_words32-xor [] ys = refl
bytes_of_words32-xor (x ∷ xs) [] = refl
bytes_of_words32-xor (x ∷ xs) (y ∷ ys) = (λ i. xor_bytes x y i ++ bytes_of_words32-xor xs ys i)

-- Words are read back unchanged from their bytes.
pub words32_of-bytes_of_words32 : (xs : List ℕ) → ((i : ℕ) → slice_index xs i < 2 ^ 32)
    → words32_of (bytes_of_words32 xs) ≡ xs
words32_of-bytes_of_words32 [] fits = refl
words32_of-bytes_of_words32 (x ∷ xs) fits =
    (λ i. from_le_bytes-to_le_bytes_4 x (fits 0) i ∷ words32_of-bytes_of_words32 xs (λ k. fits (suc k)) i)

pub salsa20_8-bytes_of_words32 : (xs : List ℕ) → ((i : ℕ) → slice_index xs i < 2 ^ 32)
    → salsa20_8 (bytes_of_words32 xs) ≡ bytes_of_words32 (salsa_words xs)
unfolding salsa20_8 salsa_words
salsa20_8-bytes_of_words32 xs fits = ap (λ (l : List ℕ). bytes_of_words32 (salsa_words l))
    (words32_of-bytes_of_words32 xs fits)

-- Block i of the bytes, of 64 bytes, is the bytes of block i of the words, of sixteen words.
pub block-bytes_of_words32 : (xs : List ℕ) (i : ℕ) → block 64 (bytes_of_words32 xs) i
    ≡ bytes_of_words32 (block 16 xs i)
block-bytes_of_words32 xs i =
    let e : 64 * i ≡ 4 * (16 * i) = omega arith in
    rw (e, drop-bytes_of_words32 (16 * i) xs) (take-bytes_of_words32 16 (drop (16 * i) xs))

four_fit : (a b c d : ℕ) → a < 2 ^ 8 → b < 2 ^ 8 → c < 2 ^ 8 → d < 2 ^ 8 → (k : ℕ)
    → slice_index (a ∷ b ∷ c ∷ d ∷ []) k < 2 ^ 8
four_fit a b c d ha hb hc hd zero = ha
four_fit a b c d ha hb hc hd (suc zero) = hb
four_fit a b c d ha hb hc hd (suc (suc zero)) = hc
four_fit a b c d ha hb hc hd (suc (suc (suc zero))) = hd
four_fit a b c d ha hb hc hd (suc (suc (suc (suc k)))) = lit< tt

-- The first n + 4 elements are the first n and the next four.
take_four : (xs : List ℕ) (n m : ℕ) → m ≡ n + 4 → m ≤ length xs
    → take m xs ≡ take n xs ++ slice_index xs n ∷ slice_index xs (n + 1) ∷ slice_index xs (n + 2)
    ∷ slice_index xs (n + 3) ∷ []
take_four xs n m e le =
    let e0 = take_more xs n 0 (omega arith) in
    let e1 = take_more xs (n + 1) 0 (omega arith) in
    let e2 = take_more xs (n + 2) 0 (omega arith) in
    let e3 = take_more xs (n + 3) 0 (omega arith) in
    let m3 : m ≡ n + 3 + 1 = omega arith in
    let m2 : n + 3 ≡ n + 2 + 1 = omega arith in
    let m1 : n + 2 ≡ n + 1 + 1 = omega arith in
    ap (λ (k : ℕ). take k xs) m3 ∙ e3
    ∙ ap (λ (l : List ℕ). l ++ slice_index xs (n + 3) ∷ [])
    (ap (λ (k : ℕ). take k xs) m2 ∙ e2 ∙ ap (λ (l : List ℕ). l ++ slice_index xs (n + 2) ∷ [])
    (ap (λ (k : ℕ). take k xs) m1 ∙ e1 ∙ ap (λ (l : List ℕ). l ++ slice_index xs (n + 1) ∷ []) e0))
    ∙ simp append_assoc

-- If the first i words have been read, reading word number i gives the first i + 1 words.
pub read_next : (words bytes : List ℕ) (i w : ℕ) → bytes_of_words32 (take i words) ≡ take (4 * i) bytes
    → i < length words → length bytes ≡ 4 * length words
    → ((k : ℕ) → slice_index bytes k < 2 ^ 8)
    → w ≡ from_le_bytes w32 (slice_index bytes (4 * i) ∷ slice_index bytes (4 * i + 1)
    ∷ slice_index bytes (4 * i + 2) ∷ slice_index bytes (4 * i + 3) ∷ [])
    → bytes_of_words32 (take (i + 1) (slice_set words i w)) ≡ take (4 * (i + 1)) bytes
read_next words bytes i w done lt len fits ew =
    let four : List ℕ = slice_index bytes (4 * i) ∷ slice_index bytes (4 * i + 1)
    ∷ slice_index bytes (4 * i + 2) ∷ slice_index bytes (4 * i + 3) ∷ [] in
    let back : to_le_bytes w32 w ≡ four = le_bytes_4 four w refl
    (four_fit (slice_index bytes (4 * i)) (slice_index bytes (4 * i + 1)) (slice_index bytes (4 * i + 2))
    (slice_index bytes (4 * i + 3)) (fits (4 * i)) (fits (4 * i + 1)) (fits (4 * i + 2))
    (fits (4 * i + 3))) ew in
    ap bytes_of_words32 (take_more_set words i w lt)
    ∙ bytes_of_words32-append (take i words) (w ∷ [])
    ∙ (λ t. done t ++ (append-nil (to_le_bytes w32 w) ∙ back) t)
    ∙ sym (take_four bytes (4 * i) (4 * (i + 1)) (omega arith) (omega arith))

-- If the first i words have been written, writing word number i gives the first i + 1 words.
pub stored_next : (words bytes ys : List ℕ) (i k : ℕ) → take (4 * i) bytes ≡ bytes_of_words32 (take i words)
    → i < length words → length bytes ≡ 4 * length words
    → ys ≡ to_le_bytes w32 (slice_index words i) → take (4 * (i + 1)) (put_mid (4 * i) k bytes ys)
    ≡ bytes_of_words32 (take (i + 1) words)
stored_next words bytes ys i k done lt len ey =
    let ly : length ys ≡ 4 = rw ey refl in
    take-put_mid (4 * i) k bytes ys (4 * (i + 1)) (omega arith) (omega arith)
    ∙ (λ t. done t ++ (ey ∙ sym (append-nil (to_le_bytes w32 (slice_index words i)))) t)
    ∙ sym (ap bytes_of_words32 (take_more words i 0 lt) ∙ bytes_of_words32-append (take i words)
    (slice_index words i ∷ []))

-- If the first i words have been xored, xoring word number i gives the xor of the first i + 1
-- words.
pub xored_next : (x y out : List ℕ) (i : ℕ) → take i out ≡ take i (zip2 bit_xor x y) → length x ≡ length out
    → length y ≡ length out → i < length out
    → take (i + 1) (slice_set out i (bit_xor (slice_index x i) (slice_index y i)))
    ≡ take (i + 1) (zip2 bit_xor x y)
xored_next x y out i done lx ly lt =
    let lz : length (zip2 bit_xor x y) ≡ length x = length-zip2 bit_xor x y (lx ∙ sym ly) in
    take_more_set out i _ lt
    ∙ (λ t. done t ++ sym (get_or-zip2 bit_xor x y i 0 0 0 (omega arith) (omega arith)) t ∷ [])
    ∙ sym (take_more (zip2 bit_xor x y) i 0 (omega arith))

-- The number that the bytes of a word and more bytes encode, little endian.
le_number : (x : ℕ) (l : List ℕ) → x < 2 ^ 32 → number_l 256 (to_le_bytes w32 x ++ l)
    ≡ x + 2 ^ 32 * number_l 256 l
le_number x l fits = omega arith

-- The low 64 bits of the number that a list of words encodes are the first two words.
pub low_words : (x y : ℕ) (l : List ℕ) → x < 2 ^ 32 → y < 2 ^ 32
    → number_l 256 (bytes_of_words32 (x ∷ y ∷ l)) % 2 ^ 64 ≡ x + y * 2 ^ 32 % 2 ^ 64
low_words x y l fx fy =
    let a = le_number x (to_le_bytes w32 y ++ bytes_of_words32 l) fx in
    let b = le_number y (bytes_of_words32 l) fy in
    omega (arith, a, b)
