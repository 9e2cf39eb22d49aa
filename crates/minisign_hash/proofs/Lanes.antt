-- Lemmas about SIMD vectors: a row of four words is the list of its four lanes, two shifts rotate a lane, and
-- the words that are read from bytes are the numbers that the bytes encode.
use Rattle.std.proofs.Common.{◌≡◌, ℕ, ◌+◌, ◌-◌, ◌*◌, ◌/◌, ◌%◌, ◌^◌, ◌<◌, ◌≤◌, List, [], ◌∷◌, ◌++◌, length}
use Rattle.std.proofs.Common.{take, drop, slice_index, bit_or, bit_xor, arith, refl, sym, ap, ◌∙◌, w8, w64}
use Rattle.std.proofs.Common.{Fits}
use Rattle.std.proofs.lemmas.List.{drop-drop, drop-take, take-take}
use Rattle.std.proofs.lemmas.Simd.{below_from_Fits, chunk-fits, get_or_wider, length-chunk, pick_l_whole}
use Rattle.std.specs.Int.{from_le_bytes, rotate_right}
use Rattle.std.specs.Simd.Lanes.{Each1, chunk, digits_l, number_l, zip2}
use Rattle.minisign_hash.specs.Blake2b.{add64, mix}
use Rattle.minisign_hash.proofs.Lists.{eight_of}

-- A list of length four is the list of its elements at the indices 0 to 3.
pub four_of : (xs : List ℕ) → length xs ≡ 4 → xs ≡ slice_index xs 0 ∷ slice_index xs 1 ∷ slice_index xs 2
    ∷ slice_index xs 3 ∷ []
four_of xs h = sym (pick_l_whole 0 xs 4 h)

pub sixteen_of : (xs : List ℕ) → length xs ≡ 16 → xs ≡ slice_index xs 0 ∷ slice_index xs 1 ∷ slice_index xs 2
    ∷ slice_index xs 3
    ∷ slice_index xs 4 ∷ slice_index xs 5 ∷ slice_index xs 6 ∷ slice_index xs 7
    ∷ slice_index xs 8 ∷ slice_index xs 9 ∷ slice_index xs 10 ∷ slice_index xs 11
    ∷ slice_index xs 12 ∷ slice_index xs 13 ∷ slice_index xs 14 ∷ slice_index xs 15 ∷ []
sixteen_of xs h = sym (pick_l_whole 0 xs 16 h)

-- The bitwise or of two shifts rotates each lane.
pub shifts_rotate : (n : ℕ) (x y : List ℕ) → 0 < n → n < 64 → length x ≡ 4 → length y ≡ 4
    → zip2 bit_or
    (zip2 (λ a k. a / 2 ^ k) (zip2 bit_xor x y) (n ∷ n ∷ n ∷ n ∷ []))
    (zip2 (λ a k. a * 2 ^ k % 2 ^ 64) (zip2 bit_xor x y) ((64 - n) ∷ (64 - n) ∷ (64 - n) ∷ (64 - n) ∷ []))
    ≡ zip2 (λ a b. rotate_right w64 (bit_xor a b) n) x y
shifts_rotate n x y low high lx ly =
    let right : n % 64 ≡ n = omega arith in
    let left : (64 - n) % 64 ≡ 64 - n = omega arith in
    rw (four_of x lx, four_of y ly, right, left) refl

-- Four words of the vector, from word i on.
abbrev row : List ℕ → ℕ → List ℕ
row v i = slice_index v i ∷ slice_index v (i + 1) ∷ slice_index v (i + 2) ∷ slice_index v (i + 3) ∷ []

-- The exclusive or of two words, rotated right by n bits.
abbrev xor_right : ℕ → ℕ → ℕ → ℕ
xor_right n x y = rotate_right w64 (bit_xor x y) n

-- Computing the mixing function G in four lanes at once gives G on each of the four columns.
pub lanes_mixed : (v x y a d c b a' d' c' b' : List ℕ) → length v ≡ 16 → length x ≡ 4 → length y ≡ 4
    → a ≡ zip2 add64 (zip2 add64 (row v 0) (row v 4)) x → d ≡ zip2 (xor_right 32) (row v 12) a
    → c ≡ zip2 add64 (row v 8) d → b ≡ zip2 (xor_right 24) (row v 4) c
    → a' ≡ zip2 add64 (zip2 add64 a b) y → d' ≡ zip2 (xor_right 16) d a'
    → c' ≡ zip2 add64 c d' → b' ≡ zip2 (xor_right 63) b c'
    → row a' 0 ++ (row b' 0 ++ (row c' 0 ++ row d' 0))
    ≡ mix (mix (mix (mix v 0 4 8 12 (slice_index x 0) (slice_index y 0)) 1 5 9 13 (slice_index x 1)
    (slice_index y 1))
    2 6 10 14 (slice_index x 2) (slice_index y 2)) 3 7 11 15 (slice_index x 3) (slice_index y 3)
unfolding mix
lanes_mixed v x y a d c b a' d' c' b' lv lx ly ea ed ec eb ea' ed' ec' eb' =
    rw (eb', ec', ed', ea', eb, ec, ed, ea, sixteen_of v lv, four_of x lx, four_of y ly) refl

-- number_l 256 and from_le_bytes give the same number for eight bytes.
bytes_number : (xs : List ℕ) → length xs ≡ 8 → number_l 256 xs ≡ from_le_bytes w64 xs
bytes_number xs len = rw (eight_of xs len) (omega arith)

-- A chunk of a chunk is a chunk of the whole list.
part_of_part : (xs : List ℕ) (i j n m : ℕ) → j + m ≤ n → chunk j m (chunk i n xs) ≡ chunk (i + j) m xs
part_of_part xs i j n m fits =
    let whole : j + (n - j) ≡ n = omega arith in
    ap (take m) (ap (λ (k : ℕ). drop j (take k (drop i xs))) (sym whole) ∙ drop-take j (n - j) (drop i xs))
    ∙ take-take m (n - j) (drop j (drop i xs)) (omega arith)
    ∙ ap (take m) (drop-drop j i xs)

-- The four words of a vector that is read from bytes are the words of these bytes.
pub words_read : (bytes : List ℕ) (row j : ℕ) → 32 * row + 32 ≤ length bytes
    → ((k : ℕ) → Fits w8 (slice_index bytes k)) → j < 4
    → slice_index (digits_l (2 ^ 64) 4 (number_l 256 (chunk (32 * row) 32 bytes))) j
    ≡ from_le_bytes w64 (take 8 (drop (8 * (4 * row + j)) bytes))
words_read bytes row j fits below lt =
    let lanes : Each1 (λ x. x < 256) (chunk (32 * row) 32 bytes) = below_from_Fits w8 _
    (chunk-fits w8 (32 * row) 32 bytes below) in
    let part : chunk (8 * j) 8 (chunk (32 * row) 32 bytes) ≡ chunk (32 * row + 8 * j) 8 bytes = part_of_part
    bytes (32 * row) (8 * j) 32 8 (omega arith) in
    let place : 32 * row + 8 * j ≡ 8 * (4 * row + j) = omega arith in
    get_or_wider 256 8 (2 ^ 64) 4 (chunk (32 * row) 32 bytes) j refl lanes lt
    ∙ ap (number_l 256) (part ∙ ap (λ (k : ℕ). chunk k 8 bytes) place)
    ∙ bytes_number (chunk (8 * (4 * row + j)) 8 bytes)
    (length-chunk (8 * (4 * row + j)) 8 bytes (omega arith))
