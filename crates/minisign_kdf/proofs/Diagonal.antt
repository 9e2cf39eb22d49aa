-- Lemmas about the diagonal order. Reordering commutes with xor and with wrapping sums; eight
-- rounds on words in diagonal order are those of RFC 7914; and the low 64 bits of a block are its
-- words at the indices 0 and 13.
use Rattle.std.proofs.Common.{◌≡◌, ℕ, zero, suc, ◌+◌, ◌*◌, ◌%◌, ◌^◌, ◌<◌, List, [], ◌∷◌, ◌++◌, length, map}
use Rattle.std.proofs.Common.{slice_index, bit_xor, lit<, refl, ap, ◌∙◌}
use Rattle.std.specs.List.{range_with_len}
use Rattle.std.specs.Simd.Lanes.{number_l, zip2}
use Rattle.minisign_kdf.specs.Diagonal.{column_round, row_round, salsa_words, standard_order}
use Rattle.minisign_kdf.specs.Diagonal.{transposed_square}
use Rattle.minisign_kdf.specs.Salsa20.{add32, bytes_of_words32, double_round, quarter_at}
use Rattle.minisign_kdf.proofs.Bytes.{low_words}
use Rattle.minisign_kdf.proofs.Sixteen.{sixteen_of}

-- Reordering commutes with xor.
pub standard_order-xor : (xs ys : List ℕ) → length xs ≡ 16 → length ys ≡ 16
    → standard_order (zip2 bit_xor xs ys) ≡ zip2 bit_xor (standard_order xs) (standard_order ys)
unfolding standard_order
standard_order-xor xs ys lx ly = rw (sixteen_of xs lx, sixteen_of ys ly) refl

-- Reordering commutes with wrapping sums.
pub standard_order-sum : (xs ys : List ℕ) → length xs ≡ 16 → length ys ≡ 16
    → standard_order (zip2 add32 xs ys) ≡ zip2 add32 (standard_order xs) (standard_order ys)
unfolding standard_order
standard_order-sum xs ys lx ly = rw (sixteen_of xs lx, sixteen_of ys ly) refl

pub length-standard_order : (xs : List ℕ) → length (standard_order xs) ≡ 16
unfolding standard_order
length-standard_order xs = refl

pub length-transposed_square : (xs : List ℕ) → length (transposed_square xs) ≡ 16
unfolding transposed_square
length-transposed_square xs = refl

-- The row round is the column round of the transposed square, transposed back.
pub row_round-transposed_square : (xs : List ℕ) → length xs ≡ 16
    → row_round xs ≡ transposed_square (column_round (transposed_square xs))
unfolding row_round column_round quarter_at transposed_square
row_round-transposed_square xs l = rw (sixteen_of xs l) refl

-- If ys is the result of eight rounds on xs, both in diagonal order, the sum of ys and xs is
-- Salsa20/8 of xs.
pub salsa_words-ordered : (xs ys : List ℕ) → length xs ≡ 16 → length ys ≡ 16
    → standard_order ys ≡ double_round (double_round (double_round (double_round (standard_order xs))))
    → standard_order (zip2 add32 ys xs) ≡ salsa_words (standard_order xs)
unfolding salsa_words
salsa_words-ordered xs ys lx ly e =
    standard_order-sum ys xs ly lx ∙ ap (λ (l : List ℕ). zip2 add32 l (standard_order xs)) e

-- The low 64 bits of the number that a block encodes are its words at the indices 0 and 13.
pub low_bits_places : (xs : List ℕ) → slice_index xs 0 < 2 ^ 32 → slice_index xs 13 < 2 ^ 32
    → number_l 256 (bytes_of_words32 (standard_order xs)) % 2 ^ 64
    ≡ slice_index xs 0 + slice_index xs 13 * 2 ^ 32 % 2 ^ 64
unfolding standard_order
low_bits_places xs f0 f13 =
    low_words (slice_index xs 0) (slice_index xs 13)
    (map (λ w. slice_index xs (13 * w % 16)) (range_with_len 2 14)) f0 f13

-- == The words fit into 32 bits ==

append_fits : (xs ys : List ℕ) → ((k : ℕ) → slice_index xs k < 2 ^ 32) → ((k : ℕ) → slice_index ys k < 2 ^ 32)
    → (k : ℕ) → slice_index (xs ++ ys) k < 2 ^ 32
append_fits [] ys fx fy k = fy k
append_fits (x ∷ xs) ys fx fy zero = fx zero
append_fits (x ∷ xs) ys fx fy (suc k) = append_fits xs ys (λ j. fx (suc j)) fy k

map_fits : (g : ℕ → ℕ) (ks : List ℕ) → ((j : ℕ) → g j < 2 ^ 32) → (i : ℕ) → slice_index (map g ks) i < 2 ^ 32
map_fits g [] fits i = lit< tt
map_fits g (k ∷ ks) fits zero = fits k
map_fits g (k ∷ ks) fits (suc i) = map_fits g ks fits i

pub standard_order-fits : (a b c d : List ℕ) → ((k : ℕ) → slice_index a k < 2 ^ 32)
    → ((k : ℕ) → slice_index b k < 2 ^ 32) → ((k : ℕ) → slice_index c k < 2 ^ 32)
    → ((k : ℕ) → slice_index d k < 2 ^ 32) → (i : ℕ)
    → slice_index (standard_order (a ++ b ++ c ++ d)) i < 2 ^ 32
unfolding standard_order
standard_order-fits a b c d fa fb fc fd =
    map_fits (λ w. slice_index (a ++ b ++ c ++ d) (13 * w % 16)) (range_with_len 0 16)
    (λ w. append_fits (a ++ b ++ c) d (append_fits (a ++ b) c (append_fits a b fa fb) fc) fd (13 * w % 16))
