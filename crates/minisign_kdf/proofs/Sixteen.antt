-- Lemmas that replace a list of four or sixteen words by the list of its elements.
use Rattle.std.proofs.Common.{◌≡◌, ℕ, List, [], ◌∷◌, ◌++◌, length, length-append, slice_index, arith, refl}
use Rattle.std.proofs.Common.{sym}
use Rattle.std.specs.Simd.Lanes.{zip2}
use Rattle.std.proofs.lemmas.Simd.{pick_l_whole}

-- A list of length sixteen is the list of its elements at the indices 0 to 15.
pub sixteen_of : (xs : List ℕ) → length xs ≡ 16
    → xs ≡ slice_index xs 0 ∷ slice_index xs 1 ∷ slice_index xs 2 ∷ slice_index xs 3 ∷ slice_index xs 4
    ∷ slice_index xs 5 ∷ slice_index xs 6 ∷ slice_index xs 7
    ∷ slice_index xs 8 ∷ slice_index xs 9 ∷ slice_index xs 10 ∷ slice_index xs 11 ∷ slice_index xs 12
    ∷ slice_index xs 13 ∷ slice_index xs 14 ∷ slice_index xs 15 ∷ []
sixteen_of xs h = sym (pick_l_whole 0 xs 16 h)

-- A list of length four is the list of its elements at the indices 0 to 3.
pub four_of : (xs : List ℕ) → length xs ≡ 4 → xs ≡ slice_index xs 0 ∷ slice_index xs 1 ∷ slice_index xs 2
    ∷ slice_index xs 3 ∷ []
four_of xs h = sym (pick_l_whole 0 xs 4 h)

-- Combining two blocks of sixteen words row by row gives the same as combining them at once.
pub zip2_rows : (f : ℕ → ℕ → ℕ) (a b c d p q r s : List ℕ) → length a ≡ 4 → length b ≡ 4 → length c ≡ 4
    → length d ≡ 4
    → length p ≡ 4 → length q ≡ 4 → length r ≡ 4 → length s ≡ 4
    → zip2 f a p ++ zip2 f b q ++ zip2 f c r ++ zip2 f d s ≡ zip2 f (a ++ b ++ c ++ d) (p ++ q ++ r ++ s)
zip2_rows f a b c d p q r s la lb lc ld lp lq lr ls =
    rw (
      four_of a la,
      four_of b lb,
      four_of c lc,
      four_of d ld,
      four_of p lp,
      four_of q lq,
      four_of r lr,
      four_of s ls,
    ) refl

pub length_rows : (a b c d : List ℕ) → length a ≡ 4 → length b ≡ 4 → length c ≡ 4 → length d ≡ 4
    → length (a ++ b ++ c ++ d) ≡ 16
length_rows a b c d la lb lc ld = omega (arith, length-append {A = ℕ})
