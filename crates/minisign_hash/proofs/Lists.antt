-- Lemmas about lists of words and their bytes, and about bounds on the elements of lists.
use Rattle.std.proofs.Common.{◌≡◌, ℕ, zero, suc, ◌+◌, ◌<◌, Bool, true, false, ◌&&◌, refl, w64, nat_lt, List}
use Rattle.std.proofs.Common.{[], ◌∷◌, ◌++◌, length, take, slice_index, slice_index_or, sym, ap, ◌∙◌}
use Rattle.std.specs.Int.{to_le_bytes}
use Rattle.std.specs.List.{flat_map, list_all}
use Rattle.std.proofs.lemmas.List.{append-nil, take_more}
use Rattle.std.proofs.lemmas.Bool.{ltb-true}
use Rattle.std.proofs.lemmas.List.Concat.{flat_map-append}
use Rattle.minisign_hash.specs.Words.{bytes_of_words64}
use Rattle.std.proofs.lemmas.Simd.{pick_l_whole}

-- A list of length eight is the list of its elements at the indices 0 to 7.
pub eight_of : (xs : List ℕ) → length xs ≡ 8 → xs ≡ slice_index xs 0 ∷ slice_index xs 1 ∷ slice_index xs 2
    ∷ slice_index xs 3
    ∷ slice_index xs 4 ∷ slice_index xs 5 ∷ slice_index xs 6 ∷ slice_index xs 7 ∷ []
eight_of xs h = sym (pick_l_whole 0 xs 8 h)

-- The bytes of the first i + 1 words are those of the first i, followed by those of word number i.
pub bytes_of_words64_more : (xs : List ℕ) (i : ℕ) → i < length xs → bytes_of_words64 (take (i + 1) xs)
    ≡ bytes_of_words64 (take i xs) ++ to_le_bytes w64 (slice_index xs i)
unfolding bytes_of_words64
bytes_of_words64_more xs i h =
    let f : ℕ → List ℕ = to_le_bytes w64 in
    let x : ℕ = slice_index xs i in
    ap (flat_map f) (take_more xs i 0 h) ∙ flat_map-append f (take i xs) (x ∷ [])
    ∙ ap (λ (l : List ℕ). flat_map f (take i xs) ++ l) (append-nil (f x))

and-left : (a b : Bool) → (a && b) ≡ true → a ≡ true
and-left true b h = refl
and-left false b h = h

and-right : (a b : Bool) → (a && b) ≡ true → b ≡ true
and-right true b h = h
and-right false b h = cc

-- If `list_all` returns true for the test that a number is below k, each number of the list is below k.
below_row : (k : ℕ) → 0 < k → (xs : List ℕ) → list_all (λ x. nat_lt x k) xs ≡ true → (j : ℕ)
    → slice_index xs j < k
below_row k some [] h j = some
below_row k some (x ∷ xs) h zero = ltb-true x k (and-left _ _ h)
below_row k some (x ∷ xs) h (suc j) = below_row k some xs (and-right _ _ h) j

-- The same as `below_row` for a list of lists of numbers.
pub below_all : (k : ℕ) → 0 < k → (xss : List (List ℕ)) → list_all (list_all (λ x. nat_lt x k)) xss ≡ true
    → (i j : ℕ) → slice_index (slice_index_or xss i []) j < k
below_all k some [] h i j = some
below_all k some (xs ∷ xss) h zero j = below_row k some xs (and-left _ _ h) j
below_all k some (xs ∷ xss) h (suc i) j = below_all k some xss (and-right _ _ h) i j
