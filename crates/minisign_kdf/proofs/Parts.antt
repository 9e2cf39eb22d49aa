-- Lemmas about lists whose parts of equal length are changed one after another.
use Rattle.std.proofs.Common.{◌≡◌, ℕ, ◌+◌, ◌*◌, ◌≤◌, List, ◌++◌, length, take, drop, refl, sym, ap, ◌∙◌}
use Rattle.std.proofs.Common.{arith, add-one}
use Rattle.std.proofs.Math.Nat.{mul-suc}
use Rattle.std.proofs.Math.Seq.{drop-drop}
use Rattle.std.proofs.lemmas.Slice.{drop-put_mid, take-put_mid}
use borrow.Rule.Slice.PartMut.{put_mid}
use Rattle.minisign_kdf.specs.Blocks.{block, joined_lists}
use Rattle.std.proofs.lemmas.List.{take_all}
use Rattle.minisign_kdf.proofs.Joined.{joined_lists_next, joined_lists_none}

-- The first i parts of xs are those of xs0, changed by f; the others are unchanged.
pub record AreChanged (f : List ℕ → List ℕ) (len i : ℕ) (xs0 xs : List ℕ) : Type 0 where
  pub front : take (len * i) xs ≡ joined_lists (λ j. f (block len xs0 j)) i
  pub back : drop (len * i) xs ≡ drop (len * i) xs0

next_offset : (len i : ℕ) → len * (i + 1) ≡ len * i + len
next_offset len i = ap (λ (j : ℕ). len * j) (add-one i) ∙ mul-suc len i

-- If the first i parts have been changed, changing part number i gives the first i + 1 changed
-- parts.
pub changed_next : (f : List ℕ → List ℕ) (len i w : ℕ) (xs0 xs ys : List ℕ) → AreChanged f len i xs0 xs
    → w ≡ len → len * i + len ≤ length xs → length ys ≡ len
    → ys ≡ f (take w (drop (len * i) xs)) → AreChanged f len (i + 1) xs0 (put_mid (len * i) w xs ys)
changed_next f len i w xs0 xs ys done ew fits ly ey =
    let e : len * (i + 1) ≡ len * i + len = next_offset len i in
    let this : ys ≡ f (block len xs0 i) = ey ∙ (λ t. f (take (ew t) (done.back t))) in
    let step : drop (len * (i + 1)) xs ≡ drop (len * (i + 1)) xs0 =
    ap (λ (k : ℕ). drop k xs) e ∙ sym (drop-drop len (len * i) xs) ∙ ap (drop len) done.back
    ∙ drop-drop len (len * i) xs0 ∙ ap (λ (k : ℕ). drop k xs0) (sym e) in
    record {
      front = take-put_mid (len * i) w xs ys (len * (i + 1)) (omega arith) (omega arith)
          ∙ (λ t. done.front t ++ this t) ∙ sym (joined_lists_next (λ (j : ℕ). f (block len xs0 j)) i);
      back = drop-put_mid (len * i) w xs ys (len * (i + 1)) (omega arith) (omega arith) (omega arith) ∙ step;
    }

pub changed_none : (f : List ℕ → List ℕ) (len : ℕ) (xs : List ℕ) → AreChanged f len 0 xs xs
changed_none f len xs =
    let e : len * 0 ≡ 0 = omega arith in
    record { front = rw e (sym (joined_lists_none (λ (j : ℕ). f (block len xs j)))); back = refl }

pub changed_all : (f : List ℕ → List ℕ) (len i n : ℕ) (xs0 xs : List ℕ) → AreChanged f len i xs0 xs → i ≡ n
    → length xs ≡ len * n → xs ≡ joined_lists (λ j. f (block len xs0 j)) n
changed_all f len i n xs0 xs done e lx =
    sym (take_all (len * i) xs (let m : len * i ≡ len * n = ap (λ (j : ℕ). len * j) e in omega arith))
    ∙ done.front ∙ ap (joined_lists (λ (j : ℕ). f (block len xs0 j))) e

-- If the first i lists of n elements have been written, writing list number i gives the first i + 1
-- lists.
pub appended_next : (f : ℕ → List ℕ) (n i k : ℕ) (xs ys : List ℕ) → take (n * i) xs ≡ joined_lists f i
    → ys ≡ f i → length ys ≡ n → n * i ≤ length xs
    → take (n * (i + 1)) (put_mid (n * i) k xs ys) ≡ joined_lists f (i + 1)
appended_next f n i k xs ys done ey ly fits =
    let e : n * (i + 1) ≡ n * i + n = next_offset n i in
    take-put_mid (n * i) k xs ys (n * (i + 1)) (omega arith) fits ∙ (λ t. done t ++ ey t)
    ∙ sym (joined_lists_next f i)
