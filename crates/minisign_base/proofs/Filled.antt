-- Lemmas about a buffer that is filled from its front, part by part.
use Rattle.std.proofs.Common.{◌≡◌, ℕ, ◌+◌, ◌-◌, ◌≤◌, List, ◌++◌, length, take, ap, sym, ◌∙◌, subst, arith}
use Rattle.std.proofs.Common.{refl}
use Rattle.std.proofs.lemmas.List.{take-take, length-take-le}
use Rattle.std.proofs.lemmas.Slice.{take-put_mid}
use Rattle.std.proofs.Math.Seq.{take-append-add}
use borrow.Rule.Slice.PartMut.{put_mid}

-- A buffer that is filled from an index on holds its old bytes up to the index, followed by the new
-- bytes.
pub take-filled : (at n : ℕ) (xs ys : List ℕ) → at ≤ length xs → n ≤ length ys
    → take (at + n) (put_mid at (length xs - at) xs ys) ≡ take at xs ++ take n ys
take-filled at n xs ys within short =
    let front : length (take at xs) ≡ at = length-take-le at xs within in
    sym (take-take (at + n) (at + length ys) _ (omega (arith, short)))
    ∙ ap (take (at + n)) (take-put_mid at _ xs ys _ refl within)
    ∙ subst (λ (k : ℕ). take (k + n) (take at xs ++ ys) ≡ take at xs ++ take n ys) front
    (take-append-add (take at xs) ys n)
