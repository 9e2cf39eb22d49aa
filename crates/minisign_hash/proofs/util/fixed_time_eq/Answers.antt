-- Proves the goals of `fixed_time_eq` that the prover leaves open.
use Rattle.std.proofs.Common.{◌≡◌, ℕ, List, bytes_eq, bit_xor, nat_eq, inl, inr, slice_index, refl, ap, arith}
use Rattle.std.proofs.lemmas.Bool.{cases_lt}
use Rattle.std.proofs.lemmas.Bool.Decides.{Decides-eqb, same_from_decides}
use Rattle.std.proofs.lemmas.Grind.{same_number_lists}
use Rattle.std.proofs.lemmas.Slice.Eq.{bytes_eq-Decides}
use Rattle.minisign_hash.proofs.Bits.{left_from_or, right_from_or, same_from_xor, xor_from_same}
use Rattle.minisign_hash.proofs.util.fixed_time_eq.Goals as goal

pub bytes-preserved : goal.bytes-preserved
bytes-preserved c =
    let lhs : List ℕ = c.args.lhs.now in
    let rhs : List ℕ = c.args.rhs.now in
    let i : ℕ = c.bytes.i in
    let d : ℕ = c.bytes.differing in
    let x : ℕ = slice_index lhs i in
    let y : ℕ = slice_index rhs i in (
      λ none k below. elim (cases_lt k i) [
        | inl before ↦ c.bytes.invariant.0 (left_from_or d (bit_xor x y) none) k before
        | inr behind ↦
            let here : k ≡ i = omega arith in
            rw here (same_from_xor x y (right_from_or d (bit_xor x y) none))
      ],
      λ same. rw (c.bytes.invariant.1 same, xor_from_same x y (ap (λ (l : List ℕ). slice_index l i) same))
          refl,
    )

pub returns : goal.returns
returns c =
    let lhs : List ℕ = c.args.lhs.now in
    let rhs : List ℕ = c.args.rhs.now in
    let d : ℕ = c.bytes.differing in
    let zero_iff = Decides-eqb d 0 in
    same_from_decides {P = lhs ≡ rhs} (nat_eq d 0) (bytes_eq lhs rhs) (
      λ t. same_number_lists lhs rhs (omega arith)
          (λ k below. c.bytes.invariant.0 (zero_iff.0 t) k (omega arith)),
      λ same. zero_iff.1 (c.bytes.invariant.1 same),
    )
    (bytes_eq-Decides lhs rhs)
