-- Proves the goal of `check_update` that the prover leaves open.
use Rattle.std.proofs.Common.{◌≡◌, Bool, true, false, not, refl, inl}
use Rattle.minisign_examples.specs.Updating.{another_name}
use Rattle.minisign_examples.proofs.Refusals.{specified_value}
use Rattle.minisign_examples.proofs.updating.check_update.Goals as goal

-- If the names are different, as `!=` says, `==` is false. `same` is the result of `==`.
differ : (same : Bool) → true ≡ not same → same ≡ false
differ true h = absurd (cc)
differ false h = refl

pub returns-then-ne : goal.returns-then-ne
unfolding another_name
returns-then-ne g c =
    let different_name = differ _ (rw c.as_str.ensures.value at c.if-ne.ensures) in
    inl (rw (specified_value _ _ c.in_ok-comment.ensures, different_name, c.fixed.ensures) refl)
