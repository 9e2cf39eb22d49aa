-- Proves the goal of `sinks::write_all` that the prover leaves open.
use Rattle.std.proofs.Common.{◌∙◌, arith, length-drop, take-add}
use Rattle.std.proofs.lemmas.List.{take_rest}
use Rattle.std.proofs.KnownBytes.{Appends-trans}
use Rattle.minisign_base.proofs.devices.sinks.write_all.Goals as goal

pub rest-preserved : goal.rest-preserved
rest-preserved g c =
    let at = c.rest.at in
    let n = c.in_ok-at.field-0 in
    let xs = c.args.bytes.now in
    let (within, taken, no_new_fault, unflushed) = c.rest.invariant in
    let bound = rw take_rest at c.in_ok-at.ensures.bound in
    let bytes = rw take_rest at c.in_ok-at.ensures.bytes in (
      omega (arith, bound, length-drop at xs),
      rw (take-add at n xs) (Appends-trans _ _ _ _ _ taken bytes),
      c.in_ok-at.ensures.no_new_fault ∙ no_new_fault,
      c.in_ok-at.ensures.unflushed ∙ unflushed,
    )
