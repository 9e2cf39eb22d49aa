-- Proves the goal of `sources::fill_from` that the prover leaves open.
use Rattle.std.proofs.Common.{◌∙◌, arith, length-drop}
use Rattle.std.proofs.KnownBytes.{Consumes-trans}
use Rattle.minisign_base.proofs.Filled.{take-filled}
use Rattle.minisign_base.proofs.devices.sources.fill_from.Goals as goal

pub rest-preserved : goal.rest-preserved
rest-preserved g c =
    let at = c.rest.at in
    let n = c.in_ok-n.n in
    let (within, given, no_new_fault) = c.rest.invariant in
    let bound = c.in_ok-n.ensures.bound in (
      omega (arith, bound, length-drop at c.rest.buf),
      rw (take-filled at n c.rest.buf c.read.new.buf within bound)
          (Consumes-trans _ _ _ _ _ given c.in_ok-n.ensures.bytes),
      c.in_ok-n.ensures.no_new_fault ∙ no_new_fault,
    )
