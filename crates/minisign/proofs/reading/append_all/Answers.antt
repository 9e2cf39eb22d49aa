-- Proves the goal of `append_all` that the prover leaves open.
use Rattle.std.proofs.Common.{◌∙◌, append_assoc, refl}
use Rattle.minisign.proofs.Common.{Consumes-trans}
use Rattle.minisign.proofs.reading.append_all.Goals as goal

pub pieces-preserved : goal.pieces-preserved
pieces-preserved g c =
    let (done, bytes_read, received) = c.pieces.invariant.bytes_read in
    record {
      no_new_fault = c.in-Ok.ensures.no_new_fault ∙ c.pieces.invariant.no_new_fault;
      marked = c.in-Ok.ensures.marked ∙ c.pieces.invariant.marked;
      mark = c.in-Ok.ensures.mark ∙ c.pieces.invariant.mark;
      bytes_read = (
        _,
        Consumes-trans _ _ _ _ _ bytes_read c.in-Ok.ensures.bytes,
        rw (c.in_ok-extend_from_slice-in-Ok.ensures.items, received, append_assoc) refl,
      );
    }
