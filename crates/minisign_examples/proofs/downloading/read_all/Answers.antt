-- Proves the goal of `read_all` that the prover leaves open.
use Rattle.std.proofs.Common.{◌∙◌, append_assoc}
use Rattle.std.proofs.KnownBytes.{Consumes-trans}
use Rattle.minisign_examples.proofs.downloading.read_all.Goals as goal

pub pieces-preserved : goal.pieces-preserved
pieces-preserved g c =
    let (done, bytes_read, fed) = c.pieces.invariant.bytes_read in
    record {
      no_new_fault = c.in_ok-n.ensures.no_new_fault ∙ c.pieces.invariant.no_new_fault;
      mark = c.in_ok-n.ensures.mark ∙ c.pieces.invariant.mark;
      usable = c.update.ensures.usable;
      bytes_read = (
        _,
        Consumes-trans _ _ _ _ _ bytes_read c.in_ok-n.ensures.bytes,
        λ verdict m held. rw (← append_assoc) (c.update.ensures.fed verdict _ (fed verdict m held)),
      );
    }
