-- Proves the goal of `feed` that the prover leaves open.
use Rattle.std.proofs.Common.{◌∙◌, append_assoc}
use Rattle.minisign.proofs.Common.{Consumes-trans}
use Rattle.minisign.proofs.reading.feed.Goals as goal

pub pieces-preserved : goal.pieces-preserved
pieces-preserved g c =
    let (done, bytes_read, fed) = c.pieces.invariant.bytes_read in
    record {
      no_new_fault = c.in_ok-n.ensures.no_new_fault ∙ c.pieces.invariant.no_new_fault;
      marked = c.in_ok-n.ensures.marked ∙ c.pieces.invariant.marked;
      mark = c.in_ok-n.ensures.mark ∙ c.pieces.invariant.mark;
      unfinished = c.update.ensures.finalized;
      size = c.update.ensures.length ∙ c.pieces.invariant.size;
      bytes_read = (
        _,
        Consumes-trans _ _ _ _ _ bytes_read c.in_ok-n.ensures.bytes,
        λ m held. rw (← append_assoc) (c.update.ensures.fed _ (fed m held)),
      );
    }
