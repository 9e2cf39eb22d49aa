-- Proves the goals of `copy_pieces` that the prover leaves open.
use Rattle.std.proofs.Common.{◌∙◌, append_assoc, inr, rules}
use Rattle.minisign.proofs.Common.{Appends-trans, Consumes-trans, AppendsPrefix-after}
use Rattle.minisign.proofs.ErrorsAndPrefixes.{consumed, passed_up}
use Rattle.minisign.proofs.Copies.{prefix_of_ahead, prefix_of_all, known_bytes_append, known_bytes_kept}
use Rattle.minisign.proofs.Copies.{keeps_same}
use Rattle.minisign.proofs.copying.copy_pieces.Goals as goal

pub pieces-preserved : goal.pieces-preserved
pieces-preserved g c =
    let (done, bytes_read, taken, fed, since) = c.pieces.invariant.bytes_read in
    let ((put, out_no_new_fault), unflushed) = c.in_ok-put_bytes-in-Ok.ensures in
    record {
      no_new_fault = c.in-Ok.ensures.no_new_fault ∙ c.pieces.invariant.no_new_fault;
      out_no_new_fault = out_no_new_fault ∙ c.pieces.invariant.out_no_new_fault;
      unflushed = unflushed ∙ c.pieces.invariant.unflushed;
      marked = c.in-Ok.ensures.marked ∙ c.pieces.invariant.marked;
      mark = c.in-Ok.ensures.mark ∙ c.pieces.invariant.mark;
      unfinished = c.update.ensures.finalized;
      size = c.update.ensures.length ∙ c.pieces.invariant.size;
      bytes_read = (
        _,
        Consumes-trans _ _ _ _ _ bytes_read c.in-Ok.ensures.bytes,
        Appends-trans _ _ _ _ _ taken put,
        λ m held. rw (← append_assoc) (c.update.ensures.fed _ (fed m held)),
        known_bytes_append _ _ _ _ since c.in-Ok.ensures.since,
      );
    }

pub returns-then-n-eq0-clause-copied : goal.returns-then-n-eq0-clause-copied
returns-then-n-eq0-clause-copied g c =
    let (done, bytes_read, taken, fed, since) = c.pieces.invariant.bytes_read in (
      done,
      fed,
      record {
        read = search rules;
        since = search rules;
        received = taken;
        no_new_fault = c.pieces.invariant.out_no_new_fault;
        failed = tt;
        ahead = tt;
        left = tt;
        front = tt;
        prefix_read = tt;
        marked = c.in-Ok.ensures.marked ∙ c.pieces.invariant.marked;
        unflushed = c.pieces.invariant.unflushed;
      },
    )

pub returns-in_err-put_bytes-in-Ok-clause-refused : goal.returns-in_err-put_bytes-in-Ok-clause-refused
returns-in_err-put_bytes-in-Ok-clause-refused g c =
    let (done, bytes_read, taken, fed, since) = c.pieces.invariant.bytes_read in
    let more = Consumes-trans _ _ _ _ _ bytes_read c.in-Ok.ensures.bytes in
    let (((fault, rose), put_front), unflushed) = c.in_err-put_bytes-in-Ok.ensures in
    let put = AppendsPrefix-after _ _ _ _ _ taken put_front in
    let (message, ahead, front) = prefix_of_ahead _ _ _ _ _ more put in
    passed_up _ _ _ c.from_residual.ensures.1 (
      message,
      record {
        read = tt;
        since = tt;
        received = tt;
        no_new_fault = tt;
        failed = inr (inr (
          fault,
          rw c.pieces.invariant.out_no_new_fault at rose,
        ));
        ahead = ahead;
        left = consumed _ _ _ more;
        front = front;
        prefix_read = (_, known_bytes_append _ _ _ _ since c.in-Ok.ensures.since, put);
        marked = c.in-Ok.ensures.marked ∙ c.pieces.invariant.marked;
        unflushed = unflushed ∙ c.pieces.invariant.unflushed;
      },
    )

pub returns-in-Err-clause-refused : goal.returns-in-Err-clause-refused
returns-in-Err-clause-refused g c =
    let (done, bytes_read, taken, fed, since) = c.pieces.invariant.bytes_read in
    let put = prefix_of_all _ _ _ _ taken (keeps_same _) in
    let (message, ahead, front) = prefix_of_ahead _ _ _ _ _ bytes_read put in (
      message,
      record {
        read = tt;
        since = tt;
        received = tt;
        no_new_fault = tt;
        failed = search rules;
        ahead = ahead;
        left = search rules;
        front = front;
        prefix_read = (done, known_bytes_kept _ _ _ since c.in-Err.ensures.since_kept, put);
        marked = c.in-Err.ensures.marked ∙ c.pieces.invariant.marked;
        unflushed = c.pieces.invariant.unflushed;
      },
    )
