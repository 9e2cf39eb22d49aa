-- Proves the goals of `verify_with_files` that the prover leaves open.
use Rattle.std.proofs.Common.{inr}
use Rattle.std.proofs.lemmas.Result.{MatchResult-weaker, on_ok_weaker}
use Rattle.minisign_tool.proofs.Outcomes.{if_err_both}
use Rattle.minisign.specs.DeviceCalls.{rereader_call, sink_call}
use Rattle.minisign_tool.proofs.Unused.{silent, texts_fail}
use Rattle.minisign_tool.proofs.verify.verify_with_files.Goals as goal

pub returns-clause-accepted : goal.returns-clause-accepted
returns-clause-accepted g c =
    let texts = c.in_ok-pk_text.ensures.texts in
    on_ok_weaker c.verify_texts.result
    (λ h. record {
      pk_text = c.deref.result.now;
      sig_text = c.deref-2.result.now;
      message = h.verified.message;
      pk_known = rw c.deref.ensures texts.first_read.known_bytes;
      sig_known = rw c.deref-2.ensures texts.second_read.known_bytes;
      known_bytes = h.verified.known_bytes;
      vouched = record {
        key = h.key;
        box = h.box;
        key_read = h.key_read;
        box_read = h.box_read;
        vouches = h.verified.vouches;
      };
      lines_received = h.verified.status_received;
    })
    c.verify_texts.ensures.accepted

pub returns-clause-refused : goal.returns-clause-refused
returns-clause-refused g c =
    let texts = c.in_ok-pk_text.ensures.texts in
    MatchResult-weaker c.verify_texts.result
    (if_err_both _ _ c.verify_texts.result
    (texts_fail (g.S.Scheme.accepts c.args.scheme.now) c.deref.result.now c.deref-2.result.now
    (rereader_call g.R.Source g.R.Rereader.steady _ _)
    (sink_call g.W.Sink _ _) (silent _ _) c.verify_texts.result c.verify_texts.ensures.refused)
    c.verify_texts.ensures.status_prefix_received)
    (λ x ok. ok)
    (λ e both. inr (
      c.deref.result.now,
      c.deref-2.result.now,
      record {
        first_read = rw c.deref.ensures texts.first_read;
        second_read = rw c.deref-2.ensures texts.second_read;
      },
      both.0,
      both.1,
    ))
