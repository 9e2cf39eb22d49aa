-- Proves the goals of `verify_with_files` that the prover leaves open.
use Rattle.std.proofs.Common.{inr}
use Rattle.std.proofs.lemmas.Result.{MatchResult-weaker, on_ok_weaker}
use Rattle.minisign_tool.proofs.Outcomes.{if_err_both, on_ok_both}
use Rattle.minisign_tool.proofs.verify_raw.verify_with_files.Goals as goal

pub returns-clause-accepted : goal.returns-clause-accepted
returns-clause-accepted g c =
    on_ok_weaker c.verify_raw.result
    (λ both. record {
      key_file = c.deref.result.now;
      signature_file = c.deref-2.result.now;
      message = both.0.0;
      held = record {
        first_read = rw c.deref.ensures.value c.in_ok-key.ensures.bytes;
        second_read = rw c.deref-2.ensures.value c.in_ok-signature.ensures.bytes;
      };
      read = both.0.1;
      vouched = both.0.2;
      line_received = both.1;
    })
    (on_ok_both _ _ c.verify_raw.result c.verify_raw.ensures.accepted c.verify_raw.ensures.errors_received)

pub returns-clause-refused : goal.returns-clause-refused
returns-clause-refused g c =
    MatchResult-weaker c.verify_raw.result
    (if_err_both _ _ c.verify_raw.result c.verify_raw.ensures.refused c.verify_raw.ensures.prefix_received)
    (λ x ok. ok)
    (λ e both. inr (
      c.deref.result.now,
      c.deref-2.result.now,
      record {
        first_read = rw c.deref.ensures.value c.in_ok-key.ensures.bytes;
        second_read = rw c.deref-2.ensures.value c.in_ok-signature.ensures.bytes;
      },
      both.0,
      both.1,
    ))
