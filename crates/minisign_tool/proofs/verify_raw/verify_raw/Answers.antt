-- Proves the goal of `verify_raw` that the prover leaves open.
use Rattle.std.proofs.Common.{inr, subst}
use Rattle.std.proofs.lemmas.Result.{IfErr-weaker}
use Rattle.minisign.specs.DeviceCalls.{rereader_call, sink_call, no_sink}
use Rattle.minisign.specs.Verifying.{VerifyingFails}
use Rattle.minisign_tool.specs.Verify.{says_only}
use Rattle.minisign_tool.proofs.Unused.{box_fails}
use Rattle.minisign_tool.proofs.verify_raw.verify_raw.Goals as goal

pub returns-clause-refused : goal.returns-clause-refused
returns-clause-refused g c =
    IfErr-weaker c.verify.result _ _ (λ e h. inr (
      c.in_ok-pk.pk,
      c.in_ok-bones.bones,
      record {
        reads_key = c.in_ok-pk.ensures;
        reads_signature = c.in_ok-bones.ensures.read.0;
        known = c.in_ok-bones.ensures.read.1;
      },
      subst (λ x. VerifyingFails (g.S.Scheme.accepts c.args.scheme.now) c.in_ok-pk.pk x says_only
          (rereader_call g.R.Source g.R.Rereader.steady c.args.data_reader.now c.verify.new.data_reader)
          (sink_call g.W.Sink c.args.errors.now c.verify.new.status) no_sink e)
          c.from_bones-signature_box.ensures h,
    ))
    (box_fails (g.S.Scheme.accepts c.args.scheme.now) c.in_ok-pk.pk c.from_bones-signature_box.result
    (rereader_call g.R.Source g.R.Rereader.steady c.args.data_reader.now c.verify.new.data_reader)
    (sink_call g.W.Sink c.args.errors.now c.verify.new.status)
    _ c.verify.new.out c.verify.result c.verify.ensures.refused)
