-- Proves the goals of `Follower::reports` that the prover leaves open.
use Rattle.std.proofs.Common.{sym}
use Rattle.minisign_install.specs.Traces.{event_of}
use Rattle.minisign_install.proofs.FullTraces.{other_reported, other_text, question_was_due}
use Rattle.minisign_install.proofs.Tracing.{signature_is}
use Rattle.minisign_install.proofs.traces.Follower.reports.Goals as goal

pub returns-in-Signature-clause-sound : goal.returns-in-Signature-clause-sound
returns-in-Signature-clause-sound c = λ is w s m new knows follows performs.
    let performed = rw c.in-Signature.is at performs in
    let (at, same) = signature_is w s s.due _ _ m new performed in
    rw c.in-Signature.is
    (c.report_signature.ensures.sound is w s follows.stored (knows.named at) (sym same))

pub returns-in-Signature-clause-complete : goal.returns-in-Signature-clause-complete
returns-in-Signature-clause-complete c = λ w s m new knows follows performs fitting room.
    let performed = rw c.in-Signature.is at performs in
    let (at, same) = signature_is w s s.due _ _ m new performed in
    c.report_signature.ensures.complete w s follows.stored (knows.named at) (sym same) room at

pub returns-in_default-clause-sound : goal.returns-in_default-clause-sound
returns-in_default-clause-sound c = λ is w s m new knows follows performs.
    let (stored, fitting) = c.has_reported.ensures.sound is s follows.stored in record {
      stored = stored;
      fits = fitting;
      asked = follows.asked;
      whole = λ asked. follows.whole (question_was_due s (event_of c.args.report.now) fitting
          (other_text c.args.report.now c.in_default.not-Signature) asked);
    }

pub returns-in_default-clause-complete : goal.returns-in_default-clause-complete
returns-in_default-clause-complete c = λ w s m new knows follows performs fitting room.
    c.has_reported.ensures.complete s follows.stored fitting
    (other_reported w s c.args.report.now m new c.in_default.not-Signature performs)
