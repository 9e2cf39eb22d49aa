-- Proves the goals of `State::verdict` that the prover leaves open.
use Rattle.std.proofs.Common.{◌∙◌, ◌==◌, ap, sym, Ok}
use Rattle.minisign.specs.Texts.{and_then}
use Rattle.minisign_external.proofs.Verdicts.{decided, opened_text, refuse, vouch}
use Rattle.minisign_external.proofs.state.State.verdict.Goals as goal

pub returns-in-Ok-clause-same_verdict_as_texts : goal.returns-in-Ok-clause-same_verdict_as_texts
returns-in-Ok-clause-same_verdict_as_texts c =
    λ v pk_text sig_text message legacy accepts has returned keyed answers.
    let a = c.args in
    let (utf8, read) = opened_text v legacy sig_text has.signed has.read in
    vouch accepts pk_text sig_text message legacy v keyed utf8 has.signed.comments.trusted
    (decided accepts v sig_text message legacy has.signed (a.self.now.asked.whole == 1) a.first a.second
    has.read has.whole answers
    ∙ ap (λ j. and_then j (λ _. Ok has.signed.comments.trusted)) (sym c.in-Ok.ensures))

pub returns-in-Err-clause-same_verdict_as_texts : goal.returns-in-Err-clause-same_verdict_as_texts
returns-in-Err-clause-same_verdict_as_texts c =
    λ v pk_text sig_text message legacy accepts has returned keyed answers.
    let a = c.args in
    let (utf8, read) = opened_text v legacy sig_text has.signed has.read in
    refuse accepts pk_text sig_text message legacy v keyed utf8 c.in-Err.fault
    (decided accepts v sig_text message legacy has.signed (a.self.now.asked.whole == 1) a.first a.second
    has.read has.whole answers
    ∙ ap (λ j. and_then j (λ _. Ok has.signed.comments.trusted)) (sym c.in-Err.ensures))
