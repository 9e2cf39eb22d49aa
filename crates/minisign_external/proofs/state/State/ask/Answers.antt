-- Proves the goals of `State::ask` that the prover leaves open.
use Rattle.std.proofs.Common.{◌∙◌, ◌≡◌, Err, Result, length, rules, sym}
use Rattle.minisign_base.specs.Fault.{Fault}
use Rattle.minisign_external.specs.States.{result_of_asking}
use Rattle.minisign_external.specs.declared.state.Refusal.{Refusal}
use Rattle.minisign_external.proofs.ReadValues.{asked_as, asking_as}
use Rattle.minisign_external.proofs.Verdicts.{opening_refusal_under}
use Rattle.minisign_external.proofs.state.State.ask.Goals as goal

pub returns-in-Err-clause-text : goal.returns-in-Err-clause-text
returns-in-Err-clause-text c = λ t from.
    let a = c.args in
    let value : ◌≡◌ {A = Result Unit (Refusal Fault)} (Err c.in-Err.refusal)
    (result_of_asking a.self.now a.key.now a.signature.now a.sig_text.now a.allow_legacy
    (length a.message.now)) = search rules in
    value ∙ asking_as a.signature.now a.sig_text.now t from a.self.now a.key.now a.allow_legacy
    (length a.message.now)

pub returns-in-Err-clause-same_error_as_texts : goal.returns-in-Err-clause-same_error_as_texts
returns-in-Err-clause-same_error_as_texts c = λ t from.
    let a = c.args in
    opening_refusal_under a.key.now a.sig_text.now a.allow_legacy (length a.message.now) c.in-Err.refusal
    (sym (asked_as a.signature.now a.sig_text.now t from a.key.now a.allow_legacy (length a.message.now))
    ∙ c.in-Err.ensures.value)
