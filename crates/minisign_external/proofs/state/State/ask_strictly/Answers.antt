-- Proves the goals of `State::ask_strictly` that the prover leaves open.
use Rattle.std.proofs.Common.{◌≡◌, Bool, false, Ok, Err, Result, length, rules}
use Rattle.minisign_base.specs.Fault.{Fault}
use Rattle.minisign_external.specs.States.{result_of_asking}
use Rattle.minisign_external.specs.StrictCalls.{asked_strictly, is_strict_value}
use Rattle.minisign_external.specs.declared.state.Refusal.{Refusal}
use Rattle.minisign_external.proofs.Strictness.{asked_strictly_as_text}
use Rattle.minisign_external.proofs.state.State.ask_strictly.Goals as goal

pub returns-in-Ok-check_asking-clause-text : goal.returns-in-Ok-check_asking-clause-text
returns-in-Ok-check_asking-clause-text c = λ t from.
    let a = c.args in
    let value : ◌≡◌ {A = Result Bool (Refusal Fault)} (Ok false)
    (asked_strictly (is_strict_value a.key.now a.signature.now) (result_of_asking a.self.now a.key.now
    a.signature.now a.sig_text.now a.allow_legacy (length a.message.now))) = search rules in
    asked_strictly_as_text a.signature.now a.sig_text.now t from a.self.now a.key.now a.allow_legacy
    (length a.message.now) (Ok false) value

pub returns-in-Err-check_asking-clause-text : goal.returns-in-Err-check_asking-clause-text
returns-in-Err-check_asking-clause-text c = λ t from.
    let a = c.args in
    let value : ◌≡◌ {A = Result Bool (Refusal Fault)} (Err c.in-Err-check_asking.refusal)
    (asked_strictly (is_strict_value a.key.now a.signature.now) (result_of_asking a.self.now a.key.now
    a.signature.now a.sig_text.now a.allow_legacy (length a.message.now))) = search rules in
    asked_strictly_as_text a.signature.now a.sig_text.now t from a.self.now a.key.now a.allow_legacy
    (length a.message.now) (Err c.in-Err-check_asking.refusal) value
