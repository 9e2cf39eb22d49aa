-- Proves the goal of `State::ask_fed` that the prover leaves open.
use Rattle.std.proofs.Common.{◌∙◌, ap, sym, subst, length, Err, IfErr}
use Rattle.std.proofs.lemmas.Result.{err_from_is_err_and}
use Rattle.minisign_external.specs.States.{IsTextRefusal}
use Rattle.minisign_external.proofs.ReadValues.{asked_as}
use Rattle.minisign_external.proofs.Verdicts.{opening_refusal_under}
use Rattle.minisign_external.proofs.state.State.ask_fed.Goals as goal

pub returns-in_err-comment-clause-same_error_as_texts : goal.returns-in_err-comment-clause-same_error_as_texts
returns-in_err-comment-clause-same_error_as_texts c = λ t from.
    let a = c.args in
    let p = err_from_is_err_and c.from_residual-in_err-comment.result
    c.from_residual-in_err-comment.ensures.1 in
    subst (λ r. IfErr r (IsTextRefusal a.key.now a.sig_text.now a.allow_legacy))
    (sym (p.1 ∙ ap (λ e. Err e) p.2))
    (opening_refusal_under a.key.now a.sig_text.now a.allow_legacy (length a.message.now) _
    (sym (asked_as a.signature.now a.sig_text.now t from a.key.now a.allow_legacy (length a.message.now))
    ∙ c.in_err-comment.ensures.value))
