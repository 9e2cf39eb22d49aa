-- Proves the goals of `verify_in_place` that the prover leaves open.
use Rattle.std.proofs.Common.{ap, sym, ◌∙◌, Ok}
use Rattle.minisign.proofs.Verdicts.{key_refused, value_before_map, read_verdict, signature_refused}
use Rattle.minisign.proofs.Verdicts.{error_before_map}
use Rattle.minisign.proofs.ErrorsAndPrefixes.{err_is}
use Rattle.minisign.proofs.calls.verify_in_place.Goals as goal

pub returns-in_err-pk : goal.returns-in_err-pk
returns-in_err-pk g c =
    rw (err_is _ _ c.from_residual.ensures.1) (sym (key_refused _ _ _ _ _ _ (sym c.in_err-pk.ensures)))

pub returns-in_err-view : goal.returns-in_err-view
returns-in_err-view g c =
    rw (err_is _ _ c.from_residual-in_err-view.ensures.1)
    (sym (signature_refused _ _ _ _ _ _ _ (sym c.in_ok-pk.ensures)
    (error_before_map _ _ _ c.in_err-view.ensures.view)))

pub returns-in_err-judge_view : goal.returns-in_err-judge_view
returns-in_err-judge_view g c =
    let (t, read, same) = value_before_map _ _ _ (sym c.in_ok-view.ensures.view) in
    rw (err_is _ _ c.from_residual-in_err-judge_view.ensures.1)
    (sym (read_verdict _ _ _ _ _ _ t (sym c.in_ok-pk.ensures) read
    _ (c.in_err-judge_view.ensures t (sym same))))

pub returns : goal.returns
returns g c =
    let (t, read, same) = value_before_map _ _ _ (sym c.in_ok-view.ensures.view) in
    ap Ok (c.trusted_comment.ensures ∙ ap (λ v. v.trusted) (sym same))
    ∙ sym (read_verdict _ _ _ _ _ _ t (sym c.in_ok-pk.ensures) read _
    (c.in_ok-judge_view.ensures t (sym same)))
