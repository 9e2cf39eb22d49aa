-- Proves the goals of `verify_with` that the prover leaves open.
use Rattle.minisign.proofs.Verdicts.{text_refused, verdict_of_error, verdict_of_success}
use Rattle.minisign.proofs.ReadTexts.{read_value}
use Rattle.minisign.proofs.ErrorsAndPrefixes.{err_is}
use Rattle.minisign.proofs.calls.verify_with.Goals as goal

pub returns-in_err-pk-clause-headline : goal.returns-in_err-pk-clause-headline
returns-in_err-pk-clause-headline g c = λ _ _ _ _ _ _.
    rw (err_is _ _ c.from_residual.ensures.1) (text_refused _ _ _ _ _ _ c.in_err-pk.ensures.read)

pub returns-in_err-verify-clause-headline : goal.returns-in_err-verify-clause-headline
returns-in_err-verify-clause-headline g c =
    λ message known_data no_new_fault status_no_new_fault out_no_new_fault again.
    rw (err_is _ _ c.from_residual-in_err-verify.ensures.1)
    (verdict_of_error _ _ _ _ _ _ _ (read_value _ _ c.in_ok-pk.ensures.read) _
    (c.in_err-verify.ensures.headline message known_data no_new_fault status_no_new_fault out_no_new_fault
    again))

pub returns-clause-headline : goal.returns-clause-headline
returns-clause-headline g c = λ message known_data no_new_fault status_no_new_fault out_no_new_fault again.
    verdict_of_success _ _ _ _ _ _ _ (read_value _ _ c.in_ok-pk.ensures.read) _ c.in_ok-pk.ensures.comment tt
    (c.in_ok-verify.ensures.headline message known_data no_new_fault status_no_new_fault out_no_new_fault
    again)
