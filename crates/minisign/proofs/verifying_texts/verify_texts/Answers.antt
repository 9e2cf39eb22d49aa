-- Proves the goals of `verify_texts` that the prover leaves open.
use Rattle.minisign.proofs.Common.{sink_call}
use Rattle.minisign.proofs.Verdicts.{kept_refusal, text_refused, verdict_without_comment}
use Rattle.minisign.proofs.VouchedTexts.{copy_vouched, fails_with, succeeds_with}
use Rattle.minisign.proofs.ReadTexts.{read_value}
use Rattle.minisign.proofs.ErrorsAndPrefixes.{err_is}
use Rattle.minisign.proofs.verifying_texts.verify_texts.Goals as goal

pub returns-in_err-pk-clause-headline : goal.returns-in_err-pk-clause-headline
returns-in_err-pk-clause-headline g c = λ _ _ _ _ _ _.
    rw (err_is _ _ c.from_residual.ensures.1) (kept_refusal _ _ _
    (text_refused _ _ _ _ _ _ c.in_err-pk.ensures))

pub returns-clause-accepted : goal.returns-clause-accepted
returns-clause-accepted g c =
    succeeds_with _ _ _ _ _ _ _ _ _ (read_value _ _ c.in_ok-pk.ensures) _ c.verify.ensures.accepted

pub returns-clause-vouched : goal.returns-clause-vouched
returns-clause-vouched g c = λ is_requested. copy_vouched _ _ _ _ _ _ _ _
    (returns-clause-accepted g c) is_requested

pub returns-clause-refused : goal.returns-clause-refused
returns-clause-refused g c = fails_with _ _ _ _ _ (sink_call g.W.Sink c.args.status.now c.verify.new.status)
    (sink_call g.O.Sink c.args.out.now c.verify.new.out)
    _ _ (read_value _ _ c.in_ok-pk.ensures) _ c.verify.ensures.refused

pub returns-clause-headline : goal.returns-clause-headline
returns-clause-headline g c = λ message known_data no_new_fault status_no_new_fault out_no_new_fault again.
    verdict_without_comment _ _ _ _ _ _ _ (read_value _ _ c.in_ok-pk.ensures) _
    (c.verify.ensures.headline message known_data no_new_fault status_no_new_fault out_no_new_fault again)
