-- Proves the goals of `copy_verified` that the prover leaves open.
use Rattle.std.proofs.Common.{arith}
use Rattle.minisign.proofs.Common.{rereader_call, sink_call}
use Rattle.minisign.proofs.VouchedTexts.{copied_with, copy_refused, silent}
use Rattle.minisign.proofs.calls.copy_verified.Goals as goal

pub returns-clause-headline : goal.returns-clause-headline
returns-clause-headline g c = λ message known_data no_new_fault status_no_new_fault out_no_new_fault again.
    c.verify_with.ensures.headline message known_data no_new_fault (λ rose. omega
    (arith, rose)) out_no_new_fault
    again

pub returns-clause-copied : goal.returns-clause-copied
returns-clause-copied g c =
    copied_with _ _ _ _ _ _ _ _ c.verify_with.ensures.accepted c.verify_with.ensures.comment

pub returns-clause-refused : goal.returns-clause-refused
returns-clause-refused g c = copy_refused (g.S.Scheme.accepts c.args.scheme.now) c.args.pk_text.now
    c.args.sig_text.now
    (rereader_call g.R.Source g.R.Rereader.steady c.args.data_reader.now c.verify_with.new.data_reader)
    (silent _ _) (sink_call g.O.Sink c.args.out.now c.verify_with.new.out) c.verify_with.result
    c.verify_with.ensures.refused
