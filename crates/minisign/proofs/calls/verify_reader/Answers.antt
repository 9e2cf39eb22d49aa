-- Proves the goals of `verify_reader` that the prover leaves open.
use Rattle.std.proofs.Common.{arith, string_bytes}
use Rattle.minisign.proofs.Common.{rereader_call}
use Rattle.minisign.proofs.VouchedTexts.{ahead_refused, ahead_vouched, reader_refused, silent}
use Rattle.minisign.proofs.calls.verify_reader.Goals as goal

pub returns-clause-headline : goal.returns-clause-headline
returns-clause-headline g c = λ message known_data no_new_fault status_no_new_fault out_no_new_fault again.
    c.verify_with.ensures.headline message known_data no_new_fault (λ rose. omega (arith, rose))
    (λ rose. omega (arith, rose)) again

pub returns-clause-vouched : goal.returns-clause-vouched
returns-clause-vouched g c =
    ahead_vouched (g.S.Scheme.accepts c.args.scheme.now) c.args.pk_text.now c.args.sig_text.now _
    _ _ string_bytes c.verify_with.result c.verify_with.ensures.accepted c.verify_with.ensures.comment

pub returns-clause-refused : goal.returns-clause-refused
returns-clause-refused g c = ahead_refused (g.S.Scheme.accepts c.args.scheme.now) c.args.pk_text.now
    c.args.sig_text.now
    (rereader_call g.R.Source g.R.Rereader.steady c.args.data_reader.now c.verify_with.new.data_reader)
    (silent _ _) (silent _ _) c.verify_with.result c.verify_with.ensures.refused

pub returns-clause-failed : goal.returns-clause-failed
returns-clause-failed g c = reader_refused (g.S.Scheme.accepts c.args.scheme.now) c.args.pk_text.now
    c.args.sig_text.now
    (rereader_call g.R.Source g.R.Rereader.steady c.args.data_reader.now c.verify_with.new.data_reader)
    (silent _ _) (silent _ _) c.verify_with.result c.verify_with.ensures.refused
