-- Proves the goals of `verify` that the prover leaves open.
use Rattle.minisign.proofs.Common.{rereader_call, sink_call, AppendsPrefix-keeps}
use Rattle.minisign.specs.Acceptance.{options_of}
use Rattle.minisign.proofs.ErrorsAndPrefixes.{on_err_of, passed_up}
use Rattle.minisign.proofs.Copies.{prefix_of_all, keeps_same}
use Rattle.minisign.proofs.VerifyingStages.{copying_ends, unjudged, unread, unsaid}
use Rattle.minisign.proofs.VouchedTexts.{judged_exactly, refused_exactly}
use Rattle.minisign.proofs.verifying.verify.Goals as goal

pub returns-in_err-signed-clause-status_prefix_received :
    goal.returns-in_err-signed-clause-status_prefix_received
returns-in_err-signed-clause-status_prefix_received g c =
    on_err_of _ _ (AppendsPrefix-keeps _ _ _ (keeps_same _))

pub returns-in_err-judge-clause-status_prefix_received :
    goal.returns-in_err-judge-clause-status_prefix_received
returns-in_err-judge-clause-status_prefix_received g c =
    on_err_of _ _ (AppendsPrefix-keeps _ _ _ (keeps_same _))

pub returns-in_err-signed-clause-refused : goal.returns-in_err-signed-clause-refused
returns-in_err-signed-clause-refused g c = passed_up _ _ _ c.from_residual.ensures.1
    (unread (g.S.Scheme.accepts c.args.scheme.now) c.args.pk.now c.args.signature_box.now c.args.quiet
    c.args.output c.args.allow_legacy
    (rereader_call g.R.Source g.R.Rereader.steady c.args.data_reader.now c.read_data.new.data_reader)
    (sink_call g.W.Sink c.args.status.now c.args.status.now)
    (sink_call g.O.Sink c.args.out.now c.args.out.now) _ c.in_err-signed.ensures.refused)

pub returns-in_err-signed-clause-headline : goal.returns-in_err-signed-clause-headline
returns-in_err-signed-clause-headline g c =
    refused_exactly (g.S.Scheme.accepts c.args.scheme.now) c.args.pk.now c.args.signature_box.now
    (options_of c.args.quiet c.args.output c.args.allow_legacy)
    (rereader_call g.R.Source g.R.Rereader.steady c.args.data_reader.now c.read_data.new.data_reader)
    (sink_call g.W.Sink c.args.status.now c.args.status.now)
    (sink_call g.O.Sink c.args.out.now c.args.out.now) c.from_residual.result _ c.from_residual.ensures.1
    (returns-in_err-signed-clause-refused g c)

pub returns-in_err-judge-clause-refused : goal.returns-in_err-judge-clause-refused
returns-in_err-judge-clause-refused g c = passed_up _ _ _ c.from_residual-in_err-judge.ensures.1
    (unjudged (g.S.Scheme.accepts c.args.scheme.now) c.args.pk.now c.args.signature_box.now c.args.quiet
    c.args.output c.args.allow_legacy
    (rereader_call g.R.Source g.R.Rereader.steady c.args.data_reader.now c.read_data.new.data_reader)
    (sink_call g.W.Sink c.args.status.now c.args.status.now)
    (sink_call g.O.Sink c.args.out.now c.args.out.now) c.read_data.new.data_reader c.in_ok-signed.signed
    c.in_ok-signed.ensures.held _ c.as_bytes.ensures _ c.in_err-judge.ensures)

pub returns-in_err-judge-clause-headline : goal.returns-in_err-judge-clause-headline
returns-in_err-judge-clause-headline g c =
    refused_exactly (g.S.Scheme.accepts c.args.scheme.now) c.args.pk.now c.args.signature_box.now
    (options_of c.args.quiet c.args.output c.args.allow_legacy)
    (rereader_call g.R.Source g.R.Rereader.steady c.args.data_reader.now c.read_data.new.data_reader)
    (sink_call g.W.Sink c.args.status.now c.args.status.now)
    (sink_call g.O.Sink c.args.out.now c.args.out.now) c.from_residual-in_err-judge.result _
    c.from_residual-in_err-judge.ensures.1 (returns-in_err-judge-clause-refused g c)

pub returns-in_err-say-clause-refused : goal.returns-in_err-say-clause-refused
returns-in_err-say-clause-refused g c = passed_up _ _ _ c.from_residual-in_err-say.ensures.1
    (unsaid (g.S.Scheme.accepts c.args.scheme.now) c.args.pk.now c.args.signature_box.now c.args.quiet
    c.args.output c.args.allow_legacy
    (rereader_call g.R.Source g.R.Rereader.steady c.args.data_reader.now c.read_data.new.data_reader)
    (sink_call g.W.Sink c.args.status.now c.say.new.status)
    (sink_call g.O.Sink c.args.out.now c.args.out.now) c.read_data.new.data_reader c.in_ok-signed.signed
    c.in_ok-signed.ensures.held _ c.as_bytes.ensures c.in_ok-judge.ensures _
    c.in_err-say.ensures.refused c.in_err-say.ensures.prefix_received c.say.ensures.unflushed)

pub returns-clause-accepted : goal.returns-clause-accepted
returns-clause-accepted g c =
    (copying_ends (g.S.Scheme.accepts c.args.scheme.now) c.args.pk.now c.args.signature_box.now
    c.args.quiet c.args.output c.args.allow_legacy
    (rereader_call g.R.Source g.R.Rereader.steady c.args.data_reader.now c.copy_out.new.data_reader)
    (sink_call g.W.Sink c.args.status.now c.say.new.status)
    (sink_call g.O.Sink c.args.out.now c.copy_out.new.out) c.read_data.new.data_reader c.in_ok-signed.signed
    c.in_ok-signed.ensures.held _ c.as_bytes.ensures c.in_ok-judge.ensures c.say.ensures.status_unchanged
    c.in_ok-say.ensures.status_received c.in_ok-say.ensures.no_new_fault c.say.ensures.unflushed
    c.copy_out.result
    c.copy_out.ensures).0

pub returns-clause-refused : goal.returns-clause-refused
returns-clause-refused g c =
    (copying_ends (g.S.Scheme.accepts c.args.scheme.now) c.args.pk.now c.args.signature_box.now
    c.args.quiet c.args.output c.args.allow_legacy
    (rereader_call g.R.Source g.R.Rereader.steady c.args.data_reader.now c.copy_out.new.data_reader)
    (sink_call g.W.Sink c.args.status.now c.say.new.status)
    (sink_call g.O.Sink c.args.out.now c.copy_out.new.out) c.read_data.new.data_reader c.in_ok-signed.signed
    c.in_ok-signed.ensures.held _ c.as_bytes.ensures c.in_ok-judge.ensures c.say.ensures.status_unchanged
    c.in_ok-say.ensures.status_received c.in_ok-say.ensures.no_new_fault c.say.ensures.unflushed
    c.copy_out.result
    c.copy_out.ensures).1

pub returns-clause-status_prefix_received : goal.returns-clause-status_prefix_received
returns-clause-status_prefix_received g c =
    on_err_of _ _ (prefix_of_all _ _ (g.W.Sink.taken c.say.new.status) _ c.in_ok-say.ensures.status_received
    (keeps_same _))

pub returns-clause-headline : goal.returns-clause-headline
returns-clause-headline g c =
    judged_exactly (g.S.Scheme.accepts c.args.scheme.now) c.args.pk.now c.args.signature_box.now
    (options_of c.args.quiet c.args.output c.args.allow_legacy) _ _ _ c.copy_out.result
    (returns-clause-accepted g c) (returns-clause-refused g c)
