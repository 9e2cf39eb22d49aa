-- Proves the goal of `verify_opened_file` that the prover leaves open.
use Rattle.std.proofs.Common.{string_bytes}
use Rattle.minisign.proofs.Common.{rereader_call}
use Rattle.minisign.proofs.VouchedTexts.{file_verdict}
use Rattle.minisign.proofs.calls.verify_opened_file.Goals as goal

pub returns : goal.returns
returns g c = file_verdict string_bytes (g.S.Scheme.accepts c.args.scheme.now) c.args.pk_text.now
    c.args.sig_text.now
    (rereader_call g.R.Source g.R.Rereader.steady c.args.data_reader.now c.verify_reader.new.data_reader)
    c.verify_reader.result c.verify_reader.ensures.vouched c.verify_reader.ensures.refused
