-- Proves the goal of `run_verify` that the prover leaves open.
use Rattle.minisign_tool.proofs.verify.run_verify.Goals as goal

pub returns-in-Ok-clause-accepted : goal.returns-in-Ok-clause-accepted
returns-in-Ok-clause-accepted g c ended =
    let read = c.in-Ok.ensures.accepted in
    record {
      pk_text = read.pk_text;
      sig_text = read.sig_text;
      message = read.message;
      pk_known = read.pk_known;
      sig_known = read.sig_known;
      known_bytes = read.known_bytes;
      vouched = read.vouched;
      lines_received = (_, c.warn.ensures, read.lines_received, c.in-Ok.ensures.no_new_fault);
    }
