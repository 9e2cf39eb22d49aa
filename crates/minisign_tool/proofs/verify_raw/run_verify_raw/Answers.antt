-- Proves the goal of `run_verify_raw` that the prover leaves open.
use Rattle.minisign_tool.proofs.verify_raw.run_verify_raw.Goals as goal

pub returns-in-Ok-clause-accepted : goal.returns-in-Ok-clause-accepted
returns-in-Ok-clause-accepted g c ended =
    let read = c.in-Ok.ensures.accepted in
    record {
      key_file = read.key_file;
      signature_file = read.signature_file;
      message = read.message;
      held = read.held;
      read = read.read;
      vouched = read.vouched;
      line_received = (_, c.warn.ensures, read.line_received, c.in-Ok.ensures.no_new_fault);
    }
