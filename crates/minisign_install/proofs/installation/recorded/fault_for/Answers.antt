-- Proves the goal of `fault_for` that the prover leaves open.
use Rattle.minisign_install.proofs.Recorded.{fault_is}
use Rattle.minisign_install.proofs.installation.recorded.fault_for.Goals as goal

pub returns : goal.returns
returns c = fault_is c.args.numbering c.args.bytes.now c.unfit_record_fault.result
    c.unfit_record_fault.ensures.reason
