-- Proves the goal of `Progress::fault` that the prover leaves open.
use Rattle.std.proofs.Common.{◌∙◌, sym, ap}
use Rattle.minisign_install.specs.Step.{State}
use Rattle.minisign_install.proofs.HeldStates.{fault_found}
use Rattle.minisign_install.proofs.installation.progress.Progress.fault.Goals as goal

pub returns : goal.returns
returns c = λ s state_held.
    fault_found state_held.fault c.args.self.now.judged.fault c.of_number.result state_held.fault_number
    c.of_number.ensures.found c.of_number.ensures.installer_fault
    ∙ sym (ap (λ (x : State). x.fault) state_held.state)
