-- Proves the goal of `Progress::keep_record` that the prover leaves open.
use Rattle.minisign_install.proofs.HeldStates.{with_recorded}
use Rattle.minisign_install.proofs.installation.progress.Progress.keep_record.Goals as goal

pub returns : goal.returns
returns c = λ s state_held. c.go.ensures _ (with_recorded c.args.self.now s c.args.recorded state_held)
