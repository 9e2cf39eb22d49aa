-- Proves the goals of `Progress::new_version` that the prover leaves open.
use Rattle.std.proofs.Common.{◌∙◌, sym}
use Rattle.minisign_install.proofs.HeldStates.{version_in_roll_back, version_otherwise}
use Rattle.minisign_install.proofs.installation.progress.Progress.new_version.Goals as goal

pub returns-then-is_rolling_back : goal.returns-then-is_rolling_back
returns-then-is_rolling_back c = λ s state_held.
    let is = sym (c.is_rolling_back.ensures s state_held) ∙ c.if-is_rolling_back.true in
    sym (version_in_roll_back c.args.self.now s state_held is)

pub returns-else-is_rolling_back : goal.returns-else-is_rolling_back
returns-else-is_rolling_back c = λ s state_held.
    let is = sym (c.is_rolling_back.ensures s state_held) ∙ c.if-is_rolling_back.false in
    sym (version_otherwise c.args.self.now s state_held is)
