-- Proves the goals of `Progress::new_key` that the prover leaves open.
use Rattle.std.proofs.Common.{◌∙◌, sym}
use Rattle.minisign_install.proofs.HeldStates.{key_in_roll_back, key_otherwise}
use Rattle.minisign_install.proofs.installation.progress.Progress.new_key.Goals as goal

pub returns-then-is_rolling_back : goal.returns-then-is_rolling_back
returns-then-is_rolling_back c = λ s state_held first.
    key_in_roll_back s _ _ first (sym (c.is_rolling_back.ensures s state_held) ∙ c.if-is_rolling_back.true)
    (c.recorded_key.ensures s state_held)

pub returns-else-is_rolling_back : goal.returns-else-is_rolling_back
returns-else-is_rolling_back c = λ s state_held first.
    key_otherwise s _ first (sym (c.is_rolling_back.ensures s state_held) ∙ c.if-is_rolling_back.false)
