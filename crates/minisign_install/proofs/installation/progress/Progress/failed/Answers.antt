-- Proves the goal of `Progress::failed` that the prover leaves open.
use Rattle.std.proofs.Common.{◌∙◌, refl, sym}
use Rattle.minisign_install.proofs.HeldStates.{event_is_not_due, no_failure_at}
use Rattle.minisign_install.proofs.installation.progress.Progress.failed.Goals as goal

pub returns-else-is_failure-clause-steps : goal.returns-else-is_failure-clause-steps
returns-else-is_failure-clause-steps c = λ s state_held.
    event_is_not_due s _ c.args.self.now _ state_held
    (no_failure_at _ c.args.fault s (sym c.is_failure.ensures ∙ c.if-is_failure.false)) refl
