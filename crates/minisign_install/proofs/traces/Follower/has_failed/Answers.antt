-- Proves the goal of `Follower::has_failed` that the prover leaves open.
use Rattle.std.proofs.Common.{◌∙◌, sym}
use Rattle.minisign_install.proofs.Tracing.{failed_performs}
use Rattle.minisign_install.proofs.traces.Follower.has_failed.Goals as goal

pub returns-clause-sound : goal.returns-clause-sound
returns-clause-sound c = λ is w message s m follows.
    rw (← c.due.ensures s follows.stored)
    (failed_performs w s c.due.result c.args.fault c.args.effect.now m (sym c.has_failed.ensures ∙ is))
