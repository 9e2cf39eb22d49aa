-- Proves the goal of `Follower::line` that the prover leaves open.
use Rattle.minisign_install.proofs.traces.Follower.line.Goals as goal

pub returns-in-Call-clause-sound : goal.returns-in-Call-clause-sound
returns-in-Call-clause-sound c = rw c.in-Call.is c.call.ensures.sound
