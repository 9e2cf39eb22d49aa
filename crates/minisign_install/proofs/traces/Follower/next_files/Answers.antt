-- Proves the goals of `Follower::next_files` that the prover leaves open.
use Rattle.std.proofs.Common.{refl}
use Rattle.minisign_install.specs.Traces.{world_of}
use Rattle.minisign_install.proofs.Tracing.{grown_seen, not_growing}
use Rattle.minisign_install.proofs.traces.Follower.next_files.Goals as goal

pub returns-in-Some-clause-sound : goal.returns-in-Some-clause-sound
returns-in-Some-clause-sound c = λ message s m follows.
    rw c.in-DataGrown.is
    (grown_seen c.args.self.now.files _ m _ _ follows.seen
    (c.in-Some.ensures.sound (world_of c.args.inputs.now) message s m refl follows).0 c.with_bytes.ensures)

pub returns-in_default-clause-sound : goal.returns-in_default-clause-sound
returns-in_default-clause-sound c = λ message s m follows.
    c.after.ensures (not_growing c.args.effect.now c.in_default.not-DataGrown) m follows.seen
