-- Proves the goals of `Follower::is_done` that the prover leaves open.
use Rattle.std.proofs.Common.{◌∙◌, refl, sym}
use Rattle.minisign_install.specs.Traces.{world_of}
use Rattle.minisign_install.proofs.FullTraces.{done_as, done_found}
use Rattle.minisign_install.proofs.traces.Follower.is_done.Goals as goal

pub returns-in-WriteRecord-clause-sound : goal.returns-in-WriteRecord-clause-sound
returns-in-WriteRecord-clause-sound c = λ is message s m follows.
    let at = sym (c.due.ensures s follows.stored) ∙ c.in-WriteRecord.is in
    rw at (c.has_written.ensures.sound is (world_of c.args.inputs.now) s m follows.stored at)

pub returns-in_default-clause-complete : goal.returns-in_default-clause-complete
returns-in_default-clause-complete c = λ message s m follows done effect.
    let w = world_of c.args.inputs.now in
    let at = c.due.ensures s follows.stored in
    c.are_done.ensures
    ∙ rw at (done_found w s s.due c.args.effect.now c.args.self.now.files m c.args.self.now.read.now
    c.args.inputs.now.update.now follows.seen follows.read refl done
    (done_as s s.due c.args.effect.now (λ is. c.in_default.not-WriteRecord (at ∙ is)) effect))
