-- Proves the goal of `Follower::has_copied` that the prover leaves open.
use Rattle.std.proofs.Common.{◌∙◌, sym}
use Rattle.minisign_install.proofs.Tracing.{some_of}
use Rattle.minisign_install.proofs.traces.Follower.has_copied.Goals as goal

pub returns-in-DataGrown-clause-sound : goal.returns-in-DataGrown-clause-sound
returns-in-DataGrown-clause-sound c = λ is w message s m same follows.
    rw c.in-DataGrown.is
    ((some_of c.next_data.result _ c.next_data.ensures.sound (sym c.is_some.ensures
    ∙ is)).1 w message s m same
    follows).1
