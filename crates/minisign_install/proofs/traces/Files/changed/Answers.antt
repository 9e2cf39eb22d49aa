-- Proves the goal of `Files::changed` that the prover leaves open.
use Rattle.std.proofs.Common.{◌∙◌}
use Rattle.minisign_install.proofs.FullTraces.{is_longer}
use Rattle.minisign_install.proofs.traces.Files.changed.Goals as goal

pub returns-then-self-clause-complete : goal.returns-then-self-clause-complete
returns-then-self-clause-complete c = λ m present others.
    let other = rw c.in-Recorded.is at others in
    absurd (is_longer m.recorded m.recorded_left (other.left_stays (present.locked ∙ c.if-self.true)))
