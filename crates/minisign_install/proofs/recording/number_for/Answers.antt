-- Proves the goal of `number_for` that the prover leaves open.
use Rattle.std.proofs.Common.{◌∙◌}
use Rattle.minisign_install.proofs.recording.number_for.Goals as goal

pub returns-in-None-number_of : goal.returns-in-None-number_of
returns-in-None-number_of c = λ n held.
    let same = c.in-Ok.ensures.cases.0 ∙ c.record_text.ensures in
    c.in-None-number_of.ensures n (rw (← same, ← c.label.ensures, ← c.in-None.ensures) at held.number)
