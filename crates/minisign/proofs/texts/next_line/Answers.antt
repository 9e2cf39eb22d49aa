-- Proves the goals of `next_line` that the prover leaves open.
use Rattle.minisign.proofs.WrittenLines.{lines_first}
use Rattle.minisign.proofs.texts.next_line.Goals as goal

pub returns-in-Some-clause-some : goal.returns-in-Some-clause-some
returns-in-Some-clause-some c = lines_first _ _ _ c.in-Some.ensures.steps.0.0 c.in-Some.ensures.steps.0.2

pub returns-in-Some-clause-size : goal.returns-in-Some-clause-size
returns-in-Some-clause-size c = c.in-Some.ensures.steps.0.1
