-- Proves the goals of `Installation::question` that the prover leaves open.
use Rattle.std.proofs.Common.{◌∙◌, sym}
use Rattle.minisign_install.proofs.HeldStates.{no_question_if_nothing_due, begun_holds, unbegun_holds}
use Rattle.minisign_install.proofs.installation.Installation.question.Goals as goal

pub returns-then-is_begun : goal.returns-then-is_begun
returns-then-is_begun c = λ s held.
    let is = sym c.is_begun.ensures ∙ c.if-is_begun.true in
    c.question.ensures s (begun_holds c.args.self.now s is held)

pub returns-else-is_begun : goal.returns-else-is_begun
returns-else-is_begun c = λ s held.
    let is = sym c.is_begun.ensures ∙ c.if-is_begun.false in
    no_question_if_nothing_due _ _ s (unbegun_holds c.args.self.now s is held).0
