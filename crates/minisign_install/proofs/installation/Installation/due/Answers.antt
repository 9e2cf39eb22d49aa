-- Proves the goals of `Installation::due` that the prover leaves open.
use Rattle.std.proofs.Common.{◌∙◌, sym}
use Rattle.minisign_install.proofs.HeldStates.{due_is, begun_holds, unbegun_holds}
use Rattle.minisign_install.proofs.installation.Installation.due.Goals as goal

pub returns-then-is_begun : goal.returns-then-is_begun
returns-then-is_begun c = λ s held.
    let is = sym c.is_begun.ensures ∙ c.if-is_begun.true in
    let state_held = begun_holds c.args.self.now s is held in
    c.due.ensures ∙ sym (due_is c.args.self.now.progress s state_held)

pub returns-else-is_begun : goal.returns-else-is_begun
returns-else-is_begun c = λ s held.
    let is = sym c.is_begun.ensures ∙ c.if-is_begun.false in
    sym (unbegun_holds c.args.self.now s is held).0
