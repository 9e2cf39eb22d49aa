-- Proves the goals of `Installation::piece` that the prover leaves open.
use Rattle.std.proofs.Common.{◌∙◌, refl, sym}
use Rattle.minisign_install.proofs.HeldStates.{begun_steps, begun_holds, unbegun_steps}
use Rattle.minisign_install.proofs.installation.Installation.piece.Goals as goal

pub returns-then-is_begun-clause-steps : goal.returns-then-is_begun-clause-steps
returns-then-is_begun-clause-steps c = λ s held.
    let is = sym c.is_begun.ensures ∙ c.if-is_begun.true in
    begun_steps c.args.self.now _ s _ _ is (c.bytes.ensures.steps s (begun_holds c.args.self.now s is held))

pub returns-else-is_begun-clause-steps : goal.returns-else-is_begun-clause-steps
returns-else-is_begun-clause-steps c = λ s held.
    let is = sym c.is_begun.ensures ∙ c.if-is_begun.false in
    unbegun_steps c.args.self.now s _ _ is held refl
