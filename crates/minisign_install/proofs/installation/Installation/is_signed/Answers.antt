-- Proves the goals of `Installation::is_signed` that the prover leaves open.
use Rattle.std.proofs.Common.{◌∙◌, ap, sym}
use Rattle.minisign_install.specs.Step.{State}
use Rattle.minisign_install.proofs.HeldStates.{begun_holds, unbegun_holds}
use Rattle.minisign_install.proofs.installation.Installation.is_signed.Goals as goal

pub returns-then-is_begun : goal.returns-then-is_begun
returns-then-is_begun c = λ s held.
    let is = sym c.is_begun.ensures ∙ c.if-is_begun.true in
    let state_held = begun_holds c.args.self.now s is held in
    sym (ap (λ (x : State). x.is_signed) state_held.state)

pub returns-else-is_begun : goal.returns-else-is_begun
returns-else-is_begun c = λ s held.
    let is = sym c.is_begun.ensures ∙ c.if-is_begun.false in
    sym (unbegun_holds c.args.self.now s is held).1
