-- Proves the goals of `Installation::error` that the prover leaves open.
use Rattle.std.proofs.Common.{◌∙◌, ap, sym}
use Rattle.minisign_install.specs.Installations.{error_number}
use Rattle.minisign_install.proofs.HeldStates.{error_is, begun_holds, unbegun_holds}
use Rattle.minisign_install.proofs.installation.Installation.error.Goals as goal

pub returns-then-is_begun : goal.returns-then-is_begun
returns-then-is_begun c = λ s held.
    let is = sym c.is_begun.ensures ∙ c.if-is_begun.true in
    let state_held = begun_holds c.args.self.now s is held in
    error_is c.args.self.now.progress s state_held

pub returns-else-is_begun : goal.returns-else-is_begun
returns-else-is_begun c = λ s held.
    let is = sym c.is_begun.ensures ∙ c.if-is_begun.false in
    sym (ap error_number (unbegun_holds c.args.self.now s is held).2)
