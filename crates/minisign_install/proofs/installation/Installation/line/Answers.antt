-- Proves the goals of `Installation::line` that the prover leaves open.
use Rattle.std.proofs.Common.{◌∙◌, ap, sym, if◌then◌else◌}
use Rattle.minisign_install.proofs.HeldStates.{begun_holds, unbegun_holds}
use Rattle.minisign_install.proofs.installation.Installation.line.Goals as goal

pub returns-then-is_begun : goal.returns-then-is_begun
returns-then-is_begun c = λ s held.
    let is = sym c.is_begun.ensures ∙ c.if-is_begun.true in
    c.line.ensures s (begun_holds c.args.self.now s is held)

pub returns-else-is_begun : goal.returns-else-is_begun
returns-else-is_begun c = λ s held.
    let is = sym c.is_begun.ensures ∙ c.if-is_begun.false in
    sym (ap (λ b. if b then s.listing.line else 0) (unbegun_holds c.args.self.now s is held).3)
