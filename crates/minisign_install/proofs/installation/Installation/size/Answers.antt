-- Proves the goals of `Installation::size` that the prover leaves open.
use Rattle.std.proofs.Common.{◌∙◌, ap, sym, if◌then◌else◌}
use Rattle.std.specs.Prelude.{None}
use Rattle.minisign_install.proofs.HeldStates.{begun_holds, unbegun_holds}
use Rattle.minisign_install.proofs.installation.Installation.size.Goals as goal

pub returns-then-is_begun : goal.returns-then-is_begun
returns-then-is_begun c = λ s held.
    let is = sym c.is_begun.ensures ∙ c.if-is_begun.true in
    let state_held = begun_holds c.args.self.now s is held in
    c.size.ensures s state_held

pub returns-else-is_begun : goal.returns-else-is_begun
returns-else-is_begun c = λ s held.
    let is = sym c.is_begun.ensures ∙ c.if-is_begun.false in
    sym (ap (λ b. if b then s.size else None) (unbegun_holds c.args.self.now s is held).1)
