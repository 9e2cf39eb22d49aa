-- Proves the goals of `Installation::record_text` that the prover leaves open.
use Rattle.std.proofs.Common.{◌∙◌, refl, sym}
use Rattle.minisign_install.specs.Step as fsm
use Rattle.minisign_install.proofs.HeldStates.{not_writing, begun_holds, unbegun_holds}
use Rattle.minisign_install.proofs.installation.Installation.record_text.Goals as goal

pub returns-then-is_begun-clause-written : goal.returns-then-is_begun-clause-written
returns-then-is_begun-clause-written c = λ s held.
    let is = sym c.is_begun.ensures ∙ c.if-is_begun.true in
    c.record_text.ensures.written s (begun_holds c.args.self.now s is held)

pub returns-else-is_begun-clause-written : goal.returns-else-is_begun-clause-written
returns-else-is_begun-clause-written c = λ s held.
    let is = sym c.is_begun.ensures ∙ c.if-is_begun.false in
    not_writing s fsm.Nothing _ _ _ (unbegun_holds c.args.self.now s is held).0 refl refl refl

pub returns-then-is_begun-clause-reads_back : goal.returns-then-is_begun-clause-reads_back
returns-then-is_begun-clause-reads_back c = λ s held some.
    let is = sym c.is_begun.ensures ∙ c.if-is_begun.true in
    c.record_text.ensures.reads_back s (begun_holds c.args.self.now s is held) some
