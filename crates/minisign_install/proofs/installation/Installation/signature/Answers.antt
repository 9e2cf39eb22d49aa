-- Proves the goals of `Installation::signature` that the prover leaves open.
use Rattle.std.proofs.Common.{◌∙◌, sym}
use Rattle.minisign_install.proofs.HeldStates.{begun_holds}
use Rattle.minisign_install.proofs.SignatureFiles.{begun_signature, unbegun_signature}
use Rattle.minisign_install.proofs.installation.Installation.signature.Goals as goal

pub returns-then-is_begun-clause-steps : goal.returns-then-is_begun-clause-steps
returns-then-is_begun-clause-steps c = λ s held file.
    let is = sym c.is_begun.ensures ∙ c.if-is_begun.true in
    begun_signature c.args.self.now _ s _ _ _ _ _ is
    (c.signature.ensures.steps s (begun_holds c.args.self.now s is held) file)

pub returns-else-is_begun-clause-steps : goal.returns-else-is_begun-clause-steps
returns-else-is_begun-clause-steps c = λ s held file.
    let is = sym c.is_begun.ensures ∙ c.if-is_begun.false in
    unbegun_signature c.args.self.now s _ _ _ is held
