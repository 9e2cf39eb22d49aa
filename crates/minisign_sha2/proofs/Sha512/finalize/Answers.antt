-- Proves the goal of `Sha512::finalize` that the prover leaves open.
use Rattle.sha2.specs.Sha512.{sha512}
use Rattle.minisign_sha2.specs.Hashers.{IsFed512}
use Rattle.minisign_sha2.proofs.Sha512.finalize.Goals as goal

pub returns : goal.returns
unfolding sha512 IsFed512
returns c = λ m held. c.finalize.ensures _ m held
