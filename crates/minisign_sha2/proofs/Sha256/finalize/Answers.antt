-- Proves the goal of `Sha256::finalize` that the prover leaves open.
use Rattle.sha2.specs.Sha256.{sha256}
use Rattle.minisign_sha2.specs.Hashers.{IsFed256}
use Rattle.minisign_sha2.proofs.Sha256.finalize.Goals as goal

pub returns : goal.returns
unfolding sha256 IsFed256
returns c = λ m held. c.finalize.ensures _ m held
