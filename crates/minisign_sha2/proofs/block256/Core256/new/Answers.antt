-- Proves the goal of `Core256::new` that the prover leaves open.
use Rattle.std.proofs.Common.{rules}
use Rattle.sha2.specs.Sha256.{hash_after}
use Rattle.minisign_sha2.specs.Fed256.{Holds}
use Rattle.minisign_sha2.proofs.block256.Core256.new.Goals as goal

pub returns : goal.returns
unfolding Holds hash_after
returns c = search rules
