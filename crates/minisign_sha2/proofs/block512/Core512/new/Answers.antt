-- Proves the goal of `Core512::new` that the prover leaves open.
use Rattle.std.proofs.Common.{rules}
use Rattle.sha2.specs.Sha512.{hash_after}
use Rattle.minisign_sha2.specs.Fed512.{Holds}
use Rattle.minisign_sha2.proofs.block512.Core512.new.Goals as goal

pub returns : goal.returns
unfolding Holds hash_after
returns c = search rules
