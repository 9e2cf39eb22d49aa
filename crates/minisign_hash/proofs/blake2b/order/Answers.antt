-- Proves the goals of `order` that the prover leaves open.
use Rattle.std.proofs.Common.{◌%◌, refl, lit<}
use Rattle.minisign_hash.specs.Blake2b.{sigma}
use Rattle.minisign_hash.proofs.Lists.{below_all}
use Rattle.minisign_hash.proofs.blake2b.order.Goals as goal

pub returns-clause-row : goal.returns-clause-row
unfolding sigma
returns-clause-row c = refl

pub returns-clause-below : goal.returns-clause-below
unfolding sigma
returns-clause-below c = below_all 16 (lit< tt) sigma refl (c.args.round % 10)
