-- Proves the goal of `Blake2b::new` that the prover leaves open.
use Rattle.std.proofs.Common.{[], arith}
use Rattle.minisign_hash.specs.Fed.{Holds, IsFed}
use Rattle.minisign_hash.proofs.Feeding.{holds_empty}
use Rattle.minisign_hash.proofs.blake2b.Blake2b.new.Goals as goal

pub returns-clause-fed : goal.returns-clause-fed
unfolding Holds IsFed
returns-clause-fed c = ((0, holds_empty _ _ _ (c.first_state.ensures [])), λ some. absurd (omega arith))
