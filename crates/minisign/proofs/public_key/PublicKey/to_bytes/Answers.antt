-- Proves the goal of `PublicKey::to_bytes` that the prover leaves open.
use Rattle.std.proofs.Common.{arith, append-nil, []}
use Rattle.minisign.proofs.Common.{common_steps}
use Rattle.minisign.proofs.public_key.PublicKey.to_bytes.Goals as goal

pub returns-clause-reads_back : goal.returns-clause-reads_back
returns-clause-reads_back c = record {
  algorithm_length = grind (arith, common_steps);
  keynum_length = grind (arith, common_steps);
  key_length = grind (arith, common_steps);
  front = ([], rw append-nil (grind (arith, common_steps)));
}
