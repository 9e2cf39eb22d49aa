-- Proves the goal of `SecretKey::to_bytes` that the prover leaves open.
use Rattle.std.proofs.Common.{arith, append-nil, []}
use Rattle.minisign.proofs.Common.{common_steps}
use Rattle.minisign.proofs.SecretKeyTexts.{bytes_are_read}
use Rattle.minisign.proofs.secret_key.SecretKey.to_bytes.Goals as goal

pub returns-clause-reads_back : goal.returns-clause-reads_back
returns-clause-reads_back c = bytes_are_read _ _ (record {
  algorithm_length = grind (arith, common_steps);
  kdf_length = grind (arith, common_steps);
  checksum_algorithm_length = grind (arith, common_steps);
  salt_length = grind (arith, common_steps);
  operations_limit_length = grind (arith, common_steps);
  memory_limit_length = grind (arith, common_steps);
  keynum_length = grind (arith, common_steps);
  secret_length = grind (arith, common_steps);
  checksum_length = grind (arith, common_steps);
  front = ([], rw append-nil (grind (arith, common_steps)));
})
