-- Proves the goal of `SecretKey::from_bytes` that the prover leaves open.
use Rattle.std.proofs.Common.{sym}
use Rattle.minisign.proofs.RecordFields.{joined_fields}
use Rattle.minisign.proofs.SecretKeyTexts.{bytes_are_read}
use Rattle.minisign.proofs.secret_key.SecretKey.from_bytes.Goals as goal

pub returns : goal.returns
returns c = sym (bytes_are_read _ _ (record {
  algorithm_length = c.in_ok-sig_alg.ensures.first;
  kdf_length = c.in_ok-sig_alg.ensures.second;
  checksum_algorithm_length = c.in_ok-sig_alg.ensures.third;
  salt_length = c.in_ok-kdf_salt.ensures.first;
  operations_limit_length = c.in_ok-kdf_salt.ensures.second;
  memory_limit_length = c.in_ok-kdf_salt.ensures.third;
  keynum_length = c.in_ok-keynum.ensures.first;
  secret_length = c.in_ok-keynum.ensures.second;
  checksum_length = c.in_ok-keynum.ensures.third;
  front = (
    _,
    joined_fields _ _ _ _ _ _ _ c.in_ok-sig_alg.ensures.cut c.in_ok-kdf_salt.ensures.cut
        c.in_ok-keynum.ensures.cut,
  );
}))
