-- Proves the goal of `PublicKey::from_bytes` that the prover leaves open.
use Rattle.minisign.proofs.public_key.PublicKey.from_bytes.Goals as goal

pub returns : goal.returns
returns c = record {
  algorithm_length = c.in_ok-sig_alg.ensures.first;
  keynum_length = c.in_ok-sig_alg.ensures.second;
  key_length = c.in_ok-sig_alg.ensures.third;
  front = (_, c.in_ok-sig_alg.ensures.cut);
}
