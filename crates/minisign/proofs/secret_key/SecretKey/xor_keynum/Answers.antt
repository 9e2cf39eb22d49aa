-- Proves the goal of `SecretKey::xor_keynum` that the prover leaves open.
use Rattle.std.proofs.Common.{take, drop, ap, ◌∙◌, arith}
use Rattle.minisign.proofs.SealedParts.{xored_parts}
use Rattle.minisign.proofs.secret_key.SecretKey.xor_keynum.Goals as goal

pub returns : goal.returns
returns c =
    let stream = c.args.stream.now in
    let a = c.split_at.result.0.now in
    let b = c.split_at-2.result.0.now in
    let d = c.split_at-2.result.1.now in
    let behind = c.split_at.ensures.back in
    let (once, twice) = xored_parts _ _ _ a b d _ _ _ c.self.view_is
    (record { keynum = omega arith; secret = omega arith; checksum = omega arith }) (omega arith)
    c.split_at.ensures.front (c.split_at-2.ensures.front ∙ ap (take 64) behind)
    (c.split_at-2.ensures.back ∙ ap (drop 64) behind)
    (omega arith) (omega arith) (omega arith) c.xor_bytes.ensures c.xor_bytes-2.ensures
    c.xor_bytes-3.ensures in
    record { xored = once; restores = twice }
