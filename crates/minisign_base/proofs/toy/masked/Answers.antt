-- Proves the goal of `masked` that the prover leaves open.
use Rattle.std.proofs.Common.{◌≡◌, length, bit_xor, arith}
use Rattle.std.proofs.lemmas.Simd.{zip2_splat}
use Rattle.minisign_base.proofs.toy.masked.Goals as goal

pub returns : goal.returns
returns c =
    let len : length c.args.seed.now ≡ 32 = omega arith in
    zip2_splat bit_xor c.args.seed.now 32 0x5a len
