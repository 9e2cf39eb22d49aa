-- Proves the goal of `xor_rotated` that the prover leaves open.
use Rattle.std.proofs.Common.{arith}
use Rattle.minisign_hash.proofs.Lanes.{shifts_rotate}
use Rattle.minisign_hash.proofs.blake2b.xor_rotated.Goals as goal

pub returns : goal.returns
returns c = shifts_rotate c.args.n c.args.x c.args.y c.requires.low c.requires.high (omega arith)
    (omega arith)
