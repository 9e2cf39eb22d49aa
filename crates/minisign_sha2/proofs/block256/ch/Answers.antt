-- Proves the goal of `ch` that the prover leaves open.
use Rattle.std.proofs.Common.{w32, arith}
use Rattle.minisign_sha2.proofs.ChMaj.{ch_short}
use Rattle.minisign_sha2.proofs.block256.ch.Goals as goal

pub returns : goal.returns
returns c = ch_short w32 c.args.x c.args.y c.args.z (omega arith) (omega arith) (omega arith)
