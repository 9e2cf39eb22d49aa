-- Proves the goal of `padding` that the prover leaves open.
use Rattle.std.proofs.Common.{◌-◌, ◌%◌, arith}
use Rattle.minisign_sha2.proofs.Absorbing512.{padding-take}
use Rattle.minisign_sha2.proofs.block512.padding.Goals as goal

pub returns : goal.returns
returns c = padding-take 0x80 0 ((239 - c.args.used) % 128) (omega arith)
