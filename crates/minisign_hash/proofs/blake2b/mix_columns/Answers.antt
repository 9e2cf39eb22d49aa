-- Proves the goal of `mix_columns` that the prover leaves open.
use Rattle.std.proofs.Common.{arith}
use Rattle.minisign_hash.proofs.Lanes.{lanes_mixed}
use Rattle.minisign_hash.proofs.blake2b.mix_columns.Goals as goal

pub returns : goal.returns
returns c =
    lanes_mixed c.args.v c.args.x c.args.y _ _ _ _ _ _ _ _ (omega arith) (omega arith) (omega arith)
    c.sum_of_three-a.ensures c.xor_rotated-d.ensures c.sum_of_two-c.ensures c.xor_rotated-b.ensures
    c.sum_of_three-a-2.ensures c.xor_rotated-d-2.ensures c.sum_of_two-c-2.ensures c.xor_rotated-b-2.ensures
