-- Proves the goal of `read_row` that the prover leaves open.
use Rattle.minisign_hash.proofs.Lanes.{words_read}
use Rattle.minisign_hash.proofs.blake2b.read_row.Goals as goal

pub returns : goal.returns
returns c j lt = words_read c.args.block.now c.args.row j c.requires c.type_inv.block lt
