-- Proves the goal of `maj` that the prover leaves open.
use Rattle.minisign_sha2.proofs.ChMaj.{maj_short}
use Rattle.minisign_sha2.proofs.block256.maj.Goals as goal

pub returns : goal.returns
returns c = maj_short c.args.x c.args.y c.args.z
