-- Proves the goal of `in_standard_order` that the prover leaves open.
use Rattle.std.proofs.Common.{refl}
use Rattle.minisign_kdf.specs.Diagonal.{standard_order}
use Rattle.minisign_kdf.proofs.diagonal_order.in_standard_order.Goals as goal

pub returns : goal.returns
unfolding standard_order
returns c = refl
