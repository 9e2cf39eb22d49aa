-- Proves the goal of `in_diagonal_order` that the prover leaves open.
use Rattle.std.proofs.Common.{◌≡◌, length, refl, arith}
use Rattle.minisign_kdf.specs.Diagonal.{standard_order}
use Rattle.minisign_kdf.proofs.Sixteen.{sixteen_of}
use Rattle.minisign_kdf.proofs.diagonal_order.in_diagonal_order.Goals as goal

pub returns : goal.returns
unfolding standard_order
returns c =
    let x = c.args.x.now in
    let len : length x ≡ 16 = omega arith in
    rw (sixteen_of x len) refl
