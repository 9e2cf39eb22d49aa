-- Proves the goal of `transposed` that the prover leaves open.
use Rattle.std.proofs.Common.{◌≡◌, length, refl, arith}
use Rattle.minisign_kdf.specs.Diagonal.{standard_order, transposed_square}
use Rattle.minisign_kdf.proofs.Sixteen.{four_of}
use Rattle.minisign_kdf.proofs.salsa.transposed.Goals as goal

pub returns : goal.returns
unfolding standard_order transposed_square
returns c =
    let x = c.args.x in
    let la : length x.a ≡ 4 = omega arith in
    let lb : length x.b ≡ 4 = omega arith in
    let lc : length x.c ≡ 4 = omega arith in
    let ld : length x.d ≡ 4 = omega arith in
    rw (four_of x.a la, four_of x.b lb, four_of x.c lc, four_of x.d ld) refl
