-- Proves the goal of `xor_rotated_sum` that the prover leaves open.
use Rattle.std.proofs.Common.{◌≡◌, ◌-◌, ◌%◌, length, refl, arith}
use Rattle.minisign_kdf.proofs.Sixteen.{four_of}
use Rattle.minisign_kdf.proofs.salsa.xor_rotated_sum.Goals as goal

pub returns : goal.returns
returns c =
    let bits = c.args.bits in
    let lx : length c.args.x ≡ 4 = omega arith in
    let ly : length c.args.y ≡ 4 = omega arith in
    let lz : length c.args.z ≡ 4 = omega arith in
    let left : bits % 32 ≡ bits = omega arith in
    let right : (32 - bits) % 32 ≡ 32 - bits = omega arith in
    rw (four_of c.args.x lx, four_of c.args.y ly, four_of c.args.z lz, left, right) refl
