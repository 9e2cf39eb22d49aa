-- Proves the goal of `column_round` that the prover leaves open.
use Rattle.std.proofs.Common.{◌≡◌, length, refl, arith}
use Rattle.minisign_kdf.specs.Diagonal.{column_round, standard_order}
use Rattle.minisign_kdf.specs.Salsa20.{quarter_at, quarter_round}
use Rattle.minisign_kdf.proofs.Sixteen.{four_of}
use Rattle.minisign_kdf.proofs.salsa.column_round.Goals as goal

pub returns : goal.returns
unfolding standard_order column_round quarter_at quarter_round
returns c =
    let x = c.args.x in
    let la : length x.a ≡ 4 = omega arith in
    let lb : length x.b ≡ 4 = omega arith in
    let lc : length x.c ≡ 4 = omega arith in
    let ld : length x.d ≡ 4 = omega arith in
    rw (
      c.xor_rotated_sum-a.ensures,
      c.xor_rotated_sum-d.ensures,
      c.xor_rotated_sum-c.ensures,
      c.xor_rotated_sum-b.ensures,
      four_of x.a la,
      four_of x.b lb,
      four_of x.c lc,
      four_of x.d ld,
    ) refl
