-- Proves the goals of `mix_round` that the prover leaves open.
use Rattle.std.proofs.Common.{◌≡◌, length, refl, arith}
use Rattle.minisign_hash.specs.Blake2b.{mix, round}
use Rattle.minisign_hash.proofs.Lanes.{sixteen_of}
use Rattle.minisign_hash.proofs.blake2b.mix_round.Goals as goal

-- Each index in a row of the schedule is below sixteen.
pub offset_bounds-m-s : goal.offset_bounds-m-s
offset_bounds-m-s c = omega (arith, c.requires 0)

pub bounds-m-s : goal.bounds-m-s
bounds-m-s c = c.requires 0

pub offset_bounds-m-s-2 : goal.offset_bounds-m-s-2
offset_bounds-m-s-2 c = omega (arith, c.requires 2)

pub bounds-m-s-2 : goal.bounds-m-s-2
bounds-m-s-2 c = c.requires 2

pub offset_bounds-m-s-3 : goal.offset_bounds-m-s-3
offset_bounds-m-s-3 c = omega (arith, c.requires 4)

pub bounds-m-s-3 : goal.bounds-m-s-3
bounds-m-s-3 c = c.requires 4

pub offset_bounds-m-s-4 : goal.offset_bounds-m-s-4
offset_bounds-m-s-4 c = omega (arith, c.requires 6)

pub bounds-m-s-4 : goal.bounds-m-s-4
bounds-m-s-4 c = c.requires 6

pub offset_bounds-m-s-5 : goal.offset_bounds-m-s-5
offset_bounds-m-s-5 c = omega (arith, c.requires 1)

pub bounds-m-s-5 : goal.bounds-m-s-5
bounds-m-s-5 c = c.requires 1

pub offset_bounds-m-s-6 : goal.offset_bounds-m-s-6
offset_bounds-m-s-6 c = omega (arith, c.requires 3)

pub bounds-m-s-6 : goal.bounds-m-s-6
bounds-m-s-6 c = c.requires 3

pub offset_bounds-m-s-7 : goal.offset_bounds-m-s-7
offset_bounds-m-s-7 c = omega (arith, c.requires 5)

pub bounds-m-s-7 : goal.bounds-m-s-7
bounds-m-s-7 c = c.requires 5

pub offset_bounds-m-s-8 : goal.offset_bounds-m-s-8
offset_bounds-m-s-8 c = omega (arith, c.requires 7)

pub bounds-m-s-8 : goal.bounds-m-s-8
bounds-m-s-8 c = c.requires 7

pub offset_bounds-m-s-9 : goal.offset_bounds-m-s-9
offset_bounds-m-s-9 c = omega (arith, c.requires 14)

pub bounds-m-s-9 : goal.bounds-m-s-9
bounds-m-s-9 c = c.requires 14

pub offset_bounds-m-s-10 : goal.offset_bounds-m-s-10
offset_bounds-m-s-10 c = omega (arith, c.requires 8)

pub bounds-m-s-10 : goal.bounds-m-s-10
bounds-m-s-10 c = c.requires 8

pub offset_bounds-m-s-11 : goal.offset_bounds-m-s-11
offset_bounds-m-s-11 c = omega (arith, c.requires 10)

pub bounds-m-s-11 : goal.bounds-m-s-11
bounds-m-s-11 c = c.requires 10

pub offset_bounds-m-s-12 : goal.offset_bounds-m-s-12
offset_bounds-m-s-12 c = omega (arith, c.requires 12)

pub bounds-m-s-12 : goal.bounds-m-s-12
bounds-m-s-12 c = c.requires 12

pub offset_bounds-m-s-13 : goal.offset_bounds-m-s-13
offset_bounds-m-s-13 c = omega (arith, c.requires 15)

pub bounds-m-s-13 : goal.bounds-m-s-13
bounds-m-s-13 c = c.requires 15

pub offset_bounds-m-s-14 : goal.offset_bounds-m-s-14
offset_bounds-m-s-14 c = omega (arith, c.requires 9)

pub bounds-m-s-14 : goal.bounds-m-s-14
bounds-m-s-14 c = c.requires 9

pub offset_bounds-m-s-15 : goal.offset_bounds-m-s-15
offset_bounds-m-s-15 c = omega (arith, c.requires 11)

pub bounds-m-s-15 : goal.bounds-m-s-15
bounds-m-s-15 c = c.requires 11

pub offset_bounds-m-s-16 : goal.offset_bounds-m-s-16
offset_bounds-m-s-16 c = omega (arith, c.requires 13)

pub bounds-m-s-16 : goal.bounds-m-s-16
bounds-m-s-16 c = c.requires 13

pub returns : goal.returns
unfolding mix round
returns c =
    let lv : length c.args.v ≡ 16 = omega arith in
    rw (c.mix_columns-w.ensures, c.mix_columns-v.ensures, sixteen_of c.args.v lv) refl
