-- Proves the goal of `work_vector` that the prover leaves open.
use Rattle.std.proofs.Common.{◌≡◌, length, refl, arith}
use Rattle.minisign_hash.specs.Blake2b.{iv, work_vector}
use Rattle.minisign_hash.proofs.Lists.{eight_of}
use Rattle.minisign_hash.proofs.blake2b.work_vector.Goals as goal
use Rattle.minisign_hash.proofs.blake2b.work_vector.Goals.{then-last, else-last}

pub returns : goal.returns
unfolding iv work_vector
returns c =
    let len : length c.args.h ≡ 8 = omega arith in
    elim c.if-last.branch [
      | then-last w ↦ rw (eight_of c.args.h len, w.flag-is, w.if-last.true) refl
      | else-last w ↦ rw (eight_of c.args.h len, w.flag-is, w.if-last.false) refl
    ]
