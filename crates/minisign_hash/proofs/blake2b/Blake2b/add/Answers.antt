-- Proves the goal of `Blake2b::add` that the prover leaves open.
use Rattle.std.proofs.Common.{◌+◌, length, refl, arith}
use Rattle.std.proofs.lemmas.Slice.{take-put_mid}
use Rattle.minisign_hash.specs.Fed.{Holds}
use Rattle.minisign_hash.proofs.Feeding.{holds_appended}
use Rattle.minisign_hash.proofs.blake2b.Blake2b.add.Goals as goal

pub returns-clause-holds : goal.returns-clause-holds
unfolding Holds
returns-clause-holds c = λ m (i, held).
    let s = c.args.self.now in (
      i,
      holds_appended s.outlen s.h s.count s.buffer _ s.used m c.args.piece.now i held
          (rw c.copy_from_slice.ensures.after
          (take-put_mid s.used _ s.buffer c.args.piece.now (s.used + length c.args.piece.now) refl
          (omega arith))),
    )
