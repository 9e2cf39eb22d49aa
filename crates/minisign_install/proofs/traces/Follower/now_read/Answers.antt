-- Proves the goals of `Follower::now_read` that the prover leaves open.
use Rattle.std.proofs.Common.{refl}
use Rattle.minisign_install.specs.Traces.{world_of}
use Rattle.minisign_install.proofs.FullTraces.{piece_leaves}
use Rattle.minisign_install.proofs.Tracing.{if_some}
use Rattle.minisign_install.proofs.traces.Follower.now_read.Goals as goal

pub returns-in-Piece-clause-sound : goal.returns-in-Piece-clause-sound
returns-in-Piece-clause-sound c =
    rw c.in-Piece.is
    (if_some c.next_read.result _ _
    (λ r holds. λ message s m follows.
    (holds (world_of c.args.inputs.now) message s m refl follows).0) c.next_read.ensures.sound)

pub returns-in-Piece-clause-complete : goal.returns-in-Piece-clause-complete
returns-in-Piece-clause-complete c = λ message s m new follows done from.
    let w = world_of c.args.inputs.now in
    c.next_read.ensures.complete w message s m refl follows
    (piece_leaves w s s.due c.in-Piece.bytes.now m new (rw c.in-Piece.is at done)) (rw c.in-Piece.is at from)
