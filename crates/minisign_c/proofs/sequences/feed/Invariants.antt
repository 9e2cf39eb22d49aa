-- The loop invariant of `feed`.
use Rattle.std.proofs.Common.{take}
use Rattle.minisign_external.specs.Signing.{joined}
use Rattle.minisign_external.specs.States.{IsFedState, KeepsQuestions}
use Rattle.minisign_c.proofs.sequences.feed.Given as goal

abbrev pub invariant-pieces : goal.invariant-pieces
invariant-pieces l =
    IsFedState l.state (joined (take l.piece-index l.pieces)) × KeepsQuestions l.fn.state l.state
