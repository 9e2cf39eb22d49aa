-- The loop invariant of `feed`.
use Rattle.std.proofs.Common.{◌≡◌, ℕ, List, ◌++◌, false}
use Rattle.minisign_hash.specs.Fed.{IsFed, has_finalized, output_length}
use Rattle.minisign_compare.proofs.building_blocks.feed.Given as goal

abbrev pub invariant-pieces : goal.invariant-pieces
invariant-pieces l = (has_finalized l.state ≡ false) × (output_length l.state ≡ output_length l.fn.state)
    × ((done : List ℕ) × (l.bytes ≡ done ++ l.rest)
    × ((m : List ℕ) → IsFed l.fn.state m → IsFed l.state (m ++ done)))
