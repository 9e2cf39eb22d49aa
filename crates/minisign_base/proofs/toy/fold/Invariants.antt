-- The loop invariant of `fold`.
use Rattle.std.proofs.Common.{◌≡◌, ℕ, ◌<◌, length, take, slice_index}
use Rattle.minisign_base.specs.Toy.{column}
use Rattle.minisign_base.proofs.toy.fold.Given as goal

abbrev pub invariant-loop-j : goal.invariant-loop-j
invariant-loop-j l = (length l.columns ≡ 32)
    × ((i : ℕ) → i < 32 → slice_index l.columns i ≡ column i 0 (take l.j l.message))
