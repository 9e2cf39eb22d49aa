-- The loop invariant of `read_u64v_le`.
use Rattle.std.proofs.Common.{◌≡◌, ℕ, ◌*◌, ◌<◌, drop, slice_index, take}
use Rattle.std.specs.Int.{w64, from_le_bytes}
use Rattle.minisign_hash.proofs.cryptoutil.read_u64v_le.Given as goal

abbrev pub invariant-words : goal.invariant-words
invariant-words l = (k : ℕ) → k < l.i
    → slice_index l.dst k ≡ from_le_bytes w64 (take 8 (drop (8 * k) l.input))
