-- The loop invariant of `fixed_time_eq`.
use Rattle.std.proofs.Common.{◌≡◌, ℕ, ◌<◌, slice_index}
use Rattle.minisign_hash.proofs.util.fixed_time_eq.Given as goal

abbrev pub invariant-bytes : goal.invariant-bytes
invariant-bytes l = (l.differing ≡ 0 → (k : ℕ) → k < l.i → slice_index l.lhs k ≡ slice_index l.rhs k)
    × (l.lhs ≡ l.rhs → l.differing ≡ 0)
