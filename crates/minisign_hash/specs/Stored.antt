-- A hash state that is stored as plain numbers, as contracts see it: the messages that it was fed.
-- Callers use this definition without unfolding it.
use Rattle.std.specs.Prelude.{ℕ, ◌*◌, ◌+◌, ◌^◌, ◌<◌, ◌≤◌, List, length}
use Rattle.minisign_hash.specs.Fed.{HeldAfter}
use Rattle.minisign_hash.specs.declared.blake2b.stored.StoredBlake2b.{StoredBlake2b}

-- The stored state, which is for a digest of 64 bytes, was fed the message m: the state holds m,
-- its last block is still in the buffer, and at most 256 bytes of the buffer are used.
unfoldable pub WasFed : StoredBlake2b → List ℕ → Type 0
WasFed s m =
    (i : ℕ) × HeldAfter 64 s.h (2 ^ 64 * s.count_high + s.count_low) s.buffer s.used m i
    × (s.used ≤ 256) × (0 < length m → 0 < s.used)
