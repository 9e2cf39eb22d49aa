-- A hash state as contracts see it: the length of its digest, whether it is finalized, and the
-- messages that it was fed. Callers use these definitions without unfolding them.
use Rattle.std.specs.Prelude.{◌≡◌, ℕ, ◌+◌, ◌*◌, ◌%◌, ◌^◌, ◌<◌, Bool, List, length, take, drop}
use Rattle.minisign_hash.specs.Blake2b.{state_after}
use Rattle.minisign_hash.specs.declared.blake2b.Blake2b.{Blake2b}

-- The length of the digest in bytes, from 1 to 64.
unfoldable pub output_length : Blake2b → ℕ
output_length s = s.outlen

-- The state is finalized: its digest was written.
unfoldable pub has_finalized : Blake2b → Bool
has_finalized s = s.finalized

-- After i blocks of the message m, none of which is the last: h is the state for a digest of n
-- bytes, count is the number of bytes in these blocks modulo 2 ^ 128, and the first used bytes of
-- the buffer are the rest of m.
pub record HeldAfter (n : ℕ) (h : List ℕ) (count : ℕ) (buffer : List ℕ) (used : ℕ) (m : List ℕ) (i : ℕ)
    : Type 0 where
  pub len : length m ≡ 128 * i + used
  pub state : h ≡ state_after n m i
  pub rest : take used buffer ≡ drop (128 * i) m
  pub counted : count ≡ 128 * i % 2 ^ 128

-- The state holds the message m: some number of blocks is compressed, and the rest is in the
-- buffer.
unfoldable pub Holds : Blake2b → List ℕ → Type 0
Holds s m = (i : ℕ) × HeldAfter s.outlen s.h s.count s.buffer s.used m i

-- The state was fed the message m: it holds the message, and the last block is still in the buffer.
-- Several messages may lead to the same state.
unfoldable pub IsFed : Blake2b → List ℕ → Type 0
IsFed s m = Holds s m × (0 < length m → 0 < s.used)
