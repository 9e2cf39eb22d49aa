-- The effect of whole blocks of a message on the state, none of which is the message's last block.
use Rattle.std.specs.Prelude.{◌≡◌, ◌+◌, ◌*◌, ◌/◌, ◌%◌, ◌^◌, ◌++◌, ℕ, List, drop, length}
use Rattle.minisign_hash.specs.Blake2b.{state_after}

-- Compressing these blocks turns the state h into the state `after`: for every message, if h is the
-- state after its first i blocks, count is the number of bytes of these i blocks modulo 2 ^ 128,
-- and the given blocks come next in the message, then `after` is the state after the given blocks.
abbrev pub LeadTo : List ℕ → List ℕ → ℕ → List ℕ → Type 0
LeadTo blocks h count after =
    (n : ℕ) (m behind : List ℕ) (i : ℕ) → drop (128 * i) m ≡ blocks ++ behind → h ≡ state_after n m i
    → count ≡ 128 * i % 2 ^ 128 → after ≡ state_after n m (i + length blocks / 128)
