-- The loop invariant of `after_blocks`, after k blocks. It has three parts:
--
-- If `blocks` are the blocks of a message after its first i blocks, none of them is its last block, and `h`
-- and `count` are the state and the byte count after these i blocks, then `state` and `taken_in` are those
-- after i + k blocks.
--
-- If k is 0, the state and the count are unchanged.
--
-- If k is 1 and there is only one block, that block was compressed, with the count increased by its bytes.
use Rattle.std.proofs.Common.{◌≡◌, ◌+◌, ◌*◌, ◌%◌, ◌^◌, ◌++◌, ℕ, List, drop, false, length}
use Rattle.minisign_hash.specs.Blake2b.{compress, state_after}
use Rattle.minisign_hash.specs.Words.{words64_of}
use Rattle.minisign_hash.proofs.blake2b.after_blocks.Given as goal

abbrev pub invariant-ahead : goal.invariant-ahead
invariant-ahead l = (l.last ≡ false → l.bytes ≡ 128
    → (n : ℕ) (m behind : List ℕ) (i : ℕ) → drop (128 * i) m ≡ l.blocks ++ behind → l.fn.h ≡ state_after n m i
    → l.fn.count ≡ 128 * i % 2 ^ 128
    → (l.state ≡ state_after n m (i + l.k)) × (l.taken_in ≡ 128 * (i + l.k) % 2 ^ 128))
    × (l.k ≡ 0 → (l.state ≡ l.fn.h) × (l.taken_in ≡ l.fn.count))
    × (l.k ≡ 1 → length l.blocks ≡ 128 → l.state ≡ compress l.fn.h (words64_of l.blocks)
    ((l.fn.count + l.bytes) % 2 ^ 128) l.last)
