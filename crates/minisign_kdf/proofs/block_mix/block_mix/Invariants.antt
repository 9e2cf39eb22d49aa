-- The loop invariant of `block_mix`.
use Rattle.std.proofs.Common.{◌≡◌, ◌+◌, ◌*◌, take}
use Rattle.minisign_kdf.specs.Blocks.{joined_lists}
use Rattle.minisign_kdf.specs.Diagonal.{block_words, diagonal_bytes}
use Rattle.minisign_kdf.specs.Salsa20.{bytes_of_words32}
use Rattle.minisign_kdf.specs.Scrypt.{mixed_block}
use Rattle.minisign_kdf.proofs.Mixing.{previous_block}
use Rattle.minisign_kdf.proofs.block_mix.block_mix.Given as goal

abbrev pub invariant-pairs : goal.invariant-pairs
invariant-pairs l =
    (bytes_of_words32 (block_words l.x) ≡ previous_block l.r (diagonal_bytes l.from) (2 * l.i))
    × (diagonal_bytes (take (16 * l.i) l.even)
    ≡ joined_lists (λ j. mixed_block l.r (diagonal_bytes l.from) (2 * j)) l.i)
    × (diagonal_bytes (take (16 * l.i) l.odd)
    ≡ joined_lists (λ j. mixed_block l.r (diagonal_bytes l.from) (2 * j + 1)) l.i)
