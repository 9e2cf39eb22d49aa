-- The loop invariant of `load_words`.
use Rattle.std.proofs.Common.{◌≡◌, ◌*◌, take}
use Rattle.minisign_kdf.specs.Salsa20.{bytes_of_words32}
use Rattle.minisign_kdf.proofs.diagonal_order.load_words.Given as goal

abbrev pub invariant-words : goal.invariant-words
invariant-words l = bytes_of_words32 (take l.i l.words) ≡ take (4 * l.i) l.bytes
