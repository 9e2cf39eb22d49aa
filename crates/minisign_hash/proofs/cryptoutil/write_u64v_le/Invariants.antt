-- The loop invariant of `write_u64v_le`.
use Rattle.std.proofs.Common.{◌≡◌, ◌*◌, take}
use Rattle.minisign_hash.specs.Words.{bytes_of_words64}
use Rattle.minisign_hash.proofs.cryptoutil.write_u64v_le.Given as goal

abbrev pub invariant-words : goal.invariant-words
invariant-words l = take (8 * l.i) l.dst ≡ bytes_of_words64 (take l.i l.input)
