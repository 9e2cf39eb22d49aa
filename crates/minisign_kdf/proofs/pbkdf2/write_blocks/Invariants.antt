-- The loop invariant of `write_blocks`.
use Rattle.std.proofs.Common.{◌≡◌, ◌+◌, ◌*◌, ◌++◌, take}
use Rattle.minisign_kdf.specs.Blocks.{joined_lists}
use Rattle.std.specs.Int.{w32, to_be_bytes}
use Rattle.minisign_kdf.specs.Hmac.{hmac}
use Rattle.minisign_kdf.proofs.pbkdf2.write_blocks.Given as goal

abbrev pub invariant-whole : goal.invariant-whole
invariant-whole l = take (32 * l.i) l.out
    ≡ joined_lists (λ j. hmac l.password (l.salt ++ to_be_bytes w32 (j + 1))) l.i
