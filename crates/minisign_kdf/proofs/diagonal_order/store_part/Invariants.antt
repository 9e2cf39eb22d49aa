-- The loop invariant of `store_part`.
use Rattle.std.proofs.Common.{◌≡◌, ◌*◌, take}
use Rattle.minisign_kdf.specs.Diagonal.{diagonal_bytes}
use Rattle.minisign_kdf.proofs.diagonal_order.store_part.Given as goal

abbrev pub invariant-block : goal.invariant-block
invariant-block l = take (64 * l.i) l.bytes ≡ diagonal_bytes (take (16 * l.i) l.words)
