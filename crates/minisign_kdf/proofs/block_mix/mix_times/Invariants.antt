-- The loop invariant of `mix_times`.
use Rattle.std.proofs.Common.{◌≡◌, ◌+◌, ◌-◌, ◌*◌, ◌%◌}
use Rattle.minisign_kdf.specs.Diagonal.{diagonal_bytes}
use Rattle.minisign_kdf.specs.Scrypt.{row_at}
use Rattle.minisign_kdf.proofs.block_mix.mix_times.Given as goal

-- `into` is the result of 2 - times % 2 + 2 * pair applications: `begin_mixing` makes one if `times` is odd
-- and otherwise two, and each earlier pass of the loop made two.
abbrev pub invariant-pairs : goal.invariant-pairs
invariant-pairs l = diagonal_bytes l.into ≡ row_at l.r (diagonal_bytes l.from) (2 - l.times % 2 + 2 * l._pair)
