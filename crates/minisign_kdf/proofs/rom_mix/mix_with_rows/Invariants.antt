-- The loop invariant of `mix_with_rows`.
use Rattle.std.proofs.Common.{◌≡◌, ◌*◌, ◌^◌}
use Rattle.std.specs.Int.{div_ceil}
use Rattle.minisign_kdf.specs.Diagonal.{diagonal_bytes}
use Rattle.minisign_kdf.specs.Kept.{remade_row, rows_of}
use Rattle.minisign_kdf.specs.Scrypt.{mixed_part}
use Rattle.minisign_kdf.proofs.Remade.{last_row_mixed}
use Rattle.minisign_kdf.proofs.rom_mix.mix_with_rows.Given as goal

abbrev pub invariant-turns : goal.invariant-turns
invariant-turns l =
    diagonal_bytes l.x ≡ mixed_part l.r (2 ^ l.n_log2)
    (remade_row l.r l.k (rows_of l.r (div_ceil (2 ^ l.n_log2) l.k) l.rows))
    (last_row_mixed l.r (2 ^ l.n_log2) l.k l.rows) (2 * l._turn)
