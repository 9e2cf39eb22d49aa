-- The memory that the caller provides for a derivation: 32-bit words, and bytes.
use Rattle.std.specs.Prelude.{ℕ, ◌+◌, ◌*◌, ◌^◌}
use Rattle.std.specs.Int.{div_ceil}
use Rattle.minisign_kdf.specs.Params.{Numbers}

-- The number of words that are needed if every k-th row is kept: those in the kept rows of a part
-- and in three more rows.
abbrev pub words_needed : Numbers → ℕ → ℕ
words_needed v k = 32 * v.r * (div_ceil (2 ^ v.n_log2) k + 3)

-- The number of bytes that are needed: those in all parts.
abbrev pub bytes_needed : Numbers → ℕ
bytes_needed v = 128 * v.r * v.p
