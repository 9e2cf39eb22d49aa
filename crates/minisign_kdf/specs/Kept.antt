-- scryptROMix (RFC 7914, section 5) with only every k-th row kept; the other rows are computed again.
use Rattle.std.specs.Prelude.{ℕ, ◌-◌, ◌*◌, ◌/◌, ◌%◌, List, [], length, map, slice_index_or}
use Rattle.std.specs.Int.{div_ceil}
use Rattle.std.specs.List.{range_with_len}
use Rattle.std.specs.Simd.Lanes.{number_l}
use Rattle.minisign_kdf.specs.Blocks.{block}
use Rattle.minisign_kdf.specs.Diagonal.{diagonal_bytes}
use Rattle.minisign_kdf.specs.Scrypt.{mixed_part, row_at}

-- Integerify: the last block of a part as a number, least significant byte first (section 5).
abbrev pub integerify : ℕ → List ℕ → ℕ
integerify r x = number_l 256 (block 64 x (2 * r - 1))

-- The model of the kept rows: r is the block size, n is N, and the rows V_0, V_k, V_2k, .. are bytes in the
-- order of the RFC.
pub record KeptRows : Type 0 where
  pub r : ℕ
  pub n : ℕ
  pub k : ℕ
  pub rows : List (List ℕ)

-- The rows V_0, V_k, V_2k, .. with numbers below n. There are n / k of them, rounded up.
unfoldable pub kept_rows : ℕ → ℕ → ℕ → List ℕ → List (List ℕ)
kept_rows r n k b = map (λ i. row_at r b (k * i)) (range_with_len 0 (div_ceil n k))

-- The first count rows in a list of words, as bytes. A row has 2 * r blocks of sixteen words, and
-- the words of each block are in diagonal order.
unfoldable pub rows_of : ℕ → ℕ → List ℕ → List (List ℕ)
rows_of r count words = map (λ i. diagonal_bytes (block (32 * r) words i)) (range_with_len 0 count)

-- Row j, computed by mixing the kept row j / k another j mod k times.
unfoldable pub remade_row : ℕ → ℕ → List (List ℕ) → ℕ → List ℕ
remade_row r k rows j = row_at r (slice_index_or rows (j / k) []) (j % k)

-- scryptROMix from kept rows, with n for N. X begins as row N, which is computed from the last kept
-- row.
unfoldable pub rom_mix_from : ℕ → ℕ → ℕ → List (List ℕ) → List ℕ
rom_mix_from r n k rows =
    let last = length rows - 1 in
    mixed_part r n (remade_row r k rows) (row_at r (slice_index_or rows last []) (n - k * last)) n
