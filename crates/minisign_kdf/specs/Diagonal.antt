-- The diagonal order of the sixteen words of a block: index q holds word 5 * q mod 16, so word w is at
-- index 13 * w mod 16. The rows of scryptROMix are kept and mixed in this order.
use Rattle.std.specs.Prelude.{ℕ, ◌+◌, ◌*◌, ◌/◌, ◌%◌, List, ◌++◌, length, map, slice_index}
use Rattle.std.specs.List.{range_with_len}
use Rattle.minisign_kdf.specs.Blocks.{block, joined_lists}
use Rattle.std.specs.Simd.Lanes.{zip2}
use Rattle.minisign_kdf.specs.Salsa20.{add32, bytes_of_words32, double_round, quarter_at}
use Rattle.minisign_kdf.specs.declared.salsa.Block.{Block}

-- Puts the words of a block from diagonal order into the order of RFC 7914.
unfoldable pub standard_order : List ℕ → List ℕ
standard_order x = map (λ w. slice_index x (13 * w % 16)) (range_with_len 0 16)

-- The bytes, in the order of RFC 7914, of blocks whose words are in diagonal order.
unfoldable pub diagonal_bytes : List ℕ → List ℕ
diagonal_bytes xs = joined_lists (λ i. bytes_of_words32 (standard_order (block 16 xs i))) (length xs / 16)

-- Sixteen words as a square of four rows of four, transposed.
unfoldable pub transposed_square : List ℕ → List ℕ
transposed_square x = map (λ w. slice_index x (4 * (w % 4) + w / 4)) (range_with_len 0 16)

-- The column round and the row round, which together are a double round.
unfoldable pub column_round : List ℕ → List ℕ
column_round x =
    quarter_at (quarter_at (quarter_at (quarter_at x 0 4 8 12) 5 9 13 1) 10 14 2 6) 15 3 7 11

unfoldable pub row_round : List ℕ → List ℕ
row_round x =
    quarter_at (quarter_at (quarter_at (quarter_at x 0 1 2 3) 5 6 7 4) 10 11 8 9) 15 12 13 14

-- Salsa20/8 on words: eight rounds, and the input words added.
unfoldable pub salsa_words : List ℕ → List ℕ
salsa_words x = zip2 add32 (double_round (double_round (double_round (double_round x)))) x

-- The words of a block in their order in memory, and in the order of RFC 7914.
abbrev pub placed_words : Block → List ℕ
placed_words x = x.a ++ x.b ++ x.c ++ x.d

abbrev pub block_words : Block → List ℕ
block_words x = standard_order (placed_words x)
