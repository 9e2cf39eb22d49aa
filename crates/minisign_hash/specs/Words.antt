-- 64-bit words as little endian bytes (RFC 7693, section 2.4). A byte is a number below 256.
use Rattle.std.specs.Prelude.{ℕ, ◌*◌, ◌/◌, List, length, take, drop, map}
use Rattle.std.specs.Int.{w64, from_le_bytes, to_le_bytes}
use Rattle.std.specs.List.{flat_map, range_with_len}

-- The words in these bytes, eight bytes for each word, least significant byte first. Bytes after
-- the last whole word are ignored.
unfoldable pub words64_of : List ℕ → List ℕ
words64_of bytes = map (λ i. from_le_bytes w64 (take 8 (drop (8 * i) bytes)))
    (range_with_len 0 (length bytes / 8))

-- The bytes of these words, least significant byte first.
unfoldable pub bytes_of_words64 : List ℕ → List ℕ
bytes_of_words64 words = flat_map (to_le_bytes w64) words
