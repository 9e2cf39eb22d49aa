-- Lists of bytes that are split into blocks and joined again.
use Rattle.std.specs.Prelude.{ℕ, ◌*◌, List, take, drop}
use Rattle.std.specs.List.{flat_map, range_with_len}

-- Block number i, from 0, of a list that is split into blocks of n elements.
abbrev pub block : ℕ → List ℕ → ℕ → List ℕ
block n xs i = take n (drop (n * i) xs)

-- The concatenation of f 0, f 1, .., f (n - 1).
unfoldable pub joined_lists : (ℕ → List ℕ) → ℕ → List ℕ
joined_lists f n = flat_map f (range_with_len 0 n)
