-- The positions of lines in a list.
use Rattle.std.specs.Prelude.{ℕ, zero, suc, ◌+◌, ◌-◌, List, length, drop}
use Rattle.std.specs.List.{position_or_len}
use Rattle.minisign_lists.specs.Pieces.{is_feed}

-- The text after its first line feed, or nothing if there is no line feed.
abbrev pub after_line : List ℕ → List ℕ
after_line text = drop (position_or_len is_feed text + 1) text

-- The text without its first n lines.
abbrev pub without_lines : ℕ → List ℕ → List ℕ
without_lines zero text = text
without_lines (suc n) text = without_lines n (after_line text)

-- The number of bytes before the line with this number, from 1 on.
abbrev pub line_start : ℕ → List ℕ → ℕ
line_start number text = length text - length (without_lines (number - 1) text)
