-- The text form of key IDs.
use Rattle.std.specs.Prelude.{ℕ, zero, suc, ◌-◌, ◌/◌, ◌%◌, ◌^◌, true, false, List, [], ◌∷◌}
use Rattle.std.specs.Fmt.{digit_glyph, digits, format_spec, padded_integral}
use Rattle.std.specs.Int.{from_le_bytes, w64}

-- The text of a key ID: its 8 bytes, read little endian, as 16 uppercase hexadecimal digits with
-- leading zeros.
unfoldable pub key_id_text : List ℕ → List ℕ
key_id_text id =
    padded_integral (format_spec 32 0 4 16 (2 ^ 64 - 1)) false [] (digits 16 true (from_le_bytes w64 id))

-- The last digits of a number in uppercase hexadecimal, followed by other digits.
abbrev pub last_digits : ℕ → ℕ → List ℕ → List ℕ
last_digits zero n behind = behind
last_digits (suc places) n behind = last_digits places (n / 16) (digit_glyph true (n % 16) ∷ behind)
