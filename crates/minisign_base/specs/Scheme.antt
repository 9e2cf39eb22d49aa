-- The assumptions that the laws of a signature scheme make about its arguments: lists of numbers are
-- lists of bytes, and the random bytes for a signature, if there are any, are 64.
use Rattle.std.specs.Prelude.{◌≡◌, ℕ, ◌<◌, List, Option, length, slice_index, IfSome}

-- Each element of the list is a byte.
abbrev pub IsBytes : List ℕ → Type 0
IsBytes b = (i : ℕ) → slice_index b i < 256

-- Either there are no random bytes, or there are 64.
abbrev pub AreRandomBytes : Option (List ℕ) → Type 0
AreRandomBytes z = IfSome z (λ r. IsBytes r × (length r ≡ 64))
