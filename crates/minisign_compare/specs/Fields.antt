-- The form of the fields of an answer.
use Rattle.std.specs.Prelude.{◌==◌, ◌||◌, ℕ, Bool, List, ◌++◌, Option, Some, None, codes, decimal}
use Rattle.std.specs.Prelude.{length, if◌then◌else◌}
use Rattle.hex.specs.Hex.{encode_lower}
use Rattle.minisign_compare.specs.declared.replies.Reply.{Reply}

-- The fields so far, followed by the name of the next field and `=`. Fields are separated by a
-- space.
abbrev pub begun : List ℕ → List ℕ → List ℕ
begun fields name = (if length fields == 0 then fields else (fields ++ codes " ")) ++ name ++ codes "="

-- The fields so far, followed by a field of bytes.
abbrev pub with_bytes : List ℕ → List ℕ → List ℕ → List ℕ
with_bytes fields name bytes = begun fields name ++ codes "x" ++ encode_lower bytes

-- The fields so far, followed by a field of a number.
abbrev pub with_number : List ℕ → List ℕ → ℕ → List ℕ
with_number fields name number = begun fields name ++ decimal number

-- True if a field of the reply is missing or incomplete.
abbrev pub is_incomplete : Reply → Bool
is_incomplete reply = reply.fields.is_short || reply.tail.is_short || reply.deeds.is_short

-- The stored error if there is one, and otherwise the new error.
abbrev pub first_of : {E : Type 0} → Option E → E → Option E
first_of (Some stored) new = Some stored
first_of None new = Some new
