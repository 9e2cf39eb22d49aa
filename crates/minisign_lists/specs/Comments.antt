-- The condition under which a trusted comment names a list.
use Rattle.std.specs.Prelude.{◌==◌, ℕ, Bool, false, List, Option, Some, None, codes, bytes_eq, ◌++◌, find}
use Rattle.std.specs.Prelude.{take}
use Rattle.std.specs.Prelude.{length}
use Rattle.std.specs.List.{slice_split}

abbrev pub is_tab : ℕ → Bool
is_tab b = b == 9

-- The label of the field with the name of the file. For a list, this is the name of the list.
abbrev pub file_label : List ℕ
file_label = codes "file:"

-- The field begins with "file:".
abbrev pub has_label : List ℕ → Bool
has_label field = bytes_eq (take (length file_label) field) file_label

-- The field exists, and is "file:" followed by this name.
abbrev pub is_field_of : List ℕ → Option (List ℕ) → Bool
is_field_of name None = false
is_field_of name (Some field) = bytes_eq field (file_label ++ name)

-- The first field of the comment that begins with "file:" has this name. Fields are separated by
-- tabs.
abbrev pub names_list : List ℕ → List ℕ → Bool
names_list name comment = is_field_of name (find has_label (slice_split is_tab comment))
