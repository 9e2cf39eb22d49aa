-- The names of files in a list: relative paths, as lists of bytes. Text is UTF-8.
use Rattle.std.specs.Prelude.{ℕ, ◌==◌, ◌&&◌, ◌||◌, not, Bool, List, [], nat_lt, take, drop, bytes_eq}
use Rattle.std.specs.Prelude.{codes}
use Rattle.std.specs.Prelude.{if◌then◌else◌}
use Rattle.std.specs.List.{list_all, list_any, slice_split}

-- An ASCII control character.
abbrev pub is_control : ℕ → Bool
is_control b = nat_lt b 32 || b == 127

abbrev pub is_slash : ℕ → Bool
is_slash b = b == 47

abbrev pub is_backslash : ℕ → Bool
is_backslash b = b == 92

-- A valid part of a path, between slashes: neither empty nor . nor ..
abbrev pub is_path_part : List ℕ → Bool
is_path_part part = not (bytes_eq part [] || bytes_eq part (codes ".") || bytes_eq part (codes ".."))

-- A relative path of valid parts, so that no two paths name the same file, and none leads out of
-- its directory.
abbrev pub is_path : List ℕ → Bool
is_path name = list_all is_path_part (slice_split is_slash name)

-- The name without one leading ./
abbrev pub without_dot : List ℕ → List ℕ
without_dot name = if bytes_eq (take 2 name) (codes "./") then drop 2 name else name

-- A name that can be looked up: after an optional ./, a relative path without control characters
-- and backslashes.
abbrev pub is_name : List ℕ → Bool
is_name name =
    is_path (without_dot name) && not (list_any is_control name) && not (list_any is_backslash name)
