-- The entries of a list, and the only entry of a name.
use Rattle.std.specs.Prelude.{◌≡◌, ◌+◌, true, false, ℕ, Bool, List, [], ◌∷◌, ◌++◌, Result, Ok}
use Rattle.std.specs.Prelude.{Err}
use Rattle.std.specs.Prelude.{bytes_eq, filter, option_to_list, if◌then◌else◌}
use Rattle.std.specs.List.{list_any}
use Rattle.std.specs.Str.Lines.{lines}
use Rattle.minisign_lists.specs.Faults.{ListFault, BadName, NotListed, ListedTwice, and_then, map_ok}
use Rattle.minisign_lists.specs.Lines.{Entry, LongDigest, read_line}
use Rattle.minisign_lists.specs.Names.{is_name, without_dot}

-- The entries of these lines, which are numbered from n on, or the error of the first malformed
-- line.
abbrev pub read_entries : LongDigest → ℕ → List (List ℕ) → Result (List Entry) ListFault
read_entries long n [] = Ok []
read_entries long n (line ∷ more) =
    and_then (read_line long n line) (λ entry.
    map_ok (λ entries. option_to_list entry ++ entries) (read_entries long (n + 1) more))

-- The entries of a list, or the error of the first malformed line.
abbrev pub read_list : LongDigest → List ℕ → Result (List Entry) ListFault
read_list long list = read_entries long 1 (lines list)

-- The entry has this name.
abbrev pub has_name : List ℕ → Entry → Bool
has_name name e = bytes_eq e.name name

-- The entry, if there is exactly one.
abbrev pub only_entry : List Entry → Result Entry ListFault
only_entry [] = Err NotListed
only_entry (e ∷ []) = Ok e
only_entry (_ ∷ second ∷ _) = Err (ListedTwice second.line)

-- The entry of a name in a list, or the error of the first check that fails. Every line of the list
-- must be well formed. A name on two lines is an error, even if both lines have the same digest.
unfoldable pub listed_entry : LongDigest → List ℕ → List ℕ → Result Entry ListFault
listed_entry long list name =
    if is_name name
    then and_then (read_list long list) (λ entries. only_entry (filter (has_name (without_dot name)) entries))
    else Err BadName

-- Looking up a name as a relation: the name can be looked up, every line of the list is well
-- formed, this entry has the name, and all other entries have other names.
pub record IsListed (long : LongDigest) (list name : List ℕ) (entry : Entry) : Type 0 where
  pub named : is_name name ≡ true
  pub before : List Entry
  pub after : List Entry
  pub entries : read_list long list ≡ Ok (before ++ entry ∷ after)
  pub of_name : has_name (without_dot name) entry ≡ true
  pub others : list_any (has_name (without_dot name)) (before ++ after) ≡ false
