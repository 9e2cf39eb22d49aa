-- Writing a list: the lines that are appended, and what appending does to a buffer.
use Rattle.std.specs.Prelude.{⊤, false, ◌==◌, ◌||◌, ◌+◌, ◌-◌, ℕ, Bool, List, [], ◌∷◌, ◌++◌, length, take}
use Rattle.std.specs.Prelude.{drop, codes}
use Rattle.std.specs.Prelude.{slice_index, nat_le, filter, ◌≡◌, Result, Ok, Err, if◌then◌else◌}
use Rattle.std.specs.Str.Lines.{lines}
use Rattle.hex.specs.Hex.{encode_lower}
use Rattle.minisign_external.specs.declared.state.Misuse.TheVariants.{NoRoom}
use Rattle.minisign_external.specs.declared.state.Refusal.{Refusal}
use Rattle.minisign_external.specs.declared.state.Refusal.TheVariants.{WrongUse}
use Rattle.minisign_lists.specs.Digests.{ListedDigest}
use Rattle.minisign_lists.specs.declared.digests.ListedDigest.TheVariants as listed
use Rattle.minisign_lists.specs.Faults.{ListFault, ListedTwice, MalformedLine, NotListed}
use Rattle.minisign_lists.specs.Lines.{Entry, LongDigest, label}
use Rattle.minisign_lists.specs.declared.lines.LongDigest.TheVariants as long
use Rattle.minisign_lists.specs.Lists.{has_name, listed_entry, read_list}
use Rattle.minisign_lists.specs.Names.{without_dot}
use Rattle.minisign_lists.specs.Values.{algorithm_of, go_on, of_lists, utf8_text}

-- The bytes of a digest.
abbrev pub bytes_of : ListedDigest → List ℕ
bytes_of (listed.Sha256 digest) = digest
bytes_of (listed.Sha512 digest) = digest
bytes_of (listed.Blake2b digest) = digest

-- The end of the line of an entry, after its name. Digits have lower case.
abbrev pub line_end : ListedDigest → List ℕ
line_end digest = codes ") = " ++ (encode_lower (bytes_of digest) ++ 10 ∷ [])

-- The line of an entry, such as "SHA256 (NAME) = HEX", with its line feed.
abbrev pub written_line : ListedDigest → List ℕ → List ℕ
written_line digest name = label (algorithm_of digest) ++ (name ++ line_end digest)

-- The list is empty or ends with a line feed.
abbrev pub is_ended : List ℕ → Bool
is_ended list = (length list == 0) || (slice_index list (length list - 1) == 10)

-- Checks that the name is free, so that an entry for it can be appended: looking it up had the result that it
-- is not in the list, and the list is empty or ends with a line feed.
abbrev pub free_name : Result Entry ListFault → List ℕ → Result ⊤ ListFault
free_name (Ok e) list = Err (ListedTwice e.line)
free_name (Err NotListed) list = if is_ended list then Ok tt else Err (MalformedLine 0)
free_name (Err e) list = Err e

-- The checks before appending an entry for this name to the list, which is the first len bytes of a buffer.
-- Whether the entry's line fits into the rest of the buffer is checked later, by `appended_line`.
abbrev pub append_check : List ℕ → ℕ → List ℕ → Result ⊤ (Refusal ListFault)
append_check buffer len name =
    if nat_le len (length buffer)
    then go_on (utf8_text (take len buffer)) (λ list.
    go_on (utf8_text name) (λ n.
    of_lists (free_name (listed_entry long.Rejected list n) list)))
    else Err (WrongUse NoRoom)

-- The length of the list after a line was appended, and the buffer. An error leaves it unchanged.
abbrev pub appended_line : Result ⊤ (Refusal ListFault) → List ℕ → ℕ → List ℕ
    → Result ℕ (Refusal ListFault) × List ℕ
appended_line (Ok t) buffer len line =
    if nat_le (len + length line) (length buffer)
    then (Ok (len + length line), take len buffer ++ (line ++ drop (len + length line) buffer))
    else (Err (WrongUse NoRoom), buffer)
appended_line (Err r) buffer len line = (Err r, buffer)

-- The outcome of appending an entry: the new length or the error of the first check that fails,
-- and the buffer. The name is written without a leading `./`.
abbrev pub appended : List ℕ → ℕ → ListedDigest → List ℕ → Result ℕ (Refusal ListFault) × List ℕ
appended buffer len digest name =
    appended_line (append_check buffer len name) buffer len (written_line digest (without_dot name))

-- The entry on line n that was written for this digest and this name.
abbrev pub written_entry : ℕ → ListedDigest → List ℕ → Entry
written_entry n digest name = record {
  line = n;
  digest = digest;
  name = name;
  start = length (label (algorithm_of digest));
  escaped = false;
}

-- The number of bytes of a digest.
abbrev pub digest_size : ListedDigest → ℕ
digest_size (listed.Sha256 digest) = 32
digest_size (listed.Sha512 digest) = 64
digest_size (listed.Blake2b digest) = 64

-- The longer list parses to the entries of the list and one more, with this digest and this name. No other
-- entry has the name, so looking it up finds the new entry. `l` is the hash function that the caller chooses
-- for digests of 128 hexadecimal digits on lines that do not name one. The choice does not matter here: the
-- list has no such lines, and the new line names its hash function.
pub record IsReadBack (l : LongDigest) (list longer : List ℕ) (digest : ListedDigest) (name : List ℕ) : Type 0
  where
    pub before : List Entry
    pub list_read : read_list long.Rejected list ≡ Ok before
    pub free : filter (has_name (without_dot name)) before ≡ []
    pub longer_read : read_list l longer
        ≡ Ok (before ++ written_entry (1 + length (lines list)) digest (without_dot name) ∷ [])
    pub found : listed_entry l longer name
        ≡ Ok (written_entry (1 + length (lines list)) digest (without_dot name))
