-- The forms of the lines of a list.
use Rattle.std.specs.Prelude.{ℕ, ◌+◌, ◌-◌, ◌==◌, ◌||◌, ◌&&◌, Bool, true, false, List, [], ◌∷◌, length}
use Rattle.std.specs.Prelude.{take, drop}
use Rattle.std.specs.Prelude.{Option, Some, None, option_map, Result, Ok, Err, bytes_eq, codes}
use Rattle.std.specs.Prelude.{if◌then◌else◌, nat_le}
use Rattle.std.specs.List.{list_any}
use Rattle.std.specs.Option.{option_or}
use Rattle.minisign_lists.specs.Digests.{Algorithm, ListedDigest, digest_of_digits}
use Rattle.minisign_lists.specs.declared.digests.Algorithm.TheVariants as algorithm
use Rattle.minisign_lists.specs.Faults.{ListFault, MalformedLine}
use Rattle.minisign_lists.specs.Names.{is_backslash, is_control, is_path, without_dot}
pub use Rattle.minisign_lists.specs.declared.lines.LongDigest.{LongDigest}
use Rattle.minisign_lists.specs.declared.lines.LongDigest.TheVariants as long

-- The digest and the name on a line, as they are written. start is the number of bytes before the
-- name.
pub record NamedDigest : Type 0 where
  pub digest : ListedDigest
  pub name : List ℕ
  pub start : ℕ

-- An entry of a list: the number of its line, the digest, the name without a leading ./, the number
-- of bytes of the line before that name, and whether the name contains escapes.
pub record Entry : Type 0 where
  pub line : ℕ
  pub digest : ListedDigest
  pub name : List ℕ
  pub start : ℕ
  pub escaped : Bool

-- == The forms ==

-- The number of hexadecimal digits of a digest.
abbrev pub digit_count : Algorithm → ℕ
digit_count algorithm.Sha256 = 64
digit_count algorithm.Sha512 = 128
digit_count algorithm.Blake2b = 128

-- The beginning of a line that names this hash function.
abbrev pub label : Algorithm → List ℕ
label algorithm.Sha256 = codes "SHA256 ("
label algorithm.Sha512 = codes "SHA512 ("
label algorithm.Blake2b = codes "BLAKE2b ("

-- The digest and the name, if the digits encode a digest.
abbrev pub named : Algorithm → List ℕ → List ℕ → ℕ → Option NamedDigest
named algorithm digits name start =
    option_map (λ d. record { digest = d; name = name; start = start }) (digest_of_digits algorithm digits)

-- HEX  NAME or HEX *NAME, the form of sha256sum.
abbrev pub plain_form : Algorithm → List ℕ → Option NamedDigest
plain_form algorithm line =
    let size = digit_count algorithm in
    let between = take 2 (drop size line) in
    if nat_le (size + 2) (length line) && (bytes_eq between (codes "  ") || bytes_eq between (codes " *"))
    then named algorithm (take size line) (drop 2 (drop size line)) (size + 2)
    else None

-- SHA256 (NAME) = HEX, the form of the BSD tools. The end of the name is found from the end of the
-- line, so that the name may contain ") = " itself.
abbrev pub tagged_form : Algorithm → List ℕ → Option NamedDigest
tagged_form algorithm line =
    let begin = length (label algorithm) in
    let rest = drop begin line in
    let size = length rest - (digit_count algorithm + 4) in
    let end = drop size rest in
    if nat_le (begin + 4 + digit_count algorithm) (length line)
    && (bytes_eq (take begin line) (label algorithm) && bytes_eq (take 4 end) (codes ") = "))
    then named algorithm (drop 4 end) (take size rest) begin
    else None

-- 128 digits and a name on a line that does not name its hash function.
abbrev pub long_form : LongDigest → List ℕ → Option NamedDigest
long_form long.Rejected line = None
long_form long.Sha512 line = plain_form algorithm.Sha512 line
long_form long.Blake2b line = plain_form algorithm.Blake2b line

-- The first of these forms that the line has.
abbrev pub written_in : LongDigest → List ℕ → Option NamedDigest
written_in long line =
    option_or (tagged_form algorithm.Sha256 line)
    (option_or (tagged_form algorithm.Sha512 line)
    (option_or (tagged_form algorithm.Blake2b line)
    (option_or (plain_form algorithm.Sha256 line)
    (long_form long line))))

-- == Lines ==

-- The number of bytes of a leading ./ in a name.
abbrev pub dot_size : List ℕ → ℕ
dot_size name = length name - length (without_dot name)

-- The entry of line n, if its name is a relative path. before is 1 if the line begins with a
-- backslash, and otherwise 0.
abbrev pub entry_of : ℕ → Bool → ℕ → Option NamedDigest → Result (Option Entry) ListFault
entry_of n escaped before None = Err (MalformedLine n)
entry_of n escaped before (Some w) =
    if is_path (without_dot w.name)
    then Ok (Some (record {
      line = n;
      digest = w.digest;
      name = without_dot w.name;
      start = before + w.start + dot_size w.name;
      escaped = escaped;
    }))
    else Err (MalformedLine n)

-- The entry, only if its name contains a backslash.
abbrev pub if_escaped : Option NamedDigest → Option NamedDigest
if_escaped None = None
if_escaped (Some w) = if list_any is_backslash w.name then Some w else None

-- The line is empty or begins with #.
abbrev pub is_comment : List ℕ → Bool
is_comment [] = true
is_comment (b ∷ rest) = b == 35

-- The line begins with a backslash.
abbrev pub begins_with_backslash : List ℕ → Bool
begins_with_backslash [] = false
begins_with_backslash (b ∷ rest) = b == 92

-- The entry of line n, or nothing if the line is empty or a comment. A backslash at the beginning
-- means that the name contains escapes, which begin with backslashes. A line with a control
-- character is malformed, and so is any other line that is not an entry.
abbrev pub read_line : LongDigest → ℕ → List ℕ → Result (Option Entry) ListFault
read_line long n line =
    if list_any is_control line then Err (MalformedLine n)
    else if is_comment line then Ok None
    else if begins_with_backslash line then entry_of n true 1 (if_escaped (written_in long (drop 1 line)))
    else entry_of n false 0 (written_in long line)
