-- Definitions for contracts of calls that take data in pieces or read a list entry by entry.
use Rattle.std.specs.Prelude.{◌≡◌, ◌==◌, ⊤, ℕ, Bool, ◌+◌, ◌-◌, ◌≤◌, ◌^◌, false, List, length, filter}
use Rattle.std.specs.Prelude.{Result, Ok, Err, if◌then◌else◌}
use Rattle.std.specs.Str.Lines.{lines}
use Rattle.minisign_sha2.specs.Hashers.{IsFed256, IsFed512}
use Rattle.minisign_hash.specs.Fed.{IsFed, has_finalized, output_length}
use Rattle.minisign_lists.specs.Digests.{ListedDigest, has_digest}
use Rattle.minisign_lists.specs.declared.digests.ListedDigest.TheVariants as listed
use Rattle.minisign_lists.specs.Faults.{ListFault, DigestMismatch, map_ok}
use Rattle.minisign_lists.specs.Lines.{Entry}
use Rattle.minisign_lists.specs.Lists.{has_name, read_entries}
use Rattle.minisign_lists.specs.declared.digests.FileCheck.{FileCheck}
use Rattle.minisign_lists.specs.declared.digests.FileCheck.TheVariants as check
use Rattle.minisign_lists.specs.declared.entries.Entries.{Entries}
use Rattle.minisign_lists.specs.declared.verifying.ListedFile.{ListedFile}

-- The check is one against this digest, and was fed this data. Callers use this definition and the
-- next one without unfolding them.
unfoldable pub IsFedCheck : FileCheck → ListedDigest → List ℕ → Type 0
IsFedCheck (check.Sha256 hasher digest) d m = (d ≡ listed.Sha256 digest) × IsFed256 hasher m
IsFedCheck (check.Sha512 hasher digest) d m = (d ≡ listed.Sha512 digest) × IsFed512 hasher m
IsFedCheck (check.Blake2b hasher digest) d m = (d ≡ listed.Blake2b digest) × IsFed hasher m

-- The check accepts more data.
unfoldable pub IsUsable : FileCheck → Type 0
IsUsable (check.Sha256 hasher digest) = ⊤
IsUsable (check.Sha512 hasher digest) = ⊤
IsUsable (check.Blake2b hasher digest) = (output_length hasher ≡ 64) × (has_finalized hasher ≡ false)

-- The file accepts more data.
abbrev pub IsOpen : ListedFile → Type 0
IsOpen file = IsUsable file.check

-- The file was fed this data, and this function gives its verdict on any data.
unfoldable pub IsFedFile : ListedFile → (List ℕ → Result (List ℕ) ListFault) → List ℕ → Type 0
IsFedFile file verdict m =
    (digest : ListedDigest) × IsFedCheck file.check digest m
    × ((m : List ℕ) → verdict m ≡ (if has_digest digest m then Ok file.comment.now else Err DigestMismatch))

-- A line feed.
abbrev pub is_feed : ℕ → Bool
is_feed b = b == 10

-- The entries that were not read yet, or the error of the first malformed line among the unread
-- ones.
abbrev pub unread_entries : Entries → Result (List Entry) ListFault
unread_entries s = read_entries s.long (s.line + 1) (lines s.rest.now)

-- The number of bytes of the list that were not read yet.
abbrev pub unread_len : Entries → ℕ
unread_len s = length s.rest.now

-- The numbers of the unread lines fit into 64 bits.
abbrev pub IsNumbered : Entries → Type 0
IsNumbered s = s.line + unread_len s ≤ 2 ^ 64 - 1

-- The unread entries with this name, or the error of the first malformed unread line.
abbrev pub unread_entries_named : List ℕ → Entries → Result (List Entry) ListFault
unread_entries_named name s = map_ok (filter (has_name name)) (unread_entries s)
