-- Looking up the file to install in a signed list of files, with the definitions of minisign_lists.
use Rattle.std.specs.Prelude.{ℕ, Bool, true, false, ◌&&◌, if◌then◌else◌, List, replicate, is_some}
use Rattle.std.specs.Prelude.{Option, Some, None, Result, Ok, Err}
use Rattle.std.specs.Str.{is_utf8}
use Rattle.minisign_hash.specs.Blake2b.{blake2b_digest}
use Rattle.minisign_install.specs.Faults.{BadName, InstallFault, Library, ListedTwice, MalformedLine, Named}
use Rattle.minisign_install.specs.Faults.{NotListed, NotUtf8}
use Rattle.minisign_lists.specs.Digests.{has_digest}
use Rattle.minisign_lists.specs.declared.digests.ListedDigest.{ListedDigest}
use Rattle.minisign_lists.specs.Faults.{line_of_fault}
use Rattle.minisign_lists.specs.declared.faults.ListFault.{ListFault}
use Rattle.minisign_lists.specs.Lines.{Entry}
use Rattle.minisign_lists.specs.declared.lines.LongDigest.{LongDigest}
use Rattle.minisign_lists.specs.Lists.{listed_entry}
use Rattle.minisign_lists.specs.declared.faults.ListFault.TheVariants as lists

-- The entry for the name in the list, or the error of the first check that fails. The first check is that the
-- list and the name are UTF-8.
abbrev pub entry_in : LongDigest → List ℕ → List ℕ → Result Entry ListFault
entry_in long list name =
    if is_utf8 list && is_utf8 name then listed_entry long list name else Err (lists.Library (Named NotUtf8))

-- The error with which a run is rejected if looking up the name fails with this error. Looking up a name has
-- no other errors than these five.
abbrev pub list_fault : ListFault → InstallFault
list_fault (lists.Library fault) = Library (Named NotUtf8)
list_fault lists.BadName = BadName
list_fault (lists.MalformedLine line) = MalformedLine
list_fault (lists.ListedTwice line) = ListedTwice
list_fault fault = NotListed

-- The digest that the data must have, or the error with which the run is rejected.
abbrev pub digest_found : Result Entry ListFault → Result ListedDigest InstallFault
digest_found (Ok entry) = Ok entry.digest
digest_found (Err fault) = Err (list_fault fault)

-- The number of the line that is malformed or lists the name again, or 0.
abbrev pub line_found : Result Entry ListFault → ℕ
line_found (Ok entry) = 0
line_found (Err fault) = line_of_fault fault

-- The digest of a list, and the result of looking up a name in it. `listed` is the digest that the data must
-- have, or the error with which the run is rejected. `line` is the number of the line that caused the error,
-- or 0.
pub record Listing : Type 0 where
  pub digest : List ℕ
  pub listed : Result ListedDigest InstallFault
  pub line : ℕ

-- Looks up a name in a list.
abbrev pub judge_list : LongDigest → List ℕ → List ℕ → Listing
judge_list long list name = record {
  digest = blake2b_digest 64 list;
  listed = digest_found (entry_in long list name);
  line = line_found (entry_in long list name);
}

-- The listing before the list is read.
abbrev pub nothing_listed : Listing
nothing_listed = record { digest = replicate 64 0; listed = Err NotListed; line = 0 }

-- The data has the listed digest.
abbrev pub has_listed : Result ListedDigest InstallFault → List ℕ → Bool
has_listed (Ok digest) m = has_digest digest m
has_listed (Err fault) m = false

-- The data has the listed digest, or there is no list.
abbrev pub fits_listed : Option LongDigest → Result ListedDigest InstallFault → List ℕ → Bool
fits_listed None listed m = true
fits_listed (Some long) listed m = has_listed listed m

-- The data has the digest of the only entry of the name in the list, or there is no list.
abbrev pub fits_list : Option LongDigest → List ℕ → List ℕ → List ℕ → Bool
fits_list None list name m = true
fits_list (Some long) list name m = has_listed (digest_found (entry_in long list name)) m

-- The digest for which the signature must be valid: that of the list, or without a list that of the data.
abbrev pub digest_to_sign : Option LongDigest → List ℕ → List ℕ → List ℕ
digest_to_sign long list m = blake2b_digest 64 (if is_some long then list else m)
