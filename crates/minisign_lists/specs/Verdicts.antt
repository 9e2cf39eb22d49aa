-- The verdict on data under its name in a signed list.
use Rattle.std.specs.Prelude.{⊤, ℕ, false, List, Option, Some, None, Result, Ok, Err, if◌then◌else◌}
use Rattle.minisign.specs.Acceptance.{Verifier}
use Rattle.minisign.specs.Headline.{verdict}
use Rattle.minisign_lists.specs.Comments.{names_list}
use Rattle.minisign_lists.specs.Digests.{ListedDigest, has_digest}
use Rattle.minisign_lists.specs.Faults.{ListFault, OtherList, DigestMismatch, and_then, wrap_library_error}
use Rattle.minisign_lists.specs.Lines.{LongDigest}
use Rattle.minisign_lists.specs.Lists.{listed_entry}

-- Succeeds if no name of the list is given or the first "file:" field of the trusted comment has
-- this name.
abbrev pub check_list_name : Option (List ℕ) → List ℕ → Result ⊤ ListFault
check_list_name None comment = Ok tt
check_list_name (Some list_name) comment = if names_list list_name comment then Ok tt else Err OtherList

-- Succeeds if the data has the digest.
abbrev pub check_digest : ListedDigest → List ℕ → Result ⊤ ListFault
check_digest digest m = if has_digest digest m then Ok tt else Err DigestMismatch

-- The verdict on data under its name in a signed list. The checks are, in this order: `pk_text` is a public
-- key file, and `sig_text` is a signature file that is valid for the list under this key; the trusted comment
-- names the list, if `list_name` is given; the list has exactly one entry for the name; and the data has the
-- digest of this entry. If all checks pass, the result is the trusted comment, otherwise the error of the
-- first check that fails. A legacy signature is always rejected. `long` is the hash function of digests with
-- 128 hexadecimal digits on lines of the list that do not name one.
unfoldable pub listed_verdict : Verifier → List ℕ → List ℕ → Option (List ℕ) → LongDigest → List ℕ → List ℕ
    → List ℕ → Result (List ℕ) ListFault
listed_verdict accepts pk_text sig_text list_name long list name m =
    and_then (wrap_library_error (verdict accepts pk_text sig_text list false)) (λ comment.
    and_then (check_list_name list_name comment) (λ _.
    and_then (listed_entry long list name) (λ entry.
    and_then (check_digest entry.digest m) (λ _. Ok comment))))
