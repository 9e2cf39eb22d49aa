-- The result of making the calls for lists one after another, for a public key, a signature file, a list, a
-- name and data.
use Rattle.std.specs.Prelude.{◌≡◌, ℕ, true, false, List, [], Option, Some, None, Result, Ok, Err}
use Rattle.std.specs.Str.{is_utf8}
use Rattle.minisign.specs.Acceptance.{Verifier}
use Rattle.minisign.specs.Records.{PublicKeyRecord}
use Rattle.minisign_base.specs.Fault.{Fault}
use Rattle.minisign_external.specs.PublicKeys.{value_of}
use Rattle.minisign_external.specs.Questions.{read_under}
use Rattle.minisign_external.specs.StrictCalls.{strict, strict_read}
use Rattle.minisign_external.specs.declared.public_keys.PublicKeyValue.{PublicKeyValue}
use Rattle.minisign_external.specs.declared.state.Misuse.TheVariants.{BadHash}
use Rattle.minisign_external.specs.declared.state.Refusal.{Refusal}
use Rattle.minisign_external.specs.declared.state.Refusal.TheVariants.{WrongUse}
use Rattle.minisign_lists.specs.declared.faults.ListFault.{ListFault}
use Rattle.minisign_lists.specs.declared.lines.LongDigest.{LongDigest}
use Rattle.minisign_lists.specs.Faults.{wrap_library_error}
use Rattle.minisign_lists.specs.Lines.{Entry}
use Rattle.minisign_lists.specs.Lists.{listed_entry}
use Rattle.minisign_lists.specs.Values.{go_on, list_verdict_under, long_numbered, of_lists, utf8_text}
use Rattle.minisign_lists.specs.Verdicts.{check_digest}
use Rattle.minisign_c.specs.ListCalls.{list_refusal}

-- The lookup of a file in a signed list: the name of the list, its text, the hash function of 128 digits on a
-- line that does not name it, and the name of the file.
pub record Lookup : Type 0 where
  pub list_name : List ℕ
  pub text : List ℕ
  pub long : Option LongDigest
  pub name : List ℕ

-- The lookup with the number with which the caller chooses this hash function.
abbrev pub lookup_of : List ℕ → List ℕ → ℕ → List ℕ → Lookup
lookup_of list_name text long_digest name =
    record { list_name = list_name; text = text; long = long_numbered long_digest; name = name }

-- The public key file, the signature file, the list and the name are UTF-8.
pub record AreUtf8 (pk_text sig_text list name : List ℕ) : Type 0 where
  pub key : is_utf8 pk_text ≡ true
  pub signature : is_utf8 sig_text ≡ true
  pub text : is_utf8 list ≡ true
  pub file_name : is_utf8 name ≡ true

-- The hash function of 128 digits, or BadHash if the caller passed an unknown number.
abbrev pub meaning_of : Option LongDigest → Result LongDigest (Refusal ListFault)
meaning_of None = Err (WrongUse BadHash)
meaning_of (Some long) = Ok long

-- The only entry of the name in the list, or the error of the first check that fails.
abbrev pub looked_up : Lookup → Result Entry (Refusal ListFault)
looked_up x =
    go_on (meaning_of x.long) (λ long.
    go_on (utf8_text x.text) (λ list.
    go_on (utf8_text x.name) (λ name.
    of_lists (listed_entry long list name))))

-- The verdict on data under its name in a signed list: the trusted comment of the list, if its signature is
-- valid, the comment names the list, exactly one entry has the name, and the data has its digest. If not, it
-- is the first of these checks that fails.
abbrev pub listed_under : Verifier → PublicKeyValue → List ℕ → Lookup → List ℕ
    → Result (List ℕ) (Refusal ListFault)
listed_under accepts v sig_text x m =
    go_on (of_lists (list_verdict_under accepts v sig_text (Some x.list_name) x.text)) (λ comment.
    go_on (looked_up x) (λ entry.
    go_on (of_lists (check_digest entry.digest m)) (λ _. Ok comment)))

-- `listed_under` for the result of parsing the public key file, whose error comes first.
abbrev pub listed_with : Verifier → Result PublicKeyRecord Fault → List ℕ → Lookup → List ℕ
    → Result (List ℕ) (Refusal ListFault)
listed_with accepts key sig_text x m =
    go_on (of_lists (wrap_library_error key)) (λ k. listed_under accepts (value_of k) sig_text x m)

-- The number of a verdict: 0 for success, otherwise the error number.
abbrev pub listed_number : Result (List ℕ) (Refusal ListFault) → ℕ
listed_number (Ok comment) = 0
listed_number (Err r) = list_refusal r

-- The number of the verdict of the scheme that also rejects weak public keys and signatures. A weak key or
-- signature has an error number of its own.
abbrev pub strict_listed_number : Verifier → PublicKeyValue → List ℕ → Lookup → List ℕ → ℕ
strict_listed_number accepts v sig_text x m =
    strict_read v (read_under v false sig_text) (listed_number (listed_under (strict accepts) v sig_text x m))

-- The result of checking data against its entry in a verified list as a number: 0, or the number of the error
-- of finding the entry or of comparing the digest.
abbrev pub data_number : Result Entry (Refusal ListFault) → List ℕ → ℕ
data_number (Ok entry) m = listed_number (go_on (of_lists (check_digest entry.digest m)) (λ _. Ok []))
data_number (Err r) m = list_refusal r
