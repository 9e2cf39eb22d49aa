-- The results of the calls for lists as numbers, and the structs after them. Copied from minisign_c by
-- tools/page_contracts.py.
use Rattle.minisign_external.specs.Numbers.{IsMeaning}
use Rattle.std.specs.Prelude.{◌≡◌, ⊤, ◌==◌, ◌&&◌, ℕ, false, List, Option, Some, None, Result, Ok, Err}
use Rattle.std.specs.Prelude.{MatchOption}
use Rattle.std.specs.Prelude.{if◌then◌else◌}
use Rattle.minisign.specs.Acceptance.{Verifier}
use Rattle.minisign.specs.SignatureText.{SignatureTextRecord}
use Rattle.minisign_external.specs.Numbers.{IsAnswer, answer_yes, is_answer}
use Rattle.minisign_external.specs.Numbers.{misuse_number, refusal_number}
use Rattle.minisign_external.specs.Questions.{Answers, read_under}
use Rattle.minisign_external.specs.States.{AreQuestions, check_buffer_if_read, with_public_key}
use Rattle.minisign_external.specs.declared.state.Questions.{Questions}
use Rattle.minisign_hash.specs.Blake2b.{blake2b_digest}
use Rattle.minisign_external.specs.StrictCalls.{asked_number, asked_strictly, is_strict_text}
use Rattle.minisign_external.specs.declared.public_keys.PublicKeyValue.{PublicKeyValue}
use Rattle.minisign_external.specs.declared.state.Misuse.TheVariants.{BadAnswer, BadHash}
use Rattle.minisign_external.specs.declared.state.Refusal.{Refusal}
use Rattle.minisign_external.specs.declared.state.Refusal.TheVariants.{Refused, WrongUse}
use Rattle.minisign_lists.specs.declared.faults.ListFault.{ListFault}
use Rattle.minisign_lists.specs.declared.lines.LongDigest.{LongDigest}
use Rattle.minisign_lists.specs.Faults.{list_fault_numbered, list_number, list_row, line_of_fault}
use Rattle.minisign_lists.specs.Values.{HasAskedList, all_entries, found_entry, entries_outcome}
use Rattle.minisign_lists.specs.Values.{entry_outcome}
use Rattle.minisign_lists.specs.Values.{list_verdict_outcome}
use Rattle.minisign_lists.specs.declared.values.EntryValue.{EntryValue}
use Rattle.minisign_lists.specs.declared.values.ListValue.{ListValue}

-- The text is that of the list error with this number, or else of any other error with this number. The page
-- has no installation errors, so their numbers have no meaning.
abbrev pub IsListMeaning : ℕ → List ℕ → Type 0
IsListMeaning n text =
    MatchOption (list_fault_numbered n) (IsMeaning n text) (λ e. text ≡ (list_row e).summary)

-- The error number of a failed call.
abbrev pub list_refusal : Refusal ListFault → ℕ
list_refusal r = refusal_number list_number r

-- The number of the line at fault, or 0 if no line is at fault.
abbrev pub line_at_fault : Refusal ListFault → ℕ
line_at_fault (WrongUse m) = 0
line_at_fault (Refused e) = line_of_fault e

-- The number of a result: 0 for success, otherwise the error number.
abbrev pub list_result : Result ⊤ (Refusal ListFault) → ℕ
list_result (Ok t) = 0
list_result (Err r) = list_refusal r

-- == The verdict on a list ==

-- The result, as a number, of asking a list about a key and a signature file that parses to t. The errors
-- are, in this order: the public key was not read; those of parsing the file and checking it under the key;
-- the buffer is too short; the key or a signature is weak.
abbrev pub asking_list_number : PublicKeyValue → List ℕ → SignatureTextRecord → ℕ → ℕ
asking_list_number v sig_text t room =
    asked_number (asked_strictly (is_strict_text v t)
    (with_public_key v (check_buffer_if_read (read_under v false sig_text) room)))

-- q holds the questions for the key and the parsed signature file, with the digest of the list. The caller's
-- buffer begins with the message of the second check.
abbrev pub AreListQuestions : Questions → List ℕ → PublicKeyValue → SignatureTextRecord → List ℕ → Type 0
AreListQuestions q bytes v t text = AreQuestions q bytes v t × (q.digest ≡ blake2b_digest 64 text)

-- The list was asked about this key, this signature file, the name of the list (if one is given) and the text
-- of the list. `first` and `second` are the numbers for the results of the two Ed25519 checks.
pub record IsAnsweredList (l : ListValue) (accepts : Verifier) (v : PublicKeyValue) (sig_text : List ℕ)
    (name : Option (List ℕ)) (text : List ℕ)
    (first second : ℕ) : Type 0 where
  pub asked : HasAskedList l v sig_text name text
  pub first_known : IsAnswer first
  pub second_known : IsAnswer second
  pub answers : Answers accepts v sig_text text (first == answer_yes) (second == answer_yes)

-- The number of a verdict on a list: 0 for success, otherwise the error number.
abbrev pub list_verdict_number : Result (List ℕ) ListFault → ℕ
list_verdict_number (Ok trusted) = 0
list_verdict_number (Err e) = list_number e

-- Replaces the result of a call by its number.
abbrev pub numbered_list : Result ⊤ (Refusal ListFault) × ListValue → ℕ × ListValue
numbered_list p = (list_result p.0, p.1)

-- The number of the verdict on a list, and the list after it. If a result is neither the number for yes nor
-- the number for no, the error is API misuse, and the list is unchanged.
abbrev pub list_outcome_number : ListValue → ℕ → ℕ → ℕ × ListValue
list_outcome_number l first second =
    if is_answer first && is_answer second
    then numbered_list (list_verdict_outcome l (first == answer_yes) (second == answer_yes))
    else (misuse_number BadAnswer, l)

-- == Entries ==

-- The result of finding an entry as a number, the entry after the call, and the line at fault.
abbrev pub found_number : Result ⊤ (Refusal ListFault) → EntryValue → ℕ × (EntryValue × ℕ)
found_number (Ok t) entry = (0, (entry, 0))
found_number (Err r) entry = (list_refusal r, (entry, line_at_fault r))

-- The same for the result and the entry as a pair.
abbrev pub entry_outcome_number : Result ⊤ (Refusal ListFault) × EntryValue → ℕ × (EntryValue × ℕ)
entry_outcome_number p = found_number p.0 p.1

-- The outcome of finding an entry. The number with which the caller chooses the hash function of digests of
-- 128 digits is checked first.
abbrev pub finding_number : Option LongDigest → ListValue → List ℕ → List ℕ → EntryValue
    → ℕ × (EntryValue × ℕ)
finding_number None l text name old = (misuse_number BadHash, (old, 0))
finding_number (Some long) l text name old =
    entry_outcome_number (entry_outcome (found_entry l text long name) text old)

-- The result of getting all entries as a number, the buffer and the number of entries after the call, and the
-- line at fault.
abbrev pub entries_number : Result ℕ (Refusal ListFault) → List EntryValue → ℕ
    → ℕ × (List EntryValue × (ℕ × ℕ))
entries_number (Ok n) to count = (0, (to, (n, 0)))
entries_number (Err r) to count = (list_refusal r, (to, (count, line_at_fault r)))

-- The same for the result and the buffer as a pair.
abbrev pub entries_outcome_number : Result ℕ (Refusal ListFault) × List EntryValue → ℕ
    → ℕ × (List EntryValue × (ℕ × ℕ))
entries_outcome_number p count = entries_number p.0 p.1 count

-- The outcome of getting all entries. The number with which the caller chooses the hash function of digests
-- of 128 digits is checked first.
abbrev pub all_entries_number : Option LongDigest → ListValue → List ℕ → List EntryValue → ℕ
    → ℕ × (List EntryValue × (ℕ × ℕ))
all_entries_number None l text old count = (misuse_number BadHash, (old, (count, 0)))
all_entries_number (Some long) l text old count =
    entries_outcome_number (entries_outcome (all_entries l text long) text old) count
