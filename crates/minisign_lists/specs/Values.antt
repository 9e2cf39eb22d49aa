-- The structs that a program in another language holds, and the effect of each call on them. To ask a list
-- about a key and a signature means to get the two signatures that the caller's scheme must check
-- (`ListValue::ask`).
use Rattle.std.specs.Prelude.{◌≡◌, ⊤, ◌==◌, ◌&&◌, ℕ, Bool, false, List, ◌++◌, length}
use Rattle.std.specs.Prelude.{replicate}
use Rattle.std.specs.Prelude.{Option, Some, None, Result, Ok, Err, bytes_eq, if◌then◌else◌, take, drop}
use Rattle.std.specs.Prelude.{◌+◌, ◌%◌, ◌^◌, nat_le, nat_lt, map, slice_set}
use Rattle.std.specs.Str.{is_utf8}
use Rattle.minisign_base.specs.Fault.{Named}
use Rattle.minisign_base.specs.declared.faults.NamedFault.TheVariants.{NotUtf8}
use Rattle.minisign_hash.specs.Blake2b.{blake2b_digest}
use Rattle.minisign_hash.specs.Stored.{WasFed}
use Rattle.minisign_sha2.specs.Hashers.{WasFed256, WasFed512}
use Rattle.minisign.specs.Acceptance.{Verifier, judge_answers}
use Rattle.minisign.specs.SignatureText.{SignatureTextRecord}
use Rattle.minisign_external.specs.Questions.{read_under, verdict_under}
use Rattle.minisign_external.specs.Signatures.{IsReadFrom}
use Rattle.minisign_external.specs.declared.public_keys.PublicKeyValue.{PublicKeyValue}
use Rattle.minisign_external.specs.declared.signatures.SignatureValue.{SignatureValue}
use Rattle.minisign_external.specs.declared.state.Misuse.{Misuse}
use Rattle.minisign_external.specs.declared.state.Misuse.TheVariants.{NotAsked, NotBegun, NoRoom}
use Rattle.minisign_external.specs.declared.state.Misuse.TheVariants.{ListNotVerified, OtherListText}
use Rattle.minisign_external.specs.declared.state.Misuse.TheVariants.{BadHash, EntryNotRead}
use Rattle.minisign_external.specs.declared.state.Refusal.{Refusal}
use Rattle.minisign_external.specs.declared.state.Refusal.TheVariants.{WrongUse, Refused}
use Rattle.minisign_lists.specs.Comments.{names_list}
use Rattle.minisign_lists.specs.Digests.{Algorithm, ListedDigest}
use Rattle.minisign_lists.specs.declared.digests.Algorithm.TheVariants as algorithm
use Rattle.minisign_lists.specs.declared.digests.ListedDigest.TheVariants as listed
use Rattle.minisign_lists.specs.Faults.{ListFault, Library, OtherList, DigestMismatch, and_then}
use Rattle.minisign_lists.specs.Faults.{wrap_library_error}
use Rattle.minisign_lists.specs.Lines.{Entry, LongDigest}
use Rattle.minisign_lists.specs.Lists.{listed_entry, read_list}
use Rattle.minisign_lists.specs.Numbers.{hash_number}
use Rattle.minisign_lists.specs.Positions.{line_start}
use Rattle.minisign_lists.specs.Verdicts.{check_list_name}
use Rattle.minisign_lists.specs.declared.lines.LongDigest.TheVariants as long
use Rattle.minisign_lists.specs.declared.values.ListValue.{ListValue}
use Rattle.minisign_lists.specs.declared.values.EntryValue.{EntryValue}
use Rattle.minisign_lists.specs.declared.values.FileValue.{FileValue}

-- The marks (magic numbers): "minilask", "minilist", "minientr" and "minifile".
abbrev pub asked_list_mark : ℕ
asked_list_mark = 7742639302633220461

abbrev pub verified_mark : ℕ
verified_mark = 8391166445067594093

abbrev pub entry_mark : ℕ
entry_mark = 8247338199461816685

abbrev pub file_mark : ℕ
file_mark = 7308332183891896685

-- == The list ==

-- 1 if no name of the list is given or the first "file:" field of the trusted comment has this
-- name, otherwise 0.
abbrev pub named_number : Option (List ℕ) → List ℕ → ℕ
named_number None comment = 1
named_number (Some list_name) comment = if names_list list_name comment then 1 else 0

-- The list after it was asked about this key and this signature, which has this trusted comment.
abbrev pub asked_list : PublicKeyValue → SignatureValue → Option (List ℕ) → List ℕ → List ℕ → ListValue
asked_list v s list_name text comment = record {
  mark = asked_list_mark;
  text_digest = blake2b_digest 64 text;
  key_id = v.key_id;
  whole = s.whole;
  is_named = named_number list_name comment;
}

-- The list was asked about this key, a signature that was read from this file, this name, if one is given,
-- and this text, and the signature passed all checks that need no scheme.
pub record HasAskedList (l : ListValue) (v : PublicKeyValue) (sig_text : List ℕ) (list_name : Option (List ℕ))
    (text : List ℕ) : Type 0 where
  pub signature : SignatureValue
  pub signed : SignatureTextRecord
  pub parsed : IsReadFrom signature sig_text signed
  pub read : read_under v false sig_text ≡ Ok signed
  pub list_value : l ≡ asked_list v signature list_name text signed.comments.trusted

-- The verdict on a list: the trusted comment, if the signature file is a valid prehashed signature of the
-- list under the key, and the comment names the list, if a name is given; otherwise the first of these
-- checks that fails.
abbrev pub list_verdict_under : Verifier → PublicKeyValue → List ℕ → Option (List ℕ) → List ℕ
    → Result (List ℕ) ListFault
list_verdict_under accepts v sig_text list_name text =
    and_then (wrap_library_error (verdict_under accepts v sig_text text false)) (λ comment.
    and_then (check_list_name list_name comment) (λ _. Ok comment))

-- The verdict without the trusted comment, which the caller already has.
abbrev pub given_list : Result (List ℕ) ListFault → Result ⊤ (Refusal ListFault)
given_list (Ok trusted) = Ok tt
given_list (Err e) = Err (Refused e)

-- The verdict on a list from the results of the two checks.
abbrev pub list_judgement : ListValue → Bool → Bool → Result ⊤ ListFault
list_judgement l first second =
    and_then (wrap_library_error (judge_answers first ((l.whole == 1) && second))) (λ _.
    if l.is_named == 1 then Ok tt else Err OtherList)

-- The result of a verdict, and the list after it, which is verified only if the verdict is success.
abbrev pub judged_list : Result ⊤ ListFault → ListValue → Result ⊤ (Refusal ListFault) × ListValue
judged_list (Ok t) l = (Ok tt, record l { mark = verified_mark })
judged_list (Err e) l = (Err (Refused e), record l { mark = 0 })

-- The outcome of the call that returns the verdict. If the list was not asked before, this is API misuse, and
-- the list is unchanged.
abbrev pub list_verdict_outcome : ListValue → Bool → Bool → Result ⊤ (Refusal ListFault) × ListValue
list_verdict_outcome l first second =
    if l.mark == asked_list_mark then judged_list (list_judgement l first second) l
    else (Err (WrongUse NotAsked), l)

-- The error of a text that is not UTF-8.
abbrev pub not_utf8 : Refusal ListFault
not_utf8 = Refused (Library (Named NotUtf8))

-- Applies a function that may fail to the value, or returns the error.
abbrev pub go_on : {V W : Type 0} → Result V (Refusal ListFault) → (V → Result W (Refusal ListFault))
    → Result W (Refusal ListFault)
go_on (Ok v) more = more v
go_on (Err r) more = Err r

-- Applies a function to the value, or returns the error.
abbrev pub mapped : {V W : Type 0} → (V → W) → Result V (Refusal ListFault) → Result W (Refusal ListFault)
mapped f (Ok v) = Ok (f v)
mapped f (Err r) = Err r

-- The result of a check for API misuse as the result of a call.
abbrev pub of_misuse : {V : Type 0} → Result V Misuse → Result V (Refusal ListFault)
of_misuse (Ok v) = Ok v
of_misuse (Err m) = Err (WrongUse m)

-- A result of this crate as the result of a call.
abbrev pub of_lists : {V : Type 0} → Result V ListFault → Result V (Refusal ListFault)
of_lists (Ok v) = Ok v
of_lists (Err e) = Err (Refused e)

-- The list was verified, and this text has its digest. Two texts with the same digest cannot be
-- distinguished.
abbrev pub text_check : ListValue → List ℕ → Result ⊤ Misuse
text_check l text =
    if l.mark == verified_mark
    then if bytes_eq (blake2b_digest 64 text) l.text_digest then Ok tt else Err OtherListText
    else Err ListNotVerified

-- A text that must be UTF-8.
abbrev pub utf8_text : List ℕ → Result (List ℕ) (Refusal ListFault)
utf8_text text = if is_utf8 text then Ok text else Err not_utf8

-- The text of a verified list, or the error of the first check that fails.
abbrev pub verified_text : ListValue → List ℕ → Result (List ℕ) (Refusal ListFault)
verified_text l text = go_on (of_misuse (text_check l text)) (λ _. utf8_text text)

-- The only entry of a name in a verified list, or the error of the first check that fails.
abbrev pub found_entry : ListValue → List ℕ → LongDigest → List ℕ → Result Entry (Refusal ListFault)
found_entry l text long name =
    go_on (verified_text l text) (λ list.
    go_on (utf8_text name) (λ n.
    of_lists (listed_entry long list n)))

-- All entries of a verified list, or the error of the first check that fails.
abbrev pub all_entries : ListValue → List ℕ → LongDigest → Result (List Entry) (Refusal ListFault)
all_entries l text long = go_on (verified_text l text) (λ list. of_lists (read_list long list))

-- == Entries ==

-- The hash function of a digest.
abbrev pub algorithm_of : ListedDigest → Algorithm
algorithm_of (listed.Sha256 digest) = algorithm.Sha256
algorithm_of (listed.Sha512 digest) = algorithm.Sha512
algorithm_of (listed.Blake2b digest) = algorithm.Blake2b

-- The bytes of a digest, followed by zeros if there are fewer than 64.
abbrev pub padded_digest : ListedDigest → List ℕ
padded_digest (listed.Sha256 digest) = digest ++ replicate 32 0
padded_digest (listed.Sha512 digest) = digest
padded_digest (listed.Blake2b digest) = digest

-- The digest of a hash function that begins these 64 bytes.
abbrev pub digest_of_padded : Algorithm → List ℕ → ListedDigest
digest_of_padded algorithm.Sha256 bytes = listed.Sha256 (take 32 bytes)
digest_of_padded algorithm.Sha512 bytes = listed.Sha512 bytes
digest_of_padded algorithm.Blake2b bytes = listed.Blake2b bytes

-- The struct for an entry whose name is at this position of the list.
abbrev pub entry_value : Entry → ℕ → EntryValue
entry_value e offset = record {
  mark = entry_mark;
  line = e.line;
  name_offset = offset;
  name_len = length e.name;
  digest = padded_digest e.digest;
  hash = hash_number (algorithm_of e.digest);
  is_escaped = if e.escaped then 1 else 0;
}

-- The struct for an entry of this list.
abbrev pub value_in : List ℕ → Entry → EntryValue
value_in text e = entry_value e ((line_start e.line text + e.start) % 2 ^ 64)

-- The result of looking up a name, and the struct after it. An error leaves the struct unchanged.
abbrev pub entry_outcome : Result Entry (Refusal ListFault) → List ℕ → EntryValue
    → Result ⊤ (Refusal ListFault) × EntryValue
entry_outcome (Ok e) text old = (Ok tt, value_in text e)
entry_outcome (Err r) text old = (Err r, old)

-- The result of asking for all entries, and the buffer after it. An error leaves the buffer unchanged.
abbrev pub entries_outcome : Result (List Entry) (Refusal ListFault) → List ℕ → List EntryValue
    → Result ℕ (Refusal ListFault) × List EntryValue
entries_outcome (Ok es) text old =
    if nat_le (length es) (length old)
    then (Ok (length es), map (value_in text) es ++ drop (length es) old)
    else (Err (WrongUse NoRoom), old)
entries_outcome (Err r) text old = (Err r, old)

-- The number of entries in the buffer, and the buffer, after a line that begins at this position.
abbrev pub put_entry : Result (Option Entry) ListFault → ℕ → List EntryValue → ℕ → ℕ × List EntryValue
put_entry (Ok (Some e)) start to count =
    if nat_lt count (length to)
    then (count + 1, slice_set to count (entry_value e ((start + e.start) % 2 ^ 64)))
    else (count, to)
put_entry (Ok None) start to count = (count, to)
put_entry (Err f) start to count = (count, to)

-- The hash function with this number.
abbrev pub algorithm_numbered : ℕ → Option Algorithm
algorithm_numbered n =
    if n == 1 then Some algorithm.Sha256
    else if n == 2 then Some algorithm.Sha512
    else if n == 3 then Some algorithm.Blake2b else None

-- The digest of an entry that was read.
abbrev pub digest_numbered : Option Algorithm → List ℕ → Result ListedDigest Misuse
digest_numbered None bytes = Err EntryNotRead
digest_numbered (Some a) bytes = Ok (digest_of_padded a bytes)

-- The digest in the struct of an entry, or EntryNotRead if no entry was read.
abbrev pub entry_digest : EntryValue → Result ListedDigest Misuse
entry_digest v =
    if v.mark == entry_mark then digest_numbered (algorithm_numbered v.hash) v.digest else Err EntryNotRead

-- The hash function of 128 digits with this number, or the rejection of such digits.
abbrev pub long_numbered : ℕ → Option LongDigest
long_numbered n =
    if n == 0 then Some long.Rejected
    else if n == 2 then Some long.Sha512
    else if n == 3 then Some long.Blake2b else None

-- These bytes as a digest, or None if digests of the hash function have another length.
abbrev pub digest_of_bytes : Algorithm → List ℕ → Option ListedDigest
digest_of_bytes algorithm.Sha256 bytes = if length bytes == 32 then Some (listed.Sha256 bytes) else None
digest_of_bytes algorithm.Sha512 bytes = if length bytes == 64 then Some (listed.Sha512 bytes) else None
digest_of_bytes algorithm.Blake2b bytes = if length bytes == 64 then Some (listed.Blake2b bytes) else None

-- These bytes as a digest of the hash function, or None if there is no hash function or its digests have
-- another length.
abbrev pub digest_of_given : Option Algorithm → List ℕ → Option ListedDigest
digest_of_given None bytes = None
digest_of_given (Some a) bytes = digest_of_bytes a bytes

-- These bytes as a digest of the hash function with this number, or None if there is no such hash
-- function or its digests have another length.
abbrev pub given_digest : ℕ → List ℕ → Option ListedDigest
given_digest hash bytes = digest_of_given (algorithm_numbered hash) bytes

-- The result of comparing the digest of an entry with another one.
abbrev pub compared_digest : EntryValue → ListedDigest → Result ⊤ (Refusal ListFault)
compared_digest v given =
    if v.mark == entry_mark
    then if v.hash == hash_number (algorithm_of given)
    then if bytes_eq (padded_digest given) v.digest then Ok tt else Err (Refused DigestMismatch)
    else Err (WrongUse BadHash)
    else Err (WrongUse EntryNotRead)

-- The result of comparing it with a digest that was passed, or BadHash if none was.
abbrev pub compared_given : EntryValue → Option ListedDigest → Result ⊤ (Refusal ListFault)
compared_given v None = Err (WrongUse BadHash)
compared_given v (Some given) = compared_digest v given

-- The result of comparing the digest of an entry with these bytes, as a digest of the hash function with this
-- number.
abbrev pub compared : EntryValue → ℕ → List ℕ → Result ⊤ (Refusal ListFault)
compared v hash bytes = compared_given v (given_digest hash bytes)

-- == Files ==

-- The state is that of a check against this digest, and was fed this data.
unfoldable pub IsFedValue : FileValue → ListedDigest → List ℕ → Type 0
IsFedValue v (listed.Sha256 digest) m =
    (v.mark ≡ file_mark) × (v.hash ≡ 1) × (take 32 v.digest ≡ digest) × WasFed256 v.sha256 m
IsFedValue v (listed.Sha512 digest) m =
    (v.mark ≡ file_mark) × (v.hash ≡ 2) × (v.digest ≡ digest) × WasFed512 v.sha512 m
IsFedValue v (listed.Blake2b digest) m =
    (v.mark ≡ file_mark) × (v.hash ≡ 3) × (v.digest ≡ digest) × WasFed v.blake2b m

-- The check of a file is finished: its state accepts no more calls.
abbrev pub IsFinished : FileValue → FileValue → Type 0
IsFinished old new = (old.mark ≡ file_mark) × (new ≡ record old { mark = 0 })

-- The error of finishing a check: the data has another digest, and the state is finished; or no check was
-- begun, and the state is unchanged.
abbrev pub IsFinishRefusal : FileValue → FileValue → Refusal ListFault → Type 0
IsFinishRefusal old new (WrongUse m) = (m ≡ NotBegun) × (new ≡ old)
    × ((d : ListedDigest) (m : List ℕ) → ¬ (IsFedValue old d m))
IsFinishRefusal old new (Refused e) = (e ≡ DigestMismatch) × IsFinished old new
