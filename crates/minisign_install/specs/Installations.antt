-- An installation as a struct of fixed size, and the state of the installer that it represents. The contract
-- of each call is an equation with `step`.
use Rattle.std.specs.Prelude.{◌≡◌, ◌==◌, ◌++◌, ◌&&◌, ◌||◌, not, nat_le, ℕ, Bool, true, false, if◌then◌else◌}
use Rattle.std.specs.Prelude.{List, [], ◌∷◌}
use Rattle.std.specs.Prelude.{Option, Some, None, MatchOption, Result, Ok, Err, get_or, length, option_map}
use Rattle.std.specs.Prelude.{◌<◌, ◌≤◌, ◌≢◌, take, drop, replicate, filter, bytes_eq, IfOk, MatchResult}
use Rattle.std.specs.Option.{unwrap_or}
use Rattle.minisign.specs.Records.{is_prehashed}
use Rattle.minisign.specs.SignatureText.{SignatureTextRecord, read_signature}
use Rattle.minisign.specs.Texts.{require}
use Rattle.minisign_base.specs.declared.faults.NamedFault.TheVariants as named
use Rattle.minisign_external.specs.Numbers.{fault_number}
use Rattle.minisign_external.specs.PublicKeys.{read_utf8}
use Rattle.minisign_external.specs.Questions.{has_whole_signature}
use Rattle.minisign_external.specs.declared.state.Misuse.TheVariants.{NoRoom}
use Rattle.minisign_external.specs.declared.state.Refusal.TheVariants.{WrongUse}
use Rattle.minisign_install.specs.Decisions.{comment_fault, judge_text, signed_size, version_in}
use Rattle.minisign_install.specs.Faults.{Fault}
use Rattle.minisign_install.specs.Step.{ReadSignature, SignatureRead, after_signature}
use Rattle.minisign_install.specs.declared.installation.progress.Judgment.{Judgment}
use Rattle.minisign_hash.specs.Stored.{WasFed}
use Rattle.minisign_external.specs.declared.public_keys.PublicKeyValue.{PublicKeyValue}
use Rattle.minisign_external.specs.declared.state.Misuse.{Misuse}
use Rattle.minisign_external.specs.declared.state.Misuse.TheVariants.{BadHash, BadNumbering, BadOption}
use Rattle.minisign_external.specs.declared.state.Refusal.{Refusal}
use Rattle.minisign_install.specs.Comments.{Numbering, Timestamp, Version}
use Rattle.minisign_install.specs.Decisions.{Options, Recorded}
use Rattle.minisign_install.specs.Faults.{BadName, InstallFault, Library, ListedTwice, MalformedLine, Named}
use Rattle.minisign_install.specs.Faults.{NotListed, NotUtf8}
use Rattle.minisign_install.specs.Faults.{install_number, is_installer_fault}
use Rattle.minisign_install.specs.RecordTexts.{IsRecordOf, record_digest, record_key}
use Rattle.minisign_install.specs.Step.{CopyData, Done, Lock, PieceRead, ReadBack, ReadRecord, ReadTarget}
use Rattle.minisign_install.specs.Step.{RemoveFiles, WriteRecord, new_key, new_record, new_version}
use Rattle.minisign_install.specs.Step.{CheckComment, CheckData, CheckList, CheckRecord, CheckTarget}
use Rattle.minisign_install.specs.Step.{ReadList, signed_digest}
use Rattle.minisign_install.specs.Step.{has_ended}
use Rattle.minisign_install.specs.declared.installation.Choices.{Choices}
use Rattle.minisign_install.specs.declared.installation.Question.{Question}
use Rattle.minisign_install.specs.Step.{Event, Nothing, Operation, State, operations, result_of, step}
use Rattle.minisign_install.specs.declared.installation.Installation.{Installation}
use Rattle.minisign_install.specs.declared.installation.progress.Chosen.{Chosen}
use Rattle.minisign_install.specs.declared.installation.progress.Progress.{Progress}
use Rattle.minisign_install.specs.declared.installation.progress.RecordedValue.{RecordedValue}
use Rattle.minisign_install.specs.Listings.{Listing}
use Rattle.minisign_install.specs.declared.installation.listing.ListingValue.{ListingValue}
use Rattle.minisign_install.specs.declared.installation.reading.Reading.{Reading}
use Rattle.minisign_lists.specs.declared.digests.Algorithm.{Algorithm}
use Rattle.minisign_lists.specs.declared.digests.ListedDigest.{ListedDigest}
use Rattle.minisign_lists.specs.declared.lines.LongDigest.{LongDigest}
use Rattle.minisign_lists.specs.Values.{algorithm_numbered, digest_of_padded, long_numbered}
use Rattle.minisign_lists.specs.declared.digests.Algorithm.TheVariants as algorithm
use Rattle.minisign_lists.specs.declared.lines.LongDigest.TheVariants as long
use Rattle.minisign_sha2.specs.Hashers.{WasFed256, WasFed512}
use Rattle.minisign_sha2.specs.declared.stored.StoredSha256.{StoredSha256}
use Rattle.minisign_sha2.specs.declared.stored.StoredSha512.{StoredSha512}

-- == The state of a struct ==

-- The operation with this number, or Nothing if there is none.
abbrev pub operation_of : ℕ → Operation
operation_of n = get_or operations n Nothing

-- The number by which applications choose the field that has the version number.
abbrev pub numbering_number : Numbering → ℕ
numbering_number Timestamp = 0
numbering_number Version = 1

-- The field that this number chooses. The numbers other than 0 and 1 are rejected by `choices_misuse`.
abbrev pub numbering_of : ℕ → Numbering
numbering_of n = if n == numbering_number Version then Version else Timestamp

-- The value if the condition holds, otherwise None.
abbrev pub when : {A : Type 0} → Bool → A → Option A
when holds value = if holds then Some value else None

-- The field `list` of the options: None if the signature is not that of a list. Otherwise it is the hash
-- function of lines with a digest of 128 hexadecimal digits that do not name one, or says that they are
-- malformed.
abbrev pub list_of : ℕ → ℕ → Option LongDigest
list_of is_list number = when (is_list == 1) (unwrap_or (long_numbered number) long.Rejected)

abbrev pub options_of : Chosen → List ℕ → Options
options_of c file = record {
  keys = c.key ∷ c.other ∷ [];
  file = file;
  numbering = numbering_of c.numbering;
  first = c.is_first == 1;
  again = c.again == 1;
  check = c.is_check == 1;
  must_expire = c.must_expire == 1;
  new_key = c.new_key == 1;
  roll_back = c.roll_back == 1;
  list = list_of c.is_list c.long_digest;
}

abbrev pub recorded_of : RecordedValue → Recorded
recorded_of r = record {
  version = when (r.has_version == 1) r.version;
  key = when (r.has_key == 1) r.key;
  digest = when (r.has_digest == 1) r.digest;
}

-- The contents of a record that is used: this version number, and the key and the digest in its bytes.
abbrev pub numbered : ℕ → List ℕ → Recorded
numbered n bytes = record { version = Some n; key = record_key bytes; digest = record_digest bytes }

-- The error with this number, if looking up the name failed.
abbrev pub list_fault_of : ℕ → InstallFault
list_fault_of n =
    if n == 90 then BadName
    else if n == 91 then MalformedLine
    else if n == 93 then ListedTwice
    else if n == fault_number (Named NotUtf8) then Library (Named NotUtf8) else NotListed

-- The listed digest with these bytes, or the error with this number if there is no hash function.
abbrev pub listed_of : Option Algorithm → List ℕ → ℕ → Result ListedDigest InstallFault
listed_of (Some a) digest fault = Ok (digest_of_padded a digest)
listed_of None digest fault = Err (list_fault_of fault)

abbrev pub listing_of : ListingValue → Listing
listing_of v = record {
  digest = v.list_digest;
  listed = listed_of (algorithm_numbered v.hash) v.digest v.fault;
  line = v.line;
}

-- The contents of the record, or the error with which it is rejected.
abbrev pub judgment_of : Result RecordedValue InstallFault → Result Recorded InstallFault
judgment_of (Ok r) = Ok (recorded_of r)
judgment_of (Err fault) = Err fault

-- The given keys with the key ID of the signature: the first key, the other key, both or neither.
abbrev pub signers_of : Progress → List PublicKeyValue
signers_of p =
    (if p.key_matches == 1 then p.chosen.key ∷ [] else []) ++ (if p.other_key_matches == 1 then p.chosen.other
    ∷ [] else [])

-- The state that the struct represents. The struct does not contain the file name; of the bytes that were
-- read it contains the hash, and of the errors the numbers. So these four are arguments here.
abbrev pub state_of : Progress → List ℕ → List ℕ → Option InstallFault → Option InstallFault → State
state_of p file read fault error = record {
  due = operation_of p.due;
  options = options_of p.chosen file;
  recorded = recorded_of p.recorded;
  signers = signers_of p;
  signature = if p.judged.is_judged == 1 then p.judged.signature else [];
  comment_signature = if p.judged.is_judged == 1 then p.judged.comment_signature else [];
  fault = fault;
  version = p.judged.version;
  size = when (p.judged.has_size == 1) p.judged.size;
  is_signed = p.is_signed == 1;
  listing = listing_of p.listing;
  is_list_signed = p.is_list_signed == 1;
  is_recorded = p.is_recorded == 1;
  read = read;
  left = when (p.has_left == 1) p.left;
  error = error;
}

-- n is the number of this error, which is an installation error and not one of the library, or 0 if there is
-- no error.
abbrev pub IsOwnNumber : ℕ → Option InstallFault → Type 0
IsOwnNumber n fault = MatchOption fault (n ≡ 0) (λ e. (n ≡ install_number e) × (is_installer_fault e ≡ true))

-- The number of the error, or 0 if there is none.
abbrev pub error_number : Option InstallFault → ℕ
error_number None = 0
error_number (Some e) = install_number e

-- The state of SHA-256, if the file is hashed with it. It is stored mostly in the fields of BLAKE2b.
abbrev pub stored_256 : Reading → StoredSha256
stored_256 r =
    record { h = r.sha256; buffer = take 64 r.blake2b.buffer; count = r.blake2b.count_low }

-- The state of SHA-512, if the file is hashed with it. It is stored in the fields of BLAKE2b.
abbrev pub stored_512 : Reading → StoredSha512
stored_512 r = record {
  h = r.blake2b.h;
  buffer = take 128 r.blake2b.buffer;
  count_low = r.blake2b.count_low;
  count_high = r.blake2b.count_high;
}

-- The state of this hash function was fed these bytes. None stands for BLAKE2b.
abbrev pub WasRead : Option Algorithm → Reading → List ℕ → Type 0
WasRead (Some algorithm.Sha256) r m = WasFed256 (stored_256 r) m
WasRead (Some algorithm.Sha512) r m = WasFed512 (stored_512 r) m
WasRead (Some algorithm.Blake2b) r m = WasFed r.blake2b m
WasRead None r m = WasFed r.blake2b m

-- The hash function with which files are hashed: that of the listed digest, or None if there is none.
abbrev pub reading_for : Chosen → ListingValue → Option Algorithm
reading_for c l = if c.is_list == 1 then algorithm_numbered l.hash else None

-- The struct represents the state. `file`, `read`, `fault` and `error` are the parts of the state that the
-- struct does not contain, or contains only as a hash or a number.
pub record HoldsState (p : Progress) (s : State) : Type 0 where
  pub file : List ℕ
  pub read : List ℕ
  pub fault : Option InstallFault
  pub error : Option InstallFault
  pub state : s ≡ state_of p file read fault error
  pub fault_number : IsOwnNumber p.judged.fault fault
  pub error_number : p.error ≡ error_number error
  pub fed : WasRead (reading_for p.chosen p.listing) p.reading read

-- The mark (magic number) of an installation that was begun: the letters "minstall".
abbrev pub begun_mark : ℕ
begun_mark = 7812726606361684333

-- The struct represents the state, if the installation was begun. Otherwise nothing has happened in the
-- state.
abbrev pub RepresentsIf : Bool → Progress → State → Type 0
RepresentsIf true p s = HoldsState p s
RepresentsIf false p s =
    (s.due ≡ Nothing) × (s.is_signed ≡ false) × (s.error ≡ None) × (s.is_list_signed ≡ false)

-- **The installation represents the state. An installation that was never begun represents every state in
-- which nothing is due, nothing is signed and no error was found.**
abbrev pub Represents : Installation → State → Type 0
Represents i s = RepresentsIf (i.mark == begun_mark) i.progress s

-- == Operations ==

abbrev pub is_copying : Operation → Bool
is_copying CopyData = true
is_copying op = false

abbrev pub is_locking : Operation → Bool
is_locking Lock = true
is_locking op = false

abbrev pub is_removing : Operation → Bool
is_removing RemoveFiles = true
is_removing op = false

-- The run has ended, or was never begun.
abbrev pub is_over : Operation → Bool
is_over Nothing = true
is_over op = has_ended op

abbrev pub is_reading_record : Operation → Bool
is_reading_record ReadRecord = true
is_reading_record op = false

abbrev pub is_reading_signature : Operation → Bool
is_reading_signature ReadSignature = true
is_reading_signature op = false

abbrev pub is_reading_list : Operation → Bool
is_reading_list ReadList = true
is_reading_list op = false

abbrev pub is_reading_target : Operation → Bool
is_reading_target ReadTarget = true
is_reading_target op = false

abbrev pub is_reading : Operation → Bool
is_reading ReadTarget = true
is_reading ReadBack = true
is_reading op = false

abbrev pub is_writing_record : Operation → Bool
is_writing_record WriteRecord = true
is_writing_record op = false

-- == What the calls return to the application ==

-- The first of the keys that may have signed.
abbrev pub first_key : List PublicKeyValue → Option (List ℕ)
first_key [] = None
first_key (v ∷ more) = Some v.key

-- The question about this digest.
abbrev pub about : List ℕ → List ℕ → List ℕ → Question
about key signature digest = record { key = key; signature = signature; digest = digest; is_comment = 0 }

-- The question that is due, under this key. The question about the trusted comment has zeros instead of a
-- digest; its message is the one that the call `signature` wrote.
abbrev pub question_of : Operation → List ℕ → State → Option Question
question_of CheckComment key s = Some (record {
  key = key;
  signature = s.comment_signature;
  digest = replicate 64 0;
  is_comment = 1;
})
question_of CheckList key s = Some (about key s.signature (signed_digest s))
question_of CheckRecord key s = option_map (about key s.signature) s.recorded.digest
question_of CheckTarget key s = Some (about key s.signature (signed_digest s))
question_of CheckData key s = Some (about key s.signature (signed_digest s))
question_of op key s = None

-- The question that is due, or None if the signature file was not read yet or there is no key.
abbrev pub question_by : Bool → Option (List ℕ) → Operation → State → Option Question
question_by true (Some key) op s = question_of op key s
question_by is_read key op s = None

-- The question that is due, once the signature file was read and a key may have signed.
abbrev pub question_due : State → Option Question
question_due s = question_by (length s.signature == 64) (first_key s.signers) s.due s

-- The new record, if writing it is due and there is a key that has signed.
abbrev pub record_due : State → Option (List ℕ)
record_due s =
    if is_writing_record s.due then option_map (λ key. new_record s) (first_key s.signers) else None

-- These bytes are the record that the run writes. A roll-back does not decrease the recorded version. The
-- digest is that of the list, or without a list that of the bytes that were read.
abbrev pub IsNewRecord : State → List ℕ → Type 0
IsNewRecord s bytes = IsRecordOf s.options.numbering (new_version s) (new_key s) (signed_digest s) bytes

-- The first n bytes of the buffer are the text, and the rest is unchanged. If n is 0, the buffer was too
-- short, and is unchanged.
pub record IsWritten (text : List ℕ) (n : ℕ) (old new : List ℕ) : Type 0 where
  pub front : 0 < n → (n ≤ length new) × (take n new ≡ text)
  pub rest_unchanged : drop n new ≡ drop n old
  pub room : n ≡ 0 → (new ≡ old) × (length old < length text)

-- If there is a text, it is written as IsWritten says. Otherwise nothing is written.
abbrev pub IsWrittenIf : Option (List ℕ) → ℕ → List ℕ → List ℕ → Type 0
IsWrittenIf None n old new = (n ≡ 0) × (new ≡ old)
IsWrittenIf (Some text) n old new = IsWritten text n old new

-- == Calls ==

-- The options that an application passes.
abbrev pub options_by : PublicKeyValue → PublicKeyValue → Choices → List ℕ → Options
options_by key other c file = record {
  keys = key ∷ other ∷ [];
  file = file;
  numbering = numbering_of c.numbering;
  first = c.is_first == 1;
  again = c.again == 1;
  check = c.is_check == 1;
  must_expire = c.must_expire == 1;
  new_key = c.new_key == 1;
  roll_back = c.roll_back == 1;
  list = list_of c.is_list c.long_digest;
}

-- Options that are given or not are passed as 1 or 0.
abbrev pub is_flag : ℕ → Bool
is_flag n = nat_le n 1

abbrev pub are_flags : Choices → Bool
are_flags c = is_flag c.is_first && is_flag c.again && is_flag c.is_check && is_flag c.must_expire
    && is_flag c.new_key && is_flag c.roll_back && is_flag c.is_list

-- --first must not be combined with --new-key or --roll-back.
abbrev pub choices_fit : Choices → Bool
choices_fit c = not (c.is_first == 1 && (c.new_key == 1 || c.roll_back == 1))

-- The API misuse if there is no hash function with the number `long_digest`.
abbrev pub number_misuse : Option LongDigest → Option Misuse
number_misuse (Some long) = None
number_misuse None = Some BadHash

-- The API misuse if the options are rejected: BadOption if an option is neither 0 nor 1 or if two options
-- must not be combined, BadNumbering if there is no field with this number, and otherwise BadHash if
-- `long_digest` is not 0, 2 or 3.
abbrev pub choices_misuse : Choices → Option Misuse
choices_misuse c =
    if are_flags c && choices_fit c
    then if nat_le c.numbering 1 then number_misuse (long_numbered c.long_digest) else Some BadNumbering
    else Some BadOption

-- The event of an empty piece: the end of the file, if a file is being read.
abbrev pub end_event : Operation → Event
end_event op = if is_reading op then Done else PieceRead []

abbrev pub piece_event : Operation → List ℕ → Event
piece_event op bytes = if length bytes == 0 then end_event op else PieceRead bytes

-- The result and the new struct are those of the step with this event, from the state of the old struct.
abbrev pub Steps : Event → State → Result Unit (Refusal InstallFault) → Progress → Type 0
Steps e s result new = HoldsState new (step s e).1 × (result ≡ (step s e).0)

-- == The signature file ==

-- The event that the call `signature` reports.
abbrev pub signature_read : List ℕ → Option ℕ → Event
signature_read sig_text time = SignatureRead (read_utf8 read_signature sig_text) time

-- The result of the checks of this signature file that need no Ed25519.
abbrev pub judged_text : State → List ℕ → Result (SignatureTextRecord × List PublicKeyValue) Fault
judged_text s sig_text = judge_text s.options (read_utf8 read_signature sig_text)

-- The given keys with the key ID of the signature: those that may have signed.
abbrev pub given : Chosen → SignatureTextRecord → List PublicKeyValue
given c t = filter (λ v. bytes_eq t.signature.keynum v.key_id) (c.key ∷ c.other ∷ [])

-- The checks of `judge_keys` that remain if a key has the key ID of the signature.
abbrev pub judge_form : SignatureTextRecord → List PublicKeyValue
    → Result (SignatureTextRecord × List PublicKeyValue) Fault
judge_form t signers =
    require (is_prehashed t.signature) named.LegacyNotAccepted
    (require (has_whole_signature t.comments) named.CommentSignatureRefused
    (Ok (t, signers)))

-- The checks have succeeded for this signature file and these signers, and the result of the code is the
-- signature of its comment; or a check has failed, and the result is its error.
abbrev pub IsJudgedAs : Result (SignatureTextRecord × List PublicKeyValue) Fault → SignatureTextRecord
    → List PublicKeyValue → Result (List ℕ) Fault → Type 0
IsJudgedAs judged t signers result = MatchResult result
    (λ second. (judged ≡ Ok (t, signers)) × (second ≡ take 64 t.comments.signature)) (λ e. judged ≡ Err e)

-- The message of the question about the trusted comment.
abbrev pub comment_message : Result (SignatureTextRecord × List PublicKeyValue) Fault → Option (List ℕ)
comment_message (Ok (t, signers)) = Some (t.signature.signature ++ t.comments.trusted)
comment_message (Err fault) = None

-- The buffer begins with this message of n bytes, and the rest is unchanged. Without a message n is 0.
abbrev pub HasMessage : Option (List ℕ) → ℕ → List ℕ → List ℕ → Type 0
HasMessage (Some m) n old new =
    (n ≡ length m) × (n ≤ length new) × (take n new ≡ m) × (drop n new ≡ drop n old)
HasMessage None n old new = (n ≡ 0) × (new ≡ old)

-- There is a message, and it does not fit into a buffer of this length.
abbrev pub IsTooLong : Option (List ℕ) → ℕ → Type 0
IsTooLong message room = (m : List ℕ) × (message ≡ Some m) × (room < length m)

-- The result without the length of the message.
abbrev pub without_length : Result ℕ (Refusal InstallFault) → Result Unit (Refusal InstallFault)
without_length (Ok n) = Ok tt
without_length (Err r) = Err r

-- The struct contains the result of reading the signature file `t`: its two signatures, the version number
-- and the size in its comment, and the number of the error if the comment is rejected.
pub record IsReadAs (j : Judgment) (o : Options) (t : SignatureTextRecord) (second : List ℕ)
    (recorded time : Option ℕ)
    : Type 0 where
  pub judged : j.is_judged ≡ 1
  pub signature : j.signature ≡ t.signature.signature
  pub comment_signature : j.comment_signature ≡ second
  pub version : j.version ≡ unwrap_or (version_in o.numbering t.comments.trusted) 0
  pub size : when (j.has_size == 1) j.size ≡ signed_size o.list t.comments.trusted
  pub fault : IsOwnNumber j.fault (comment_fault o recorded time t.comments.trusted)

-- The struct represents the state t, and the result is that of a step from s to t.
abbrev pub RunLeadsTo : State → State → Result Unit (Refusal InstallFault) → Progress → Type 0
RunLeadsTo s t result new = HoldsState new t × (result ≡ result_of s.error t.error)

-- The effect of the call `signature` if the checks have this result: the run has continued, and the message
-- was written; or the result is NoRoom, because the message does not fit into the buffer.
pub record SignatureLeads (judged : Result (SignatureTextRecord × List PublicKeyValue) Fault)
    (time : Option ℕ) (s : State) (result : Result ℕ (Refusal InstallFault)) (new : Progress)
    (before after : List ℕ) : Type 0 where
  pub leads : result ≢ Err (WrongUse NoRoom)
      → RunLeadsTo s (after_signature judged time s) (without_length result) new
  pub message : IfOk result (λ n. HasMessage (comment_message judged) n before after)
  pub room : result ≡ Err (WrongUse NoRoom) → IsTooLong (comment_message judged) (length before)

-- The result is that of the step, the new struct represents the state after it, and the message was written;
-- or the result is NoRoom, because the message does not fit into the buffer.
pub record SignatureSteps (sig_text : List ℕ) (time : Option ℕ) (s : State)
    (result : Result ℕ (Refusal InstallFault)) (HoldsNew : State → Type 0) (before after : List ℕ)
    : Type 0 where
  pub steps : result ≢ Err (WrongUse NoRoom) → HoldsNew (step s (signature_read sig_text time)).1
      × (without_length result ≡ (step s (signature_read sig_text time)).0)
  pub message : IfOk result (λ n. HasMessage (comment_message (judged_text s sig_text)) n before after)
  pub room : result ≡ Err (WrongUse NoRoom)
      → (s.due ≡ ReadSignature) × IsTooLong (comment_message (judged_text s sig_text)) (length before)

-- **If the old installation represents a state, the new one represents the state after the step with this
-- event, and the result is that of the step.**
abbrev pub CallSteps : Event → Installation → Installation → Result Unit (Refusal InstallFault) → Type 0
CallSteps e old new result =
    (s : State) → Represents old s → Represents new (step s e).1 × (result ≡ (step s e).0)
