-- The state of verifying or signing one file (`State`), a struct that a program in another language holds:
-- which calls it allows, and what they return.
--
-- To verify, the program asks the state about a public key and a signature (`State::ask`). The state returns
-- the questions, which are the inputs of two Ed25519 checks. The first check is that of the data signature,
-- and the second one that of the comment signature. The program feeds the data to the state, finalizes the
-- digest, makes both checks itself, and passes in their results. The state returns the verdict, and is then
-- finished.
use Rattle.std.specs.Prelude.{◌≡◌, ⊤, ◌==◌, ◌⊎◌, ◌<◌, ◌≤◌, ◌||◌, ◌&&◌, not, nat_le, ℕ, Bool, if◌then◌else◌}
use Rattle.std.specs.Prelude.{List}
use Rattle.std.specs.Prelude.{◌+◌, ◌++◌, length, replicate, take, MatchResult, Result, Ok, Err}
use Rattle.std.specs.Str.{IsUtf8}
use Rattle.minisign_hash.specs.Stored.{WasFed}
use Rattle.minisign_base.specs.Fault.{Fault}
use Rattle.minisign_base.specs.declared.faults.NamedFault.TheVariants.{CommentSignatureRefused}
use Rattle.minisign.specs.Records.{is_prehashed}
use Rattle.minisign.specs.Acceptance.{Verifier, judge_answers, judge_key}
use Rattle.minisign.specs.Headline.{TextsVouchFor, verdict}
use Rattle.minisign.specs.SignatureText.{SignatureTextRecord}
use Rattle.minisign.specs.Texts.{require}
use Rattle.minisign_external.specs.Questions.{Answers, AnswersTexts, HoldsMessage, IsKeyText}
use Rattle.minisign_external.specs.PublicKeys.{is_public_key}
use Rattle.minisign_external.specs.Questions.{has_whole_signature, read_under, comment_signature_or_zeros}
use Rattle.minisign_external.specs.Signatures.{comment_of, signature_of_value}
use Rattle.minisign_external.specs.Numbers.{IsAnswer, answer_yes, is_answer, fault_number, misuse_number}
use Rattle.minisign_external.specs.Numbers.{refusal_number}
use Rattle.minisign_external.specs.declared.public_keys.PublicKeyValue.{PublicKeyValue}
use Rattle.minisign_external.specs.declared.signatures.SignatureValue.{SignatureValue}
use Rattle.minisign_external.specs.declared.state.Misuse.{Misuse}
use Rattle.minisign_external.specs.declared.state.Misuse.TheVariants.{NotBegun, AlreadyAsked, NotAsked}
use Rattle.minisign_external.specs.declared.state.Misuse.TheVariants.{BadAnswer, NoRoom, BadLegacyFlag}
use Rattle.minisign_external.specs.declared.state.Misuse.TheVariants.{PublicKeyNotRead}
use Rattle.minisign_external.specs.declared.state.Refusal.{Refusal}
use Rattle.minisign_external.specs.declared.state.Refusal.TheVariants.{WrongUse, Refused}
use Rattle.minisign_external.specs.declared.state.State.{State}
use Rattle.minisign_external.specs.declared.state.Questions.{Questions}

-- == Marks ==

-- The mark (magic number) of a state that accepts data: the letters "minisign".
abbrev pub fed_mark : ℕ
fed_mark = 7955443211184269677

-- The mark of a state whose digest was returned: the letters "minissum". A verdict sets the mark to 0.
abbrev pub finalized_mark : ℕ
finalized_mark = 7887337261936568685

-- The mark in the field `asked` of a state that was asked about a signature file: the letters "minisask".
abbrev pub asked_mark : ℕ
asked_mark = 7742639332697991533

-- The mark in the field `asked` of a state that was asked about a bare signature, which is one without
-- comments: the letters "minisbar".
abbrev pub bare_asked_mark : ℕ
bare_asked_mark = 8241977040894323053

-- == Which calls were made ==

-- The state was initialized and fed the message, and accepts more data.
pub record IsFedState (s : State) (m : List ℕ) : Type 0 where
  pub mark : s.mark ≡ fed_mark
  pub fed : WasFed s.hash m

-- The state was fed the message, and its digest was returned.
pub record HasReturnedDigest (s : State) (m : List ℕ) : Type 0 where
  pub mark : s.mark ≡ finalized_mark
  pub fed : WasFed s.hash m

-- The state was asked about the key and the signature file, which has passed the checks that need no Ed25519.
-- The state has recorded whether the comment signature has at least 64 bytes.
pub record WasAskedAbout (s : State) (v : PublicKeyValue) (sig_text : List ℕ) (legacy : Bool) : Type 0 where
  pub asked : s.asked.mark ≡ asked_mark
  pub signed : SignatureTextRecord
  pub read : read_under v legacy sig_text ≡ Ok signed
  pub whole : (s.asked.whole == 1) ≡ has_whole_signature signed.comments

-- The field `asked`, which records that the state was asked, is unchanged.
abbrev pub KeepsQuestions : State → State → Type 0
KeepsQuestions old new = new.asked ≡ old.asked

-- The state has the mark of a state that accepts data.
abbrev pub IsMarkedFed : State → Type 0
IsMarkedFed s = s.mark ≡ fed_mark

-- The state has the mark of a state whose digest was returned.
abbrev pub IsMarkedFinalized : State → Type 0
IsMarkedFinalized s = s.mark ≡ finalized_mark

-- The state was initialized, and no verdict has finished it.
abbrev pub is_begun : State → Bool
is_begun s = (s.mark == fed_mark) || (s.mark == finalized_mark)

-- The state was asked about a signature file, whatever the key and the file are.
abbrev pub was_asked : State → Bool
was_asked s = s.asked.mark == asked_mark

-- The state was asked about a bare signature, whatever the key and the signature are.
abbrev pub was_asked_bare : State → Bool
was_asked_bare s = s.asked.mark == bare_asked_mark

-- The state was not asked about anything, and its reserved fields are 0.
pub record IsBlank (s : State) : Type 0 where
  pub asked : s.asked ≡ record { mark = 0; whole = 0 }
  pub reserved : s.reserved ≡ replicate 18 0

-- == Feeding ==

-- The API misuse for feeding a state that accepts no data: AlreadyAsked if its digest was returned (this
-- error also says that `ask` was already called), and otherwise NotBegun, because the state was never
-- initialized or is finished.
abbrev pub feeding_misuse : State → Misuse
feeding_misuse s = if s.mark == finalized_mark then AlreadyAsked else NotBegun

-- The state accepts no data, and e is the API misuse for feeding it. `IsFedState` holds for no message, not
-- even the empty one.
abbrev pub IsNotFed : State → Misuse → Type 0
IsNotFed s e = (e ≡ feeding_misuse s) × ((m : List ℕ) → ¬ (IsFedState s m))

-- == Questions ==

-- Questions with 0 in every field.
abbrev pub no_questions : Questions
no_questions = record {
  public_key = replicate 32 0;
  digest = replicate 64 0;
  signature = replicate 64 0;
  comment_signature = replicate 64 0;
  message_len = 0;
  comment_offset = 0;
  comment_len = 0;
  legacy = 0;
  reserved = 0;
}

-- The questions for the key and the parsed signature file, with zeros in place of the digest. The message of
-- the second check is the data signature, which has 64 bytes, followed by the trusted comment.
abbrev pub questions_for_text : PublicKeyValue → SignatureTextRecord → Questions
questions_for_text v t = record {
  public_key = v.key;
  digest = replicate 64 0;
  signature = t.signature.signature;
  comment_signature = comment_signature_or_zeros t.comments;
  message_len = 64 + length t.comments.trusted;
  comment_offset = 64;
  comment_len = length t.comments.trusted;
  legacy = if is_prehashed t.signature then 0 else 1;
  reserved = 0;
}

-- The questions for the key and the signature that a struct holds, with zeros in place of the digest.
abbrev pub questions_for_value : PublicKeyValue → SignatureValue → Questions
questions_for_value v s = record {
  public_key = v.key;
  digest = replicate 64 0;
  signature = s.signature;
  comment_signature = s.comment_signature;
  message_len = 64 + s.comment_len;
  comment_offset = 64;
  comment_len = s.comment_len;
  legacy = s.legacy;
  reserved = 0;
}

-- The state after a successful call of `ask` with this signature, which only sets the field `asked`.
abbrev pub state_after_asking : State → SignatureValue → State
state_after_asking state s = record state { asked = record { mark = asked_mark; whole = s.whole } }

-- The buffer begins with the message of the second check: the data signature, followed by the trusted comment
-- that the signature has in this text.
abbrev pub HoldsCommentMessage : SignatureValue → List ℕ → List ℕ → Type 0
HoldsCommentMessage s text buffer = (c : List ℕ) → comment_of s text ≡ Ok c
    → (length c ≡ s.comment_len) × (64 + length c ≤ length buffer)
    × (take (64 + length c) buffer ≡ s.signature ++ c)

-- q holds the questions for the key and the parsed signature file, with any digest. The bytes begin with the
-- message of the second check.
pub record AreQuestions (q : Questions) (bytes : List ℕ) (v : PublicKeyValue) (t : SignatureTextRecord)
    : Type 0 where
  pub questions : q ≡ record (questions_for_text v t) { digest = q.digest }
  pub message : HoldsMessage t.signature t.comments.trusted bytes q.message_len

-- q holds the questions for the key and the parsed signature file as `State::ask` writes them, with zeros in
-- place of the digest. The bytes begin with the message of the second check.
abbrev pub AreQuestionsWithoutDigest : Questions → List ℕ → PublicKeyValue → SignatureTextRecord → Type 0
AreQuestionsWithoutDigest q bytes v t = (q ≡ questions_for_text v t)
    × HoldsMessage t.signature t.comments.trusted bytes q.message_len

-- == Asking ==

-- Succeeds if a buffer of `room` bytes is long enough for the message of the second check, with a trusted
-- comment of `len` bytes.
abbrev pub check_buffer : ℕ → ℕ → Result Unit (Refusal Fault)
check_buffer len room = if nat_le (64 + len) room then Ok tt else Err (WrongUse NoRoom)

-- The result of two checks, from the result of each. The first one compares the key IDs and checks that a
-- legacy signature is allowed. If it failed, the result is its error, otherwise the second result.
abbrev pub after_key_check : Result ⊤ Fault → Result Unit (Refusal Fault) → Result Unit (Refusal Fault)
after_key_check (Ok t) more = more
after_key_check (Err e) more = Err (Refused e)

-- The result of two checks, from the result of each. The first one finds the trusted comment in the text. If
-- it failed, the result is its error, otherwise the second result.
abbrev pub after_comment_check : Result (List ℕ) Misuse → Result Unit (Refusal Fault)
    → Result Unit (Refusal Fault)
after_comment_check (Ok comment) more = more
after_comment_check (Err m) more = Err (WrongUse m)

-- Fails if no public key was read into the struct. Otherwise, the result is `more`.
abbrev pub with_public_key : PublicKeyValue → Result Unit (Refusal Fault) → Result Unit (Refusal Fault)
with_public_key v more = if is_public_key v then more else Err (WrongUse PublicKeyNotRead)

-- Checks the arguments of `State::ask`, which makes these checks after that of the state. The errors are, in
-- this order: no public key was read into the struct; no signature was read, or not from this text; those of
-- checking the signature under the key; the buffer is too short.
abbrev pub check_ask_arguments : PublicKeyValue → SignatureValue → List ℕ → Bool → ℕ
    → Result Unit (Refusal Fault)
check_ask_arguments v s text legacy room = with_public_key v (after_comment_check (comment_of s text)
    (after_key_check (judge_key v.key_id (signature_of_value s) legacy) (check_buffer s.comment_len room)))

-- The API misuse for asking a state that cannot be asked: AlreadyAsked if it was asked before or its digest
-- was returned, and otherwise NotBegun, because it was never initialized or is finished.
abbrev pub asking_misuse : State → Misuse
asking_misuse s = if is_begun s then AlreadyAsked else NotBegun

-- The state can be asked: it accepts data and was not asked before.
abbrev pub can_be_asked : State → Bool
can_be_asked s = (s.mark == fed_mark) && not (was_asked s) && not (was_asked_bare s)

-- The result of `State::ask`: API misuse if the state cannot be asked, otherwise the result of
-- `check_ask_arguments`.
abbrev pub result_of_asking : State → PublicKeyValue → SignatureValue → List ℕ → Bool → ℕ
    → Result Unit (Refusal Fault)
result_of_asking s v signature text legacy room =
    if can_be_asked s then check_ask_arguments v signature text legacy room
    else Err (WrongUse (asking_misuse s))

-- The error of parsing the signature file or of checking it under the key. If there is none, checks that a
-- buffer of `room` bytes is long enough.
abbrev pub check_buffer_if_read : Result SignatureTextRecord Fault → ℕ → Result Unit (Refusal Fault)
check_buffer_if_read (Ok t) room = check_buffer (length t.comments.trusted) room
check_buffer_if_read (Err e) room = Err (Refused e)

-- The result of `State::ask` with a signature that was read from this text, computed from the text. The
-- errors are, in this order: those of the state; no public key was read into the struct; those of parsing the
-- text and checking it under the key; the buffer is too short.
abbrev pub result_of_asking_with_text : State → PublicKeyValue → List ℕ → Bool → ℕ
    → Result Unit (Refusal Fault)
result_of_asking_with_text s v text legacy room =
    if can_be_asked s then with_public_key v (check_buffer_if_read (read_under v legacy text) room) else
    Err (WrongUse (asking_misuse s))

-- The error is the API misuse for feeding a state that accepts no data, and this state accepts none.
abbrev pub IsNotFedRefusal : State → Refusal Fault → Type 0
IsNotFedRefusal s (WrongUse m) = IsNotFed s m
IsNotFedRefusal s (Refused e) = ⊥

-- An error of `State::ask_fed`: that of a state that accepts no data. If the state accepts data, the error is
-- that of `check_ask_arguments`.
abbrev pub IsAskFedRefusal : State → PublicKeyValue → SignatureValue → List ℕ → Bool → ℕ → Refusal Fault
    → Type 0
IsAskFedRefusal s v signature text legacy room r =
    IsNotFedRefusal s r ⊎ (IsMarkedFed s × (check_ask_arguments v signature text legacy room ≡ Err r))

-- If the error is one of the library and not API misuse, and the signature file is UTF-8, then verification
-- with this signature file fails with the same error, for every public key file that contains this key, every
-- scheme and every message.
abbrev pub IsTextRefusal : PublicKeyValue → List ℕ → Bool → Refusal Fault → Type 0
IsTextRefusal v sig_text legacy (WrongUse m) = ⊤
IsTextRefusal v sig_text legacy (Refused e) =
    IsUtf8 sig_text → (pk_text message : List ℕ) (accepts : Verifier) → IsKeyText pk_text v
    → verdict accepts pk_text sig_text message legacy ≡ Err e

-- == Verdicts ==

-- The API misuse for a state that gives no verdict: NotAsked if it was not asked or its digest was not
-- returned, and otherwise NotBegun, because it was never initialized or is finished.
abbrev pub verdict_misuse : State → Misuse
verdict_misuse s = if is_begun s then NotAsked else NotBegun

-- The result of a check as the result of a call of this crate, whose errors may also be API misuse.
abbrev pub result_of_check : Result ⊤ Fault → Result Unit (Refusal Fault)
result_of_check (Ok t) = Ok tt
result_of_check (Err e) = Err (Refused e)

-- The comment signature that the state was asked about has at least 64 bytes, so that the second check can be
-- made. Further bytes are ignored.
abbrev pub can_make_second_check : State → Bool
can_make_second_check s = s.asked.whole == 1

-- The result of `State::verdict` with the results of the two checks, and the state after the call. If the
-- state was asked and its digest was returned, the verdict follows from the results, and the state is
-- finished. Otherwise the call is API misuse, and the state is unchanged.
abbrev pub verdict_outcome : State → Bool → Bool → Result Unit (Refusal Fault) × State
verdict_outcome s first second =
    if was_asked s && (s.mark == finalized_mark)
    then (result_of_check (judge_answers first (can_make_second_check s && second)), record s { mark = 0 })
    else (Err (WrongUse (verdict_misuse s)), s)

-- The result of `State::comment_verdict` with the result of the second check: the verdict on the comment
-- signature only, or API misuse if the state was not asked or is finished.
abbrev pub comment_result : State → Bool → Result Unit (Refusal Fault)
comment_result s second =
    if was_asked s && is_begun s
    then result_of_check (require (can_make_second_check s && second) CommentSignatureRefused (Ok tt))
    else Err (WrongUse (verdict_misuse s))

-- The error is an error of the library, not API misuse, and it has the property `holds`.
abbrev pub IsFaultOf : (Fault → Type 0) → Refusal Fault → Type 0
IsFaultOf holds (WrongUse m) = ⊥
IsFaultOf holds (Refused e) = holds e

-- The result r is the verdict on the public key file, the signature file and the message: success if the
-- signature is valid, otherwise the error of the first check that fails.
abbrev pub GivesVerdict : {T : Type 0} → Verifier → List ℕ → List ℕ → List ℕ → Bool → Result T (Refusal Fault)
    → Type 0
GivesVerdict accepts pk_text sig_text message legacy r =
    MatchResult r (λ _. TextsVouchFor accepts pk_text sig_text message legacy)
    (IsFaultOf (λ e. verdict accepts pk_text sig_text message legacy ≡ Err e))

-- The verdict without the trusted comment, as the calls return it. The caller already has the comment.
abbrev pub without_trusted_comment : Result (List ℕ) Fault → Result Unit (Refusal Fault)
without_trusted_comment (Ok trusted) = Ok tt
without_trusted_comment (Err e) = Err (Refused e)

-- The state was asked about the key and the signature file, its digest was returned, and `first` and `second`
-- are the numbers for the results of both checks (`IsAnswer`) with the scheme.
pub record IsAnswered (s : State) (accepts : Verifier) (v : PublicKeyValue) (sig_text message : List ℕ)
    (legacy : Bool)
    (first second : ℕ) : Type 0 where
  pub asked : WasAskedAbout s v sig_text legacy
  pub finalized : IsMarkedFinalized s
  pub first_known : IsAnswer first
  pub second_known : IsAnswer second
  pub answers : Answers accepts v sig_text message (first == answer_yes) (second == answer_yes)

-- `first` and `second` are the numbers for the results of both checks of the public key file and the
-- signature file with the scheme.
abbrev pub AnswersTextsBy : Verifier → List ℕ → List ℕ → List ℕ → ℕ → ℕ → Type 0
AnswersTextsBy accepts pk_text sig_text message first second =
    IsAnswer first × IsAnswer second
    × AnswersTexts accepts pk_text sig_text message (first == answer_yes) (second == answer_yes)

-- == With numbers as results ==

-- The number that a call in another language returns for a result: 0 for success, otherwise the error number.
abbrev pub result_number : Result Unit (Refusal Fault) → ℕ
result_number (Ok t) = 0
result_number (Err r) = refusal_number fault_number r

-- n is the number of the verdict on the public key file, the signature file and the message: 0 if the
-- signature is valid, otherwise the error number of the first check that fails.
abbrev pub GivesNumber : Verifier → List ℕ → List ℕ → List ℕ → Bool → ℕ → Type 0
GivesNumber accepts pk_text sig_text message legacy n =
    ((n ≡ 0) × TextsVouchFor accepts pk_text sig_text message legacy)
    ⊎ ((0 < n) × (e : Fault) × (n ≡ fault_number e)
    × (verdict accepts pk_text sig_text message legacy ≡ Err e))

-- The verdict on the comment signature only as a number. It is API misuse if `second` is neither the number
-- for yes nor the number for no.
abbrev pub comment_number : State → ℕ → ℕ
comment_number s second =
    if is_answer second then result_number (comment_result s (second == answer_yes)) else
    misuse_number BadAnswer

-- The result of `State::ask` as a number. The flag that allows legacy signatures is checked first; it must be
-- 0 or 1.
abbrev pub result_number_of_asking : State → PublicKeyValue → SignatureValue → List ℕ → ℕ → ℕ → ℕ
result_number_of_asking s v signature text legacy room =
    if nat_le 2 legacy then misuse_number BadLegacyFlag else result_number
    (result_of_asking s v signature text (legacy == 1) room)

-- A verdict as a number: 0 for success, otherwise the error number of the first check that fails.
abbrev pub verdict_number : Result (List ℕ) Fault → ℕ
verdict_number (Ok trusted) = 0
verdict_number (Err e) = fault_number e

-- Replaces the result of a call by its number.
abbrev pub with_result_number : Result Unit (Refusal Fault) × State → ℕ × State
with_result_number (r, s) = (result_number r, s)

-- The number of the verdict from the numbers of the results of the two checks, and the state after the call.
-- If one of them is neither the number for yes nor the number for no, the call is API misuse, and the state
-- is unchanged.
abbrev pub verdict_outcome_number : State → ℕ → ℕ → ℕ × State
verdict_outcome_number s first second =
    if is_answer first && is_answer second
    then with_result_number (verdict_outcome s (first == answer_yes) (second == answer_yes))
    else (misuse_number BadAnswer, s)
