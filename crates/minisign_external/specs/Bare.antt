-- Verifying with a bare signature, which is one without comments. The call that asks the state about a key
-- and a bare signature returns the inputs of the only Ed25519 check (the question). The caller's signature
-- scheme makes this check, and a second call returns the verdict from its result.
use Rattle.std.specs.Prelude.{◌≡◌, ⊤, ◌==◌, ◌&&◌, nat_le, ℕ, Bool, true, if◌then◌else◌, List, replicate}
use Rattle.std.specs.Prelude.{None, Result, Ok, Err}
use Rattle.minisign_base.specs.Fault.{Fault}
use Rattle.minisign.specs.Records.{SignatureRecord, SignatureBoxRecord}
use Rattle.minisign.specs.Acceptance.{Verifier, judge, judge_answers, judge_key, signed_bytes}
use Rattle.minisign_external.specs.Numbers.{answer_yes, fault_number, is_answer, misuse_number}
use Rattle.minisign_external.specs.PublicKeys.{key_of}
use Rattle.minisign_external.specs.Signatures.{signature_of_value}
use Rattle.minisign_external.specs.States.{asking_misuse, bare_asked_mark, result_of_check, was_asked_bare}
use Rattle.minisign_external.specs.States.{after_key_check, can_be_asked, with_result_number, finalized_mark}
use Rattle.minisign_external.specs.States.{verdict_misuse, with_public_key}
use Rattle.minisign_external.specs.StrictCalls.{asked_number, asked_strictly}
use Rattle.minisign_external.specs.StrictEd25519.{is_strict}
use Rattle.minisign_external.specs.ValueRecords.{has_signature}
use Rattle.minisign_external.specs.declared.public_keys.PublicKeyValue.{PublicKeyValue}
use Rattle.minisign_external.specs.declared.signatures.SignatureValue.{SignatureValue}
use Rattle.minisign_external.specs.declared.state.Misuse.TheVariants.{BadAnswer, BadLegacyFlag}
use Rattle.minisign_external.specs.declared.state.Misuse.TheVariants.{SignatureNotRead}
use Rattle.minisign_external.specs.declared.state.Refusal.{Refusal}
use Rattle.minisign_external.specs.declared.state.Refusal.TheVariants.{WrongUse}
use Rattle.minisign_external.specs.declared.state.State.{State}
use Rattle.minisign_external.specs.declared.state.Questions.{Questions}

-- == Verdicts ==

-- The signature box of a bare signature.
abbrev pub bare_box : SignatureRecord → SignatureBoxRecord
bare_box s = record { signature = s; comments = None }

-- The verdict on a key, a bare signature and a message: success if the signature is valid, or the error of
-- the first check that fails.
abbrev pub bare_verdict_under : Verifier → PublicKeyValue → SignatureRecord → List ℕ → Bool → Result ⊤ Fault
bare_verdict_under accepts v s message legacy = judge accepts (key_of v) (bare_box s) message legacy

-- The result of the check: the scheme accepts the signature of the digest of the message, or of the message
-- itself if the signature is a legacy one.
abbrev pub AnswersBare : Verifier → PublicKeyValue → SignatureRecord → List ℕ → Bool → Type 0
AnswersBare accepts v s message first = accepts (signed_bytes (bare_box s) message) v.key s.signature ≡ first

-- == Asking ==

-- The inputs of the check for the key and the signature in a struct, with zeros in place of the digest. The
-- fields about the comment are 0.
abbrev pub bare_question : PublicKeyValue → SignatureValue → Questions
bare_question v s = record {
  public_key = v.key;
  digest = replicate 64 0;
  signature = s.signature;
  comment_signature = replicate 64 0;
  message_len = 0;
  comment_offset = 0;
  comment_len = 0;
  legacy = s.legacy;
  reserved = 0;
}

-- The state after a successful call of `ask_bare`, which only sets the field `asked`.
abbrev pub state_after_asking_bare : State → State
state_after_asking_bare s = record s { asked = record { mark = bare_asked_mark; whole = 0 } }

-- Fails if no signature was read into the struct. Otherwise, the result is `more`.
abbrev pub with_signature : SignatureValue → Result Unit (Refusal Fault) → Result Unit (Refusal Fault)
with_signature s more = if has_signature s then more else Err (WrongUse SignatureNotRead)

-- The result of the checks that asking makes, without the checks of the state and the check for weak keys and
-- signatures. The errors are, in this order: the public key was not read; the signature was not read; those
-- of checking the signature under the key.
abbrev pub check_ask_bare_arguments : PublicKeyValue → SignatureValue → Bool → Result Unit (Refusal Fault)
check_ask_bare_arguments v s legacy = with_public_key v (with_signature s
    (after_key_check (judge_key v.key_id (signature_of_value s) legacy) (Ok tt)))

-- The result of asking: API misuse if the state cannot be asked, or else an error of
-- `check_ask_bare_arguments`, or else false if the key or the signature is weak, otherwise true.
abbrev pub result_of_asking_bare : State → PublicKeyValue → SignatureValue → Bool
    → Result Bool (Refusal Fault)
result_of_asking_bare state v s legacy = asked_strictly (is_strict v.key s.signature)
    (if can_be_asked state then check_ask_bare_arguments v s legacy else Err (WrongUse (asking_misuse state)))

-- The result of asking, the state and the questions afterwards. They are unchanged unless the result is true.
abbrev pub bare_asking_outcome : Result Bool (Refusal Fault) → PublicKeyValue → SignatureValue → State
    → Questions
    → Result Bool (Refusal Fault) × State × Questions
bare_asking_outcome (Ok true) v s state q = (Ok true, state_after_asking_bare state, bare_question v s)
bare_asking_outcome r v s state q = (r, state, q)

-- The state was asked about this key and this signature, which has passed the checks that need no scheme.
pub record WasAskedAboutBare (state : State) (v : PublicKeyValue) (s : SignatureRecord) (legacy : Bool)
    : Type 0 where
  pub asked : state.asked.mark ≡ bare_asked_mark
  pub judged : judge_key v.key_id s legacy ≡ Ok tt

-- The verdict from the result of the check, and the state after it. If the state was asked about a bare
-- signature and its digest was returned, the result decides, and the state is finished. Otherwise the call is
-- API misuse, and the state is unchanged.
abbrev pub bare_verdict_outcome : State → Bool → Result Unit (Refusal Fault) × State
bare_verdict_outcome s first =
    if was_asked_bare s && (s.mark == finalized_mark)
    then (result_of_check (judge_answers first true), record s { mark = 0 })
    else (Err (WrongUse (verdict_misuse s)), s)

-- == With numbers as results ==

-- Replaces the result of asking by its number: 0 for success, otherwise the error number.
abbrev pub numbered_asking : Result Bool (Refusal Fault) × State × Questions → ℕ × State × Questions
numbered_asking (r, s, q) = (asked_number r, s, q)

-- The outcome of asking for other languages: 0 or the error number, and the state and the questions
-- afterwards. The flag that allows legacy signatures is checked first; it must be 0 or 1.
abbrev pub bare_asking_outcome_number : State → PublicKeyValue → SignatureValue → ℕ → Questions
    → ℕ × State × Questions
bare_asking_outcome_number state v s legacy q =
    if nat_le 2 legacy then (misuse_number BadLegacyFlag, state, q) else
    numbered_asking (bare_asking_outcome (result_of_asking_bare state v s (legacy == 1)) v s state q)

-- The number of the verdict from the result of the check, and the state after it. If the result is neither
-- the number for yes nor the number for no, the error is API misuse, and the state is unchanged.
abbrev pub bare_verdict_outcome_number : State → ℕ → ℕ × State
bare_verdict_outcome_number s first =
    if is_answer first then with_result_number (bare_verdict_outcome s (first == answer_yes)) else
    (misuse_number BadAnswer, s)

-- The number of a verdict: 0 for success, otherwise the error number of the first check that fails.
abbrev pub judged_number : Result ⊤ Fault → ℕ
judged_number (Ok t) = 0
judged_number (Err e) = fault_number e
