-- The headlines of verification: what a caller of the verifying calls may rely on. docs/TRUSTED.md explains
-- the notation, such as x.now. A key or a box of the code stands for its record or its text here.
use Rattle.std.specs.Prelude.{◌≡◌, ℕ, Bool, true, List, Some, Ok, IfSome, Result, false}
use Rattle.minisign_base.specs.Fault.{Fault}
use Rattle.minisign_base.specs.DeviceCalls.{IsFlushed, IsSteady, RereaderCall, SinkFails, SinkCall}
use Rattle.minisign_base.specs.DeviceCalls.{SourceFails, SinkReceives}
use Rattle.minisign.specs.Records.{PublicKeyRecord, SignatureBoxRecord, CommentsRecord}
use Rattle.minisign.specs.Acceptance.{Verifier, Vouches, judge}
use Rattle.minisign.specs.KeyTexts.{read_public_key}
use Rattle.minisign.specs.SignatureText.{box_of, read_signature, read_signature_box}
use Rattle.minisign.specs.Texts.{IsValueOrNoMemory, and_then}
use Rattle.minisign.specs.declared.options.VerifyOptions.{VerifyOptions}
use Rattle.minisign.specs.Verifying.{ReadsTwice}

-- The verdict on two texts and a message: the trusted comment if the signature is valid, and
-- otherwise the error of the first check that fails. The public key text is parsed first, then
-- the signature text, and then the signature is checked. `legacy` is true if legacy signatures,
-- which sign the message itself, are allowed.
unfoldable pub verdict : Verifier → List ℕ → List ℕ → List ℕ → Bool → Result (List ℕ) Fault
verdict accepts pk_text sig_text message legacy =
    and_then (read_public_key pk_text) (λ key.
    and_then (read_signature sig_text) (λ signed.
    and_then (judge accepts key (box_of signed) message legacy) (λ _.
    Ok signed.comments.trusted)))

-- The texts are valid for the message: pk_text parses to a public key, and sig_text to a signature
-- box that is valid for the message under this key.
pub record TextsVouchFor (accepts : Verifier) (pk_text sig_text message : List ℕ) (legacy : Bool)
    : Type 0 where
  pub key : PublicKeyRecord
  pub box : SignatureBoxRecord
  pub key_read : read_public_key pk_text ≡ Ok key
  pub box_read : read_signature_box sig_text ≡ Ok box
  pub vouches : Vouches accepts key box message legacy

-- The texts are valid for the message, and comment is the trusted comment, which is signed with it.
pub record TextsVouchWith (accepts : Verifier) (pk_text sig_text message : List ℕ) (legacy : Bool)
    (comment : List ℕ) : Type 0 where
  pub vouched : TextsVouchFor accepts pk_text sig_text message legacy
  pub comments : CommentsRecord
  pub has_comments : vouched.box.comments ≡ Some comments
  pub trusted : comments.trusted ≡ comment

-- Provided that the data is known, that no device fails and, if the data is copied, that the source is
-- steady, the result is out of memory or what the function of_data gives for the data.
abbrev pub IfNothingFails : {R W O V : Type 0} → Bool → RereaderCall R → SinkCall W → SinkCall O
    → Result V Fault → (List ℕ → Result V Fault) → Type 0
IfNothingFails output reader status out answer of_data =
    (message : List ℕ) → reader.source.ahead reader.old ≡ Some message
    → ¬ (SourceFails reader) → ¬ (SinkFails status) → ¬ (SinkFails out)
    → (output ≡ true → IsSteady reader) → IsValueOrNoMemory answer (of_data message)

-- IfNothingFails for the verdict on two texts, with these options.
abbrev pub IsVerdictIfNothingFails : {R W O : Type 0} → Verifier → List ℕ → List ℕ → VerifyOptions
    → RereaderCall R → SinkCall W → SinkCall O → Result (List ℕ) Fault → Type 0
IsVerdictIfNothingFails accepts pk_text sig_text options reader status out answer =
    IfNothingFails options.output reader status out answer
    (λ message. verdict accepts pk_text sig_text message options.allow_legacy)

-- The texts are valid for the bytes that the output received and flushed, as far as these are
-- known.
pub record CopyIsVouchedFor {O : Type 0} (accepts : Verifier) (pk_text sig_text : List ℕ) (legacy : Bool)
    (out : SinkCall O) : Type 0 where
  pub copy : List ℕ
  pub copy_received : SinkReceives out copy
  pub flushed : IsFlushed out
  pub vouched : TextsVouchFor accepts pk_text sig_text copy legacy

-- The texts are valid, with this trusted comment, for the bytes that the output received and
-- flushed. These bytes come from a second reading, and have the digest of the first. If the source
-- is steady and its bytes are known, they are the bytes that were unread before the call.
pub record CopyIsVouchedWith {R O : Type 0} (accepts : Verifier) (pk_text sig_text : List ℕ)
    (reader : RereaderCall R)
    (out : SinkCall O) (comment : List ℕ) : Type 0 where
  pub copy : List ℕ
  pub copy_received : SinkReceives out copy
  pub flushed : IsFlushed out
  pub vouched : TextsVouchWith accepts pk_text sig_text copy false comment
  pub message : List ℕ
  pub read_twice : ReadsTwice reader out message copy
  pub copy_is_data : IsSteady reader → IfSome (reader.source.ahead reader.old) (λ xs. copy ≡ xs)
