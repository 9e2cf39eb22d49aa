-- The two checks that the caller's signature scheme must make for a public key and a signature file, and the
-- verdict that follows from their results.
use Rattle.std.specs.Prelude.{◌≡◌, ◌≤◌, ℕ, Bool, IsTrue, nat_le, if◌then◌else◌, List, ◌++◌, length, replicate}
use Rattle.std.specs.Prelude.{take, Result, Ok}
use Rattle.minisign_base.specs.Fault.{Fault}
use Rattle.minisign_base.specs.declared.faults.NamedFault.TheVariants.{CommentSignatureRefused}
use Rattle.minisign.specs.Records.{PublicKeyRecord, SignatureRecord, CommentsRecord}
use Rattle.minisign.specs.Acceptance.{Verifier, accepts_comments, judge_answers, judge_key, signed_bytes}
use Rattle.minisign.specs.KeyTexts.{read_public_key}
use Rattle.minisign.specs.SignatureText.{SignatureTextRecord, box_of, read_signature}
use Rattle.minisign.specs.Texts.{and_then, require}
use Rattle.minisign_external.specs.PublicKeys.{key_of, read_utf8, value_of}
use Rattle.minisign_external.specs.declared.public_keys.PublicKeyValue.{PublicKeyValue}

-- == Verdicts ==

-- Parses a signature file and makes all checks that need no scheme: the file must be UTF-8 and well formed,
-- the key IDs must match, and the signature must be prehashed unless legacy ones are allowed. The result is
-- the parsed signature, or the error of the first check that fails.
abbrev pub read_under : PublicKeyValue → Bool → List ℕ → Result SignatureTextRecord Fault
read_under v legacy sig_text =
    and_then (read_utf8 read_signature sig_text) (λ t.
    and_then (judge_key v.key_id t.signature legacy) (λ _.
    Ok t))

-- The verdict on a key, a signature file and a message: the trusted comment, if the signature is valid, or
-- the error of the first check that fails.
abbrev pub verdict_under : Verifier → PublicKeyValue → List ℕ → List ℕ → Bool → Result (List ℕ) Fault
verdict_under accepts v sig_text message legacy =
    and_then (read_under v legacy sig_text) (λ t.
    and_then (judge_answers (accepts (signed_bytes (box_of t) message) v.key t.signature.signature)
    (accepts_comments accepts (key_of v) (box_of t))) (λ _.
    Ok t.comments.trusted))

-- The verdict of the second check only: the trusted comment, if the comment signature is valid for it and
-- the first signature, or the error of the first check that fails. It says nothing about the message.
abbrev pub comment_verdict_under : Verifier → PublicKeyValue → List ℕ → Bool → Result (List ℕ) Fault
comment_verdict_under accepts v sig_text legacy =
    and_then (read_under v legacy sig_text) (λ t.
    require (accepts_comments accepts (key_of v) (box_of t)) CommentSignatureRefused
    (Ok t.comments.trusted))

-- == The questions ==

-- The comment signature has at least 64 bytes, so that the second check can be made.
abbrev pub has_whole_signature : CommentsRecord → Bool
has_whole_signature c = nat_le 64 (length c.signature)

-- The comment signature in a struct: its first 64 bytes, or zeros if it has fewer.
abbrev pub comment_signature_or_zeros : CommentsRecord → List ℕ
comment_signature_or_zeros c = if has_whole_signature c then take 64 c.signature else replicate 64 0

-- The result of the first check: the scheme accepts the signature of the digest of the message, or of the
-- message itself if the signature is a legacy one.
abbrev pub AnswersFirst : Verifier → PublicKeyValue → SignatureTextRecord → List ℕ → Bool → Type 0
AnswersFirst accepts v t message first = accepts (signed_bytes (box_of t) message) v.key t.signature.signature
    ≡ first

-- The result of the second check, if it can be made: the scheme accepts the first 64 bytes of the comment
-- signature as a signature of the concatenation of the data signature and the trusted comment.
abbrev pub AnswersSecond : Verifier → PublicKeyValue → SignatureTextRecord → Bool → Type 0
AnswersSecond accepts v t second =
    IsTrue (has_whole_signature t.comments)
    → accepts (t.signature.signature ++ t.comments.trusted) v.key (take 64 t.comments.signature) ≡ second

-- `first` and `second` are the results of both checks for the key and the signature file.
pub record Answers (accepts : Verifier) (v : PublicKeyValue) (sig_text message : List ℕ)
    (first second : Bool) : Type 0 where
  pub data_signature : (t : SignatureTextRecord) → read_signature sig_text ≡ Ok t
      → AnswersFirst accepts v t message first
  pub comment_signature : (t : SignatureTextRecord) → read_signature sig_text ≡ Ok t
      → AnswersSecond accepts v t second

-- `second` is the result of the second check for the key and the signature file.
abbrev pub AnswersComment : Verifier → PublicKeyValue → List ℕ → Bool → Type 0
AnswersComment accepts v sig_text second =
    (t : SignatureTextRecord) → read_signature sig_text ≡ Ok t → AnswersSecond accepts v t second

-- The bytes begin with the message of the second check, which has this length.
pub record HoldsMessage (s : SignatureRecord) (trusted : List ℕ) (bytes : List ℕ) (len : ℕ) : Type 0 where
  pub fits : len ≤ length bytes
  pub message : take len bytes ≡ s.signature ++ trusted

-- == With a public key file ==

-- The public key file parses to the public key in the struct.
pub record IsKeyText (pk_text : List ℕ) (v : PublicKeyValue) : Type 0 where
  pub key : PublicKeyRecord
  pub read : read_public_key pk_text ≡ Ok key
  pub value_of_key : v ≡ value_of key

-- `first` and `second` are the results of both checks for the public key file and the signature file.
abbrev pub AnswersTexts : Verifier → List ℕ → List ℕ → List ℕ → Bool → Bool → Type 0
AnswersTexts accepts pk_text sig_text message first second =
    (v : PublicKeyValue) → IsKeyText pk_text v → Answers accepts v sig_text message first second
