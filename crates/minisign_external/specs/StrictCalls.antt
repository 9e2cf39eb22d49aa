-- Weak public keys and signatures: those that strict Ed25519 rejects whatever the message is. The calls for
-- other languages report them with an error number that no other error has. So the verdicts of these calls
-- are those of a scheme that also rejects weak keys and signatures.
use Rattle.std.specs.Prelude.{◌≡◌, ◌==◌, ◌&&◌, ◌||◌, not, nat_le, ℕ, Bool, true, false, if◌then◌else◌, List}
use Rattle.std.specs.Prelude.{take, Result, Ok, Err}
use Rattle.minisign_base.specs.Fault.{Fault}
use Rattle.minisign_base.specs.Members.{SchemeOf}
use Rattle.minisign.specs.Acceptance.{Verifier}
use Rattle.minisign.specs.Records.{PublicKeyRecord, SecretKeyRecord}
use Rattle.minisign.specs.SignatureText.{SignatureTextRecord}
use Rattle.minisign_external.specs.Numbers.{fault_number, misuse_number, refusal_number, weak_number}
use Rattle.minisign_external.specs.Questions.{has_whole_signature, read_under, verdict_under}
use Rattle.minisign_external.specs.SecretKeys.{public_value_of, opened_key_value}
use Rattle.minisign_external.specs.Signing.{IsPairOf, first_signature, second_signature}
use Rattle.minisign_external.specs.States.{result_of_asking, verdict_number}
use Rattle.minisign_external.specs.StrictEd25519.{is_strict, is_strict_signature}
use Rattle.minisign_external.specs.declared.public_keys.PublicKeyValue.{PublicKeyValue}
use Rattle.minisign_external.specs.declared.secrets.SecretKeyValue.{SecretKeyValue}
use Rattle.minisign_external.specs.declared.signatures.SignatureValue.{SignatureValue}
use Rattle.minisign_external.specs.declared.state.Misuse.TheVariants.{BadLegacyFlag}
use Rattle.minisign_external.specs.declared.state.Refusal.{Refusal}
use Rattle.minisign_external.specs.declared.state.State.{State}

-- The scheme that accepts what the given scheme accepts, except under weak public keys and with weak
-- signatures.
abbrev pub strict : Verifier → Verifier
strict accepts message key signature = is_strict key signature && accepts message key signature

-- Neither the key nor a signature of the file is weak. The comment signature is only tested if it has at
-- least 64 bytes.
abbrev pub is_strict_text : PublicKeyValue → SignatureTextRecord → Bool
is_strict_text v t =
    is_strict v.key t.signature.signature
    && (not (has_whole_signature t.comments) || is_strict_signature (take 64 t.comments.signature))

-- Neither the key nor a signature in the struct is weak.
abbrev pub is_strict_value : PublicKeyValue → SignatureValue → Bool
is_strict_value v s =
    is_strict v.key s.signature && (not (s.whole == 1) || is_strict_signature s.comment_signature)

-- The result of `State::ask_strictly`, from the result of `State::ask` and the flag is_strict, which is false
-- if the key or a signature is weak: the error of `ask` if there is one, otherwise the flag.
abbrev pub asked_strictly : Bool → Result Unit (Refusal Fault) → Result Bool (Refusal Fault)
asked_strictly is_strict (Ok t) = Ok is_strict
asked_strictly is_strict (Err r) = Err r

-- == With numbers as results ==

-- The result of `ask_strictly` as a number: 0 for true, the number of the error for a weak key or signature
-- for false, or the number of the error.
abbrev pub asked_number : Result Bool (Refusal Fault) → ℕ
asked_number (Ok is_strict) = if is_strict then 0 else weak_number
asked_number (Err r) = refusal_number fault_number r

-- The result of `minisign_ask` for a buffer of `room` bytes: the result of `ask_strictly` as a number. The
-- flag that allows legacy signatures is checked first; it must be 0 or 1.
abbrev pub strict_asking_number : State → PublicKeyValue → SignatureValue → List ℕ → ℕ → ℕ → ℕ
strict_asking_number s v signature text legacy room =
    if nat_le 2 legacy then misuse_number BadLegacyFlag else
    asked_number (asked_strictly (is_strict_value v signature) (result_of_asking s v signature text
    (legacy == 1)
    room))

-- The number n of a verdict, or, if the signature file was parsed and the key or a signature is weak, the
-- number of the error for a weak key or signature.
abbrev pub strict_read : PublicKeyValue → Result SignatureTextRecord Fault → ℕ → ℕ
strict_read v (Ok t) n = if is_strict_text v t then n else weak_number
strict_read v (Err e) n = n

-- The number of the verdict of the scheme that also rejects weak public keys and signatures: 0 if the
-- signature is valid, otherwise the error number of the first check that fails. One of these checks is that
-- neither the key nor a signature is weak; its error has a number that no other error has.
abbrev pub strict_verdict_number : Verifier → PublicKeyValue → List ℕ → List ℕ → Bool → ℕ
strict_verdict_number accepts v sig_text message legacy =
    strict_read v (read_under v legacy sig_text)
    (verdict_number (verdict_under (strict accepts) v sig_text message legacy))

-- Applies the function to the public key if it was read, otherwise returns the number of the error.
abbrev pub number_with_key : Result PublicKeyRecord Fault → (PublicKeyRecord → ℕ) → ℕ
number_with_key (Ok k) more = more k
number_with_key (Err e) more = fault_number e

-- == Signing ==

-- Neither the public key of a seed nor the two signatures that a scheme makes with a key are weak: the
-- signature of the digest of a message, and the signature of the concatenation of the first signature and a
-- trusted comment.
abbrev pub SignsStrictly : {S : Type 0} → SchemeOf S → S → List ℕ → SecretKeyValue → List ℕ → List ℕ → Type 0
SignsStrictly s scheme seed v message trusted =
    (is_strict (s.public_of scheme seed) (first_signature (s.signature_of scheme) v.secret message) ≡ true)
    × (is_strict (s.public_of scheme seed) (second_signature (s.signature_of scheme) v.secret message trusted)
    ≡ true)

-- If the key consists of a seed and the seed's public key, and neither that public key nor the signatures are
-- weak, the verdict on the signature file and the message under that public key is the trusted comment, for
-- the scheme that also rejects weak public keys and signatures.
abbrev pub VerifiesStrictly : {S : Type 0} → SchemeOf S → S → SecretKeyValue → List ℕ → List ℕ → List ℕ
    → Type 0
VerifiesStrictly s scheme v message trusted text =
    (seed : List ℕ) (w : PublicKeyValue) → IsPairOf (s.public_of scheme) seed v → public_value_of v ≡ Ok w
    → SignsStrictly s scheme seed v message trusted
    → verdict_under (strict (s.accepts scheme)) w text message false ≡ Ok trusted

-- `VerifiesStrictly` for the key ID and the secret of a secret key record.
abbrev pub VerifiesStrictlyForRecord : {S : Type 0} → SchemeOf S → S → SecretKeyRecord → List ℕ → List ℕ
    → List ℕ
    → Type 0
VerifiesStrictlyForRecord s scheme k message trusted text =
    VerifiesStrictly s scheme (opened_key_value k.keynum k.secret) message trusted text
