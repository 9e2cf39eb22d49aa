-- The two messages that the caller's scheme must sign, and the signature file that is made from the two
-- signatures.
use Rattle.std.specs.Prelude.{◌≡◌, ◌⊎◌, ◌<◌, ◌≤◌, ℕ, true, false, List, ◌++◌, length, take, None, Some, Ok}
use Rattle.std.specs.Prelude.{Option, drop}
use Rattle.std.specs.Str.{IsUtf8}
use Rattle.std.specs.Str.Iter.{LacksByte}
use Rattle.minisign_hash.specs.Blake2b.{blake2b_digest}
use Rattle.std.specs.List.{flat_map}
use denote.Ref.{Bor}
use Rattle.minisign_base.specs.Fault.{Fault, Named}
use Rattle.minisign_base.specs.Members.{SchemeOf}
use Rattle.minisign_base.specs.Scheme.{IsBytes}
use Rattle.minisign_base.specs.declared.faults.NamedFault.TheVariants.{OutOfMemory, NotUtf8}
use Rattle.minisign.specs.Records.{CommentsRecord, SecretKeyRecord, SignatureRecord, SignatureBoxRecord}
use Rattle.minisign.specs.Records.{prehashed_algorithm}
use Rattle.minisign.specs.Acceptance.{Verifier, VouchesUnderEachKey}
use Rattle.minisign.specs.Signing.{SigningHeadline, AreChosenReadBack, ChosenComments, IsGenuine, Signer}
use Rattle.minisign.specs.Signing.{signed_box}
pub use Rattle.minisign.specs.Signing.{comments_of}
use Rattle.minisign.specs.SignatureText.{read_signature_box, signature_text}
use Rattle.minisign_external.specs.Numbers.{fault_number, refusal_number}
use Rattle.minisign_external.specs.Questions.{verdict_under}
use Rattle.minisign_external.specs.PublicKeys.{is_public_key, public_mark}
use Rattle.minisign_external.specs.SecretKeys.{IsTextOpeningRefusal, is_opened, opened_text, public_value_of}
use Rattle.minisign_external.specs.SecretKeys.{opened_key_value}
use Rattle.minisign_external.specs.declared.public_keys.PublicKeyValue.{PublicKeyValue}
use Rattle.minisign_external.specs.declared.secrets.SecretKeyValue.{SecretKeyValue}
use Rattle.minisign_external.specs.declared.state.Misuse.{Misuse}
use Rattle.minisign_external.specs.declared.state.Misuse.TheVariants.{BadComment, KeyNotOpened, NoRoom}
use Rattle.minisign_external.specs.declared.state.Misuse.TheVariants.{PublicKeyNotRead}
use Rattle.minisign_external.specs.declared.state.Misuse.TheVariants.{UnreadableComment}
use Rattle.minisign_external.specs.declared.state.Refusal.{Refusal}
use Rattle.minisign_external.specs.declared.state.Refusal.TheVariants.{WrongUse, Refused}

-- The signature of the data, as the caller's scheme made it, with the key ID.
abbrev pub signature_with_key_id : List ℕ → List ℕ → SignatureRecord
signature_with_key_id key_id first =
    record { algorithm = prehashed_algorithm; keynum = key_id; signature = first }

-- The comments, with the signature that the caller's scheme made of the trusted comment.
abbrev pub comments_with_signature : ChosenComments → List ℕ → CommentsRecord
comments_with_signature chosen second =
    record { untrusted = chosen.untrusted; trusted = chosen.trusted; signature = second }

-- The signature box that consists of the signature of the data and the comments.
abbrev pub box_of_signatures : List ℕ → ChosenComments → List ℕ → List ℕ → SignatureBoxRecord
box_of_signatures key_id chosen first second =
    record {
      signature = signature_with_key_id key_id first;
      comments = Some (comments_with_signature chosen second);
    }

-- The scheme makes these two signatures with the key's secret and the random bytes z1 and z2: the first one
-- of the digest of the message, and the second one of the concatenation of the first signature and the
-- trusted comment.
pub record SchemeMakesSignatures (sign : Signer) (key : SecretKeyRecord)
    (message trusted z1 z2 first second : List ℕ)
    : Type 0 where
  pub data_signature : sign (blake2b_digest 64 message) key.secret (Some z1) ≡ first
  pub comment_signature : sign (first ++ trusted) key.secret (Some z2) ≡ second

-- Under this public key (32 bytes), the scheme accepts `first` as a signature of the digest of the message,
-- and `second` as a signature of the concatenation of `first` and the trusted comment.
pub record AcceptsSignatures (accepts : Verifier)
    (public message trusted first second : List ℕ) : Type 0 where
  pub data_signature : accepts (blake2b_digest 64 message) public first ≡ true
  pub comment_signature : accepts (first ++ trusted) public second ≡ true

-- The data signature that a scheme makes with a secret of 64 bytes and without random bytes: that of the
-- digest of the message.
abbrev pub first_signature : Signer → List ℕ → List ℕ → List ℕ
first_signature sign secret message = sign (blake2b_digest 64 message) secret None

-- The comment signature that a scheme makes in the same way: that of the concatenation of the data signature
-- and the trusted comment.
abbrev pub second_signature : Signer → List ℕ → List ℕ → List ℕ → List ℕ
second_signature sign secret message trusted = sign (first_signature sign secret message ++ trusted) secret
    None

-- The secret of the key consists of a seed and the seed's public key.
pub record IsPairOf (public_of : List ℕ → List ℕ) (seed : List ℕ) (v : SecretKeyValue) : Type 0 where
  pub seed_length : length seed ≡ 32
  pub seed_bytes : IsBytes seed
  pub secret : v.secret ≡ seed ++ public_of seed

-- The text is the signature file of the two signatures: it is UTF-8 and parses to their box.
--
-- The field `signed`: if these are the two signatures that a scheme makes with a key for a message, the text
-- parses to the box that the library makes when it signs the message with this key and scheme. The field
-- `vouched`: if a scheme accepts the two signatures for a message under a public key, the text parses to a
-- box that is a valid signature of the message under this public key. The field `headline`: therefore
-- SigningHeadline, the promise on the files that the library signs itself, holds for this file too.
pub record IsSignatureFileOf (key_id : List ℕ) (chosen : ChosenComments) (first second text : List ℕ)
    : Type 0 where
  pub written : text ≡ signature_text (signature_with_key_id key_id first)
      (comments_with_signature chosen second)
  pub utf8 : IsUtf8 text
  pub read_back : read_signature_box text ≡ Ok (box_of_signatures key_id chosen first second)
  pub signed : (sign : Signer) (key : SecretKeyRecord) (message z1 z2 : List ℕ) → key_id ≡ key.keynum
      → SchemeMakesSignatures sign key message chosen.trusted z1 z2 first second
      → read_signature_box text ≡ Ok (signed_box sign key message chosen z1 z2)
  pub vouched : (accepts : Verifier) (public message : List ℕ)
      → AcceptsSignatures accepts public message chosen.trusted first second
      → (x : SignatureBoxRecord) × (read_signature_box text ≡ Ok x)
      × VouchesUnderEachKey accepts public key_id message x
  pub headline : (accepts : Verifier) (public_of : List ℕ → List ℕ) (key : SecretKeyRecord) (message : List ℕ)
      → key_id ≡ key.keynum
      → ((seed : List ℕ) → IsGenuine public_of key seed
      → AcceptsSignatures accepts (public_of seed) message chosen.trusted first second)
      → SigningHeadline accepts public_of key message chosen text

-- Minisign 0.11 reads the comments back unchanged, provided that they have no line feeds (AreChosenReadBack).
-- Each line fits its buffer, which has 1,024 bytes for the untrusted comment and 8,192 for the trusted one.
-- The buffer also holds a label of 19 or 17 bytes, the line feed and a final zero. No line is cut at a zero
-- byte (0) or a carriage return (13).
pub record AreReadByMinisign (chosen : ChosenComments) : Type 0 where
  pub untrusted_fits : length chosen.untrusted < 1004
  pub trusted_fits : length chosen.trusted < 8174
  pub untrusted_zero : LacksByte 0 chosen.untrusted
  pub trusted_zero : LacksByte 0 chosen.trusted
  pub untrusted_return : LacksByte 13 chosen.untrusted
  pub trusted_return : LacksByte 13 chosen.trusted

-- The API misuse for comments that are rejected: BadComment if this library would not read them back
-- unchanged, or else UnreadableComment if Minisign 0.11 would not.
abbrev pub IsCommentMisuse : ChosenComments → Misuse → Type 0
IsCommentMisuse chosen m =
    ((m ≡ BadComment) × ¬ (AreChosenReadBack chosen))
    ⊎ ((m ≡ UnreadableComment) × AreChosenReadBack chosen × ¬ (AreReadByMinisign chosen))

-- Both comments are UTF-8.
abbrev pub AreUtf8 : ChosenComments → Type 0
AreUtf8 chosen = IsUtf8 chosen.trusted × IsUtf8 chosen.untrusted

-- The first len bytes of the buffer are the signature file of the two signatures.
pub record HoldsSignatureFile (key_id : List ℕ) (chosen : ChosenComments) (first second bytes : List ℕ)
    (len : ℕ)
    : Type 0 where
  pub fits : len ≤ length bytes
  pub text : IsSignatureFileOf key_id chosen first second (take len bytes)

-- The buffer is too short for the signature file.
abbrev pub BufferIsTooSmall : List ℕ → ChosenComments → List ℕ → List ℕ → List ℕ → Type 0
BufferIsTooSmall key_id chosen first second bytes =
    length bytes < length (signature_text (signature_with_key_id key_id first)
    (comments_with_signature chosen second))

-- The error if no signature file is written, which is the first one that applies: the public key was not
-- read; a comment is not UTF-8; a comment is rejected; the buffer is too short. Out of memory is possible
-- only if no comment is rejected.
abbrev pub IsWritingRefusal : PublicKeyValue → ChosenComments → List ℕ → List ℕ → List ℕ → Refusal Fault
    → Type 0
IsWritingRefusal v chosen first second bytes (WrongUse m) =
    ((m ≡ PublicKeyNotRead) × (is_public_key v ≡ false))
    ⊎ ((is_public_key v ≡ true) × AreUtf8 chosen × IsCommentMisuse chosen m)
    ⊎ ((m ≡ NoRoom) × (is_public_key v ≡ true) × AreUtf8 chosen × AreChosenReadBack chosen
    × AreReadByMinisign chosen
    × BufferIsTooSmall v.key_id chosen first second bytes)
IsWritingRefusal v chosen first second bytes (Refused e) =
    (is_public_key v ≡ true)
    × (((e ≡ Named OutOfMemory) × AreUtf8 chosen × AreChosenReadBack chosen × AreReadByMinisign chosen)
    ⊎ ((e ≡ Named NotUtf8) × ¬ (AreUtf8 chosen)))

-- n is the number of an error of IsWritingRefusal.
abbrev pub IsWritingNumber : PublicKeyValue → ChosenComments → List ℕ → List ℕ → List ℕ → ℕ → Type 0
IsWritingNumber v chosen first second bytes n =
    (r : Refusal Fault) × (n ≡ refusal_number fault_number r) × IsWritingRefusal v chosen first second bytes r

-- == Signing data in pieces ==

-- The concatenated pieces.
abbrev pub joined : List (Bor (List ℕ)) → List ℕ
joined pieces = flat_map (λ piece. piece.now) pieces

-- The first len bytes of the buffer are the signature file of the message that the library makes itself, with
-- an open key: it calls the scheme for both signatures.
abbrev pub HoldsSignedFile : {S : Type 0} → SchemeOf S → S → SecretKeyValue → ChosenComments → List ℕ → List ℕ
    → ℕ
    → Type 0
HoldsSignedFile s scheme v chosen message bytes len = (is_opened v ≡ true)
    × HoldsSignatureFile v.key_id chosen (first_signature (s.signature_of scheme) v.secret message)
    (second_signature (s.signature_of scheme) v.secret message chosen.trusted) bytes len

-- The error if the signature file of HoldsSignedFile is not written: the key is not open, or else an error of
-- IsWritingRefusal for its public key.
abbrev pub IsSigningRefusal : {S : Type 0} → SchemeOf S → S → SecretKeyValue → ChosenComments → List ℕ
    → List ℕ
    → Refusal Fault → Type 0
IsSigningRefusal s scheme v chosen message bytes r =
    ((r ≡ WrongUse KeyNotOpened) × (is_opened v ≡ false))
    ⊎ ((w : PublicKeyValue) × (public_value_of v ≡ Ok w)
    × IsWritingRefusal w chosen (first_signature (s.signature_of scheme) v.secret message)
    (second_signature (s.signature_of scheme) v.secret message chosen.trusted) bytes r)

-- The error if no signature file is written with the key of a secret key file: an error of opening this key,
-- or else an error of IsSigningRefusal.
abbrev pub IsTextSigningRefusal : {S : Type 0} → SchemeOf S → S → List ℕ → Option (List ℕ) → ℕ
    → ChosenComments → List ℕ → List ℕ → Refusal Fault → Type 0
IsTextSigningRefusal s scheme text password most_rows chosen message bytes r =
    IsTextOpeningRefusal text password most_rows r
    ⊎ ((k : SecretKeyRecord) × (opened_text text password most_rows ≡ Ok k)
    × IsSigningRefusal s scheme (opened_key_value k.keynum k.secret) chosen message bytes r)

-- If the key consists of a seed and the seed's public key, the verdict on the signature file and the message
-- under this public key is the trusted comment.
abbrev pub SignedFileVerifies : {S : Type 0} → SchemeOf S → S → SecretKeyRecord → List ℕ → List ℕ → List ℕ
    → Type 0
SignedFileVerifies s scheme k message trusted text = (seed : List ℕ)
    → IsPairOf (s.public_of scheme) seed (opened_key_value k.keynum k.secret)
    → verdict_under (s.accepts scheme)
    (record { mark = public_mark; key = drop 32 k.secret; key_id = k.keynum }) text message false
    ≡ Ok trusted
