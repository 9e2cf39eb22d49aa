-- Signing: the signature box that is made, its text, and signing with the text of a secret key.
use Rattle.std.specs.Prelude.{◌≡◌, ℕ, true, false, List, ◌++◌, length, Option, Some, ◌⊎◌, IsSomeAnd, codes}
use Rattle.std.specs.Prelude.{option_copied, unwrap_or, decimal, None, Result, Ok, Err}
use Rattle.std.specs.Io.KnownBytes.{Consumes}
use Rattle.minisign_hash.specs.Blake2b.{blake2b_digest}
use Rattle.minisign_base.specs.DeviceCalls.{RandomCall, SourceCall, PromptCall}
use Rattle.minisign_base.specs.Fault.{Fault, Named}
use Rattle.minisign_base.specs.Members.{SchemeOf}
use Rattle.minisign_base.specs.Scheme.{IsBytes, AreRandomBytes}
use denote.Ref.{Bor}
use Rattle.minisign.specs.Records.{PublicKeyRecord, SecretKeyRecord, SignatureBoxRecord, prehashed_signature}
use Rattle.minisign.specs.Records.{CommentsRecord}
use Rattle.minisign.specs.Acceptance.{VouchesUnderEachKey, accepts_comments, Verifier}
use Rattle.minisign.specs.Reading.{HasFailed, ReadsWhole, KnownBytesAre}
use Rattle.minisign.specs.Sealing.{is_encrypted, IsOpening, is_sealed_text, key_with_password}
use Rattle.minisign.specs.Sealing.{read_unencrypted_key}
use Rattle.minisign.specs.SignatureText.{AreOneLine, AreReadBack, box_of, read_signature_box, with_comments}
use Rattle.minisign.specs.SignatureText.{signature_text}
use Rattle.minisign_base.specs.declared.faults.NamedFault.TheVariants as named

-- A signature scheme's signing function. The arguments are the message, the 64 secret bytes, and 64
-- random bytes or none.
abbrev pub Signer : Type 0
Signer = List ℕ → List ℕ → Option (List ℕ) → List ℕ

unfoldable pub default_untrusted_comment : List ℕ
default_untrusted_comment = codes "signature from rsign secret key"

-- The default trusted comment: "timestamp:" and the time in decimal.
unfoldable pub default_trusted_comment : ℕ → List ℕ
default_trusted_comment unix_time = codes "timestamp:" ++ decimal unix_time

-- The trusted and the untrusted comment of a signature box.
pub record ChosenComments : Type 0 where
  pub trusted : List ℕ
  pub untrusted : List ℕ

-- These two comments as a record.
abbrev pub comments_of : List ℕ → List ℕ → ChosenComments
comments_of trusted untrusted = record { trusted = trusted; untrusted = untrusted }

-- The comments that the caller gives, or else the defaults.
abbrev pub given_comments : Option (Bor (List ℕ)) → Option (Bor (List ℕ)) → ℕ → ChosenComments
given_comments trusted untrusted unix_time = comments_of
    (unwrap_or (option_copied trusted) (default_trusted_comment unix_time))
    (unwrap_or (option_copied untrusted) default_untrusted_comment)

-- The signature box that signing makes: a signature of the message's digest with the random bytes
-- z1, and a signature of that signature followed by the trusted comment with the random bytes z2.
abbrev pub signed_box : Signer → SecretKeyRecord → List ℕ → ChosenComments → List ℕ → List ℕ
    → SignatureBoxRecord
signed_box sign sk message chosen z1 z2 =
    let signature = sign (blake2b_digest 64 message) sk.secret (Some z1) in
    box_of (with_comments (prehashed_signature sk.keynum signature) chosen.untrusted chosen.trusted
    (sign (signature ++ chosen.trusted) sk.secret (Some z2)))

module _ {Z : Type 0} (z : RandomCall Z) where
  -- These bytes were taken from the random source, as far as its bytes are known.
  abbrev pub HasDrawn : List ℕ → Type 0
  HasDrawn bytes = Consumes (z.random.random_ahead z.old) (z.random.random_ahead z.new) bytes

  -- The random source did not fail.
  abbrev pub RandomHasNoNewFault : Type 0
  RandomHasNoNewFault = z.random.random_faults z.new ≡ z.random.random_faults z.old

-- The signature box that signing makes with the next 128 bytes of the random source, 64 for each of
-- the two signatures.
pub record IsSigned {Z : Type 0} (sign : Signer) (sk : SecretKeyRecord) (message : List ℕ)
    (chosen : ChosenComments)
    (z : RandomCall Z) (x : SignatureBoxRecord) : Type 0 where
  pub first : List ℕ
  pub second : List ℕ
  pub first_random : AreRandomBytes (Some first)
  pub second_random : AreRandomBytes (Some second)
  pub drawn : HasDrawn z (first ++ second)
  pub box : x ≡ signed_box sign sk message chosen first second

-- The key is genuine: it is decrypted, and its secret bytes are a seed of 32 bytes and the seed's
-- public key.
pub record IsGenuine (public_of : List ℕ → List ℕ) (sk : SecretKeyRecord) (seed : List ℕ) : Type 0 where
  pub seed_length : length seed ≡ 32
  pub seed_bytes : IsBytes seed
  pub secret : sk.secret ≡ seed ++ public_of seed
  pub opened : is_encrypted sk ≡ false

-- The comments are read back exactly as they were written.
abbrev pub AreChosenReadBack : ChosenComments → Type 0
AreChosenReadBack chosen = AreReadBack chosen.untrusted chosen.trusted

-- Signing with a decrypted key fails: an allocation fails, and neither source does; the data source
-- fails, with no random bytes taken; or the random source fails, after all the data was read.
abbrev pub OpenedSigningFails : {R Z : Type 0} → SourceCall R → RandomCall Z → Fault → Type 0
OpenedSigningFails r z e =
    (((e ≡ Named named.OutOfMemory) × RandomHasNoNewFault z)
    × (r.source.faults r.new ≡ r.source.faults r.old))
    ⊎ (HasFailed named.ReadingFailed r.source.faults r.old r.new e × (z.new ≡ z.old))
    ⊎ ((message : List ℕ) × ReadsWhole r.source r.old r.new message
    × HasFailed named.RandomSourceFailed z.random.random_faults z.old z.new e)

-- Signing fails: the key is encrypted, with nothing read from either source; signing with the
-- decrypted key fails; or the given public key does not accept the comment signature of the box
-- that was made.
abbrev pub SigningFails : {S R Z : Type 0} → SchemeOf S → S → Option PublicKeyRecord → SecretKeyRecord
    → ChosenComments → SourceCall R → RandomCall Z → Fault → Type 0
SigningFails s scheme pk sk chosen r z e =
    (((e ≡ Named named.EncryptedKeyRefused) × (is_encrypted sk ≡ true) × (r.new ≡ r.old) × (z.new ≡ z.old))
    ⊎ ((is_encrypted sk ≡ false) × OpenedSigningFails r z e))
    ⊎ IsSomeAnd pk (λ p. (message : List ℕ) × (made : SignatureBoxRecord)
    × (e ≡ Named (named.RefusedByGivenKey p.keynum)) × (is_encrypted sk ≡ false)
    × ReadsWhole r.source r.old r.new message × IsSigned (s.signature_of scheme) sk message chosen z made
    × (accepts_comments (s.accepts scheme) p made ≡ false))

-- Signing data in memory fails: the key is encrypted, with no random bytes taken; or the key is
-- decrypted, and either an allocation fails while the random source does not, or the random source
-- fails.
abbrev pub BytesSigningFails : {Z : Type 0} → SecretKeyRecord → RandomCall Z → Fault → Type 0
BytesSigningFails sk z e =
    ((e ≡ Named named.EncryptedKeyRefused) × (is_encrypted sk ≡ true) × (z.new ≡ z.old))
    ⊎ ((is_encrypted sk ≡ false)
    × (((e ≡ Named named.OutOfMemory) × RandomHasNoNewFault z)
    ⊎ HasFailed named.RandomSourceFailed z.random.random_faults z.old z.new e))

-- == Boxes and texts ==

-- The headline of signing: with a genuine key, if neither comment has a line feed and the trusted
-- comment is trimmed, the signature text parses to a box that is valid for the message under every
-- public key with the seed's key bytes and this key ID.
abbrev pub SigningHeadline : Verifier → (List ℕ → List ℕ) → SecretKeyRecord → List ℕ → ChosenComments → List ℕ
    → Type 0
SigningHeadline accepts public_of sk message chosen text =
    (seed : List ℕ) → IsGenuine public_of sk seed → AreOneLine chosen.untrusted chosen.trusted
    → (x : SignatureBoxRecord) × (read_signature_box text ≡ Ok x)
    × VouchesUnderEachKey accepts (public_of seed) sk.keynum message x

-- The text gives this key under some password, or without one if the key was never encrypted.
abbrev pub IsKeyOf : List ℕ → SecretKeyRecord → Type 0
IsKeyOf text key = (password : List ℕ) × (key_with_password text password ≡ Ok key)

-- The headline of signing with the text of a secret key, for the unread data and for a key that the
-- text gives under some password.
abbrev pub TextSigningHeadline : Verifier → (List ℕ → List ℕ) → List ℕ → Option (List ℕ) → ChosenComments
    → List ℕ → Type 0
TextSigningHeadline accepts public_of sk_text ahead chosen text = (sk : SecretKeyRecord) × (message : List ℕ)
    × KnownBytesAre ahead message × IsKeyOf sk_text sk
    × SigningHeadline accepts public_of sk message chosen text

-- The result of reading a secret key for signing from a text. If the text contains a key that needs
-- a password, the result is that of decrypting it. Otherwise the prompt is unchanged, and the result
-- is a key that was never encrypted, or the error of the first check that fails.
abbrev pub GivesKey : {R W : Type 0} → PromptCall R W → Option (List ℕ) → List ℕ
    → Result SecretKeyRecord Fault → Type 0
GivesKey p password text answer = ((is_sealed_text text ≡ true) × IsOpening p password text None answer)
    ⊎ ((is_sealed_text text ≡ false) × (p.new ≡ p.old) × (answer ≡ read_unencrypted_key text))

-- The text of the signature box that signing makes for the message with bytes of the random source.
pub record IsSignedText {Z : Type 0} (sign : Signer) (sk : SecretKeyRecord) (message : List ℕ)
    (chosen : ChosenComments) (z : RandomCall Z) (text : List ℕ) : Type 0 where
  pub box : SignatureBoxRecord
  pub comments : CommentsRecord
  pub signed : IsSigned sign sk message chosen z box
  pub has_comments : box.comments ≡ Some comments
  pub written : text ≡ signature_text box.signature comments

module _ {S Z : Type 0} (s : SchemeOf S) (scheme : S) (sk : SecretKeyRecord) where
  -- The box is signed with the key. If the key is genuine, the box is valid under the key's own
  -- public key.
  abbrev pub HasSignedBox : List ℕ → ChosenComments → RandomCall Z → SignatureBoxRecord → Type 0
  HasSignedBox message chosen z x = IsSigned (s.signature_of scheme) sk message chosen z x
      × ((seed : List ℕ) → IsGenuine (s.public_of scheme) sk seed
      → VouchesUnderEachKey (s.accepts scheme) (s.public_of scheme seed) sk.keynum message x)

  -- All the data was read, and HasSignedBox holds for it.
  abbrev pub HasSignedData : {R : Type 0} → SourceCall R → ChosenComments → RandomCall Z → SignatureBoxRecord
      → Type 0
  HasSignedData r chosen z x = (message : List ℕ) × ReadsWhole r.source r.old r.new message
      × HasSignedBox message chosen z x

  -- The text is that of a box that is signed with the key, and SigningHeadline holds for it.
  abbrev pub HasSignedText : List ℕ → ChosenComments → RandomCall Z → List ℕ → Type 0
  HasSignedText message chosen z text = IsSignedText (s.signature_of scheme) sk message chosen z text
      × SigningHeadline (s.accepts scheme) (s.public_of scheme) sk message chosen text

  -- All the data was read, and HasSignedText holds for it.
  abbrev pub HasSignedDataText : {R : Type 0} → SourceCall R → ChosenComments → RandomCall Z → List ℕ → Type 0
  HasSignedDataText r chosen z text = (message : List ℕ) × ReadsWhole r.source r.old r.new message
      × HasSignedText message chosen z text

-- The text of a secret key gave a key, and HasSignedDataText holds with this key.
abbrev pub HasSignedWithText : {S P Q R Z : Type 0} → SchemeOf S → S → PromptCall P Q → Option (List ℕ)
    → List ℕ
    → SourceCall R → ChosenComments → RandomCall Z → List ℕ → Type 0
HasSignedWithText s scheme p password sk_text r chosen z text = (sk : SecretKeyRecord)
    × GivesKey p password sk_text (Ok sk) × HasSignedDataText s scheme sk r chosen z text

-- Signing with the text of a secret key fails: the text gives no key, with nothing read from either
-- source, or signing with its key fails.
abbrev pub TextSigningFails : {P Q R Z : Type 0} → PromptCall P Q → Option (List ℕ) → List ℕ → SourceCall R
    → RandomCall Z → Fault → Type 0
TextSigningFails p password text r z e =
    (GivesKey p password text (Err e) × (r.new ≡ r.old) × (z.new ≡ z.old))
    ⊎ ((key : SecretKeyRecord) × GivesKey p password text (Ok key) × OpenedSigningFails r z e)
