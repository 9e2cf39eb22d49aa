-- Making keys: the password under which a key is encrypted, and the conversation that asks for it;
-- keys made of a key ID and 64 secret bytes (a seed and its public key); key pairs made of random
-- bytes, and the bytes that their sinks receive.
use Rattle.std.specs.Prelude.{◌≡◌, ℕ, List, [], ◌∷◌, ◌++◌, Option, None, Some, Result, Ok, IfOk, MatchResult}
use Rattle.std.specs.Prelude.{bytes_eq, if◌then◌else◌, ◌⊎◌, length, replicate, Err, codes, ◌<◌, ◌≤◌, ◌+◌}
use Rattle.std.specs.Prelude.{unwrap_or}
use Rattle.minisign_base.specs.Fault.{Fault, Named}
use Rattle.minisign_base.specs.DeviceCalls.{PromptCall, SinkFailsAtPart, RandomCall, SinkCall}
use Rattle.minisign_base.specs.DeviceCalls.{SinkCompletesPart}
use Rattle.minisign_base.specs.Prompts.{Allocate, ConversationEnds, Say, Step, Test, asking_steps}
use Rattle.minisign_base.specs.Passwords.{password_of, typed_password}
use Rattle.minisign_base.specs.Steps.{without_value}
use Rattle.std.specs.Int.{w64, to_le_bytes}
use Rattle.minisign_hash.specs.Blake2b.{blake2b_digest}
use Rattle.minisign_base.specs.Scheme.{IsBytes}
use Rattle.minisign.specs.KeyTexts.{public_key_text, read_secret_key, secret_key_text}
use Rattle.minisign.specs.Records.{PublicKeyRecord, SecretKeyRecord, legacy_algorithm, public_key_bytes}
use Rattle.minisign.specs.Records.{secret_key_bytes}
use Rattle.minisign.specs.Sealing.{no_kdf, open_sealed, scrypt_kdf, sealed_by_scrypt, xored_key, OpensTo}
use Rattle.minisign.specs.Sealing.{asking_text, done_text, read_unencrypted_key}
use Rattle.minisign.specs.Signing.{HasDrawn, IsGenuine, RandomHasNoNewFault}
use Rattle.minisign.specs.Reading.{HasFailed}
use Rattle.minisign.specs.Texts.{and_then, line}
use Rattle.minisign_base.specs.declared.faults.NamedFault.TheVariants as named
use Rattle.std.specs.Str.Iter.{LacksByte}
use Rattle.minisign_base.specs.Limits.{numbers, sealing_limits}
use Rattle.std.specs.Result.{result_err}
use Rattle.minisign.specs.declared.making.Sealing.{Sealing}

-- == Passwords ==

-- The texts of the prompt: the line before a new password is asked for, the second prompt, and the
-- text before the derivation.
unfoldable pub purpose_line : List ℕ
purpose_line = line (codes "Please enter a password to protect the secret key.")

unfoldable pub second_question : List ℕ
second_question = codes "Password (one more time): "

unfoldable pub sealing_text : List ℕ
sealing_text = codes "Deriving a key from the password in order to encrypt the secret key... "

-- The error if two passwords differ.
abbrev pub password_difference : List ℕ → List ℕ → Option Fault
password_difference password again =
    if bytes_eq password again then None else Some (Named named.PasswordsDiffer)

-- The steps of choosing a password: the prompt says what it is for and asks for it twice. The bytes
-- are those that are typed.
abbrev pub choosing_steps : List ℕ → List ℕ → List Step
choosing_steps first second = Say purpose_line
    ∷ (asking_steps asking_text first ++ (asking_steps second_question second
    ++ Test (password_difference (typed_password first) (typed_password second)) ∷ []))

-- The steps of reporting the derivation.
abbrev pub sealing_steps : List Step
sealing_steps = Say sealing_text ∷ Allocate ∷ Say done_text ∷ []

-- The password under which a key is encrypted, or the error if there is none. A given password
-- leaves the prompt unchanged. Otherwise the password is typed twice, and then the derivation is
-- reported.
abbrev pub IsSealing : {R W : Type 0} → PromptCall R W → Option (List ℕ) → Result (List ℕ) Fault → Type 0
IsSealing p (Some given) answer =
    MatchResult answer (λ password. password ≡ given) (λ e. e ≡ Named named.OutOfMemory) × (p.new ≡ p.old)
IsSealing p None answer = (first : List ℕ) × (second : List ℕ)
    × IfOk answer (λ password. (password_of first ≡ Ok password) × (password_of second ≡ Ok password))
    × ConversationEnds p (choosing_steps first second ++ sealing_steps) (without_value answer)

-- == Keys made of their parts ==

-- The unencrypted secret key with this key ID and these 64 secret bytes.
unfoldable pub unsealed_key : List ℕ → List ℕ → SecretKeyRecord
unsealed_key keynum secret = record {
  algorithm = legacy_algorithm;
  kdf = no_kdf;
  checksum_algorithm = codes "B2";
  salt = replicate 32 0;
  operations_limit = replicate 8 0;
  memory_limit = replicate 8 0;
  keynum = keynum;
  secret = secret;
  checksum = blake2b_digest 32 (legacy_algorithm ++ keynum ++ secret);
}

-- A decrypted key with scrypt as its key derivation, a salt of 32 bytes and these limits: the key
-- before it is encrypted, and after it is decrypted again.
unfoldable pub key_to_seal : List ℕ → List ℕ → List ℕ → ℕ → ℕ → SecretKeyRecord
key_to_seal keynum secret salt operations memory = record (unsealed_key keynum secret) {
  kdf = scrypt_kdf;
  salt = salt;
  operations_limit = to_le_bytes w64 operations;
  memory_limit = to_le_bytes w64 memory;
}

-- The key of key_to_seal with the default limits: 1048576 operations and 33554432 bytes.
abbrev pub opened_key : List ℕ → List ℕ → List ℕ → SecretKeyRecord
opened_key keynum secret salt = key_to_seal keynum secret salt 1048576 33554432

-- The secret key of these parts: encrypted under the password if there is one, and otherwise
-- unencrypted.
abbrev pub made_key : List ℕ → List ℕ → Option (List ℕ) → Sealing → SecretKeyRecord
made_key keynum secret None s = unsealed_key keynum secret
made_key keynum secret (Some password) s =
    xored_key (key_to_seal keynum secret s.salt s.operations_limit s.memory_limit) password

-- The text gives back the key that was made of these parts. Without a password it parses to this
-- key, which was never encrypted. With a password it decrypts to the key as it was before
-- encryption, and to no other, unless the bound on the parallelization p is below that of the limits.
abbrev pub GivesParts : List ℕ → Option (List ℕ) → List ℕ → List ℕ → Sealing → Type 0
GivesParts text None keynum secret s = read_unencrypted_key text ≡ Ok (unsealed_key keynum secret)
GivesParts text (Some password) keynum secret s =
    OpensTo text password (numbers s.memory_limit s.operations_limit).p
    (key_to_seal keynum secret s.salt s.operations_limit s.memory_limit)

-- The text of the secret key that is made of these parts: its form, what it parses or decrypts to,
-- and its length.
pub record IsMadeText (keynum secret : List ℕ) (password : Option (List ℕ)) (s : Sealing)
    (comment text : List ℕ) : Type 0 where
  pub written : text ≡ secret_key_text (Some comment) (made_key keynum secret password s)
  pub gives : LacksByte 10 comment → GivesParts text password keynum secret s
  pub size : length text ≡ length comment + 233

-- The error if no secret key is made: with a password, limits that are rejected; otherwise a failed
-- allocation.
abbrev pub making_fault : Option (List ℕ) → Sealing → Fault
making_fault None s = Named named.OutOfMemory
making_fault (Some password) s =
    unwrap_or (result_err (sealing_limits s.memory_limit s.operations_limit)) (Named named.OutOfMemory)

-- == Pairs ==

-- A seed of 32 bytes and a key ID of 8 bytes.
pub record AreSeedAndKeynum (seed keynum : List ℕ) : Type 0 where
  pub seed_length : length seed ≡ 32
  pub seed_bytes : IsBytes seed
  pub keynum_length : length keynum ≡ 8
  pub keynum_bytes : IsBytes keynum

-- The 72 random bytes of an encrypted pair were taken from the random source.
pub record AllDrawn {Z : Type 0} (z : RandomCall Z) : Type 0 where
  pub bytes : List ℕ
  pub count : length bytes ≡ 72
  pub drawn : HasDrawn z bytes
  pub no_new_fault : RandomHasNoNewFault z

-- A key pair is not generated under a given password. Either the password has more than 1024 bytes,
-- and no random bytes were taken; or it has at most 1024, and the random source failed, or an
-- allocation failed after all random bytes were taken.
abbrev pub PasswordPairFails : {Z : Type 0} → List ℕ → RandomCall Z → Fault → Type 0
PasswordPairFails password z e =
    ((e ≡ Named named.PasswordTooLong) × (1024 < length password) × (z.new ≡ z.old))
    ⊎ ((length password ≤ 1024)
    × (HasFailed named.RandomSourceFailed z.random.random_faults z.old z.new e
    ⊎ (AllDrawn z × (e ≡ Named named.OutOfMemory))))

-- An encrypted key pair is not generated: either the random source failed, with the prompt
-- unchanged; or all random bytes were taken, and choosing the password or encrypting the key failed.
abbrev pub SealedPairFails : {Z R W : Type 0} → RandomCall Z → PromptCall R W → Option (List ℕ) → Fault
    → Type 0
SealedPairFails z p password e =
    (HasFailed named.RandomSourceFailed z.random.random_faults z.old z.new e × (p.new ≡ p.old))
    ⊎ (AllDrawn z × IsSealing p password (Err e))

module _ {P K : Type 0} (pk_sink : SinkCall P) (sk_sink : SinkCall K) where
  -- Both sinks are unchanged.
  abbrev pub AreUnwritten : Type 0
  AreUnwritten = (pk_sink.new ≡ pk_sink.old) × (sk_sink.new ≡ sk_sink.old)

  -- A sink failed: either the public sink, with the secret sink unchanged; or the secret sink,
  -- after the public sink received and flushed its part.
  abbrev pub SinksFail : List ℕ → List ℕ → Type 0
  SinksFail public secret = (SinkFailsAtPart pk_sink public × (sk_sink.new ≡ sk_sink.old))
      ⊎ (SinkCompletesPart pk_sink public × SinkFailsAtPart sk_sink secret)

  -- The two parts of a pair are not written: an allocation failed, with both sinks unchanged, or a
  -- sink failed.
  abbrev pub PartsFail : List ℕ → List ℕ → Fault → Type 0
  PartsFail public secret e = ((e ≡ Named named.OutOfMemory) × AreUnwritten)
      ⊎ ((e ≡ Named named.WritingFailed) × SinksFail public secret)

module _ (public_of : List ℕ → List ℕ) where
  -- The public key of a seed, with this key ID.
  abbrev pub public_key_of : List ℕ → List ℕ → PublicKeyRecord
  public_key_of seed keynum =
      record { algorithm = legacy_algorithm; keynum = keynum; key = public_of seed }

  -- The 64 secret bytes of a seed: the seed and its public key.
  abbrev pub secret_of : List ℕ → List ℕ
  secret_of seed = seed ++ public_of seed

  -- The two keys belong together: the secret key is genuine, and the public key is that of its seed,
  -- with the key ID of the secret key.
  pub record IsGenuinePair (pk : PublicKeyRecord) (sk : SecretKeyRecord) : Type 0 where
    pub seed : List ℕ
    pub genuine : IsGenuine public_of sk seed
    pub key : pk.key ≡ public_of seed
    pub keynum : pk.keynum ≡ sk.keynum

  -- The unencrypted key pair that is made of the next bytes of the random source: 32 for the seed
  -- and 8 for the key ID.
  pub record IsUnsealedPair {Z : Type 0} (z : RandomCall Z) (pk : PublicKeyRecord) (sk : SecretKeyRecord)
      : Type 0 where
    pub seed : List ℕ
    pub keynum : List ℕ
    pub lengths : AreSeedAndKeynum seed keynum
    pub drawn : HasDrawn z (seed ++ keynum)
    pub public : pk ≡ public_key_of seed keynum
    pub secret : sk ≡ unsealed_key keynum (secret_of seed)

  -- The encrypted key pair of a seed and a key ID, with this salt, under this password.
  pub record IsSealedOf (seed keynum salt password : List ℕ) (pk : PublicKeyRecord) (sk : SecretKeyRecord)
      : Type 0 where
    pub public : pk ≡ public_key_of seed keynum
    pub secret : sk ≡ xored_key (opened_key keynum (secret_of seed) salt) password
    pub opened : xored_key sk password ≡ opened_key keynum (secret_of seed) salt

  -- The encrypted key pair that is made of the next bytes of the random source: 32 for the seed, 8
  -- for the key ID and 32 for the salt.
  pub record IsSealedPair {Z : Type 0} (password : List ℕ) (z : RandomCall Z) (pk : PublicKeyRecord)
      (sk : SecretKeyRecord) : Type 0 where
    pub seed : List ℕ
    pub keynum : List ℕ
    pub salt : List ℕ
    pub lengths : AreSeedAndKeynum seed keynum
    pub salt_length : length salt ≡ 32
    pub drawn : HasDrawn z (seed ++ keynum ++ salt)
    pub sealed : IsSealedOf seed keynum salt password pk sk

  -- The secret key decrypts under the password to the key that belongs to the public key. So does
  -- each text that parses to the secret key. The parallelization of its scrypt parameters is 1.
  pub record OpensToPair (password : List ℕ) (pk : PublicKeyRecord) (sk : SecretKeyRecord) : Type 0 where
    pub opens : and_then (sealed_by_scrypt sk) (λ k. open_sealed k password None) ≡ Ok (xored_key sk password)
    pub pair : IsGenuinePair pk (xored_key sk password)
    pub texts : (text : List ℕ) → read_secret_key text ≡ Ok sk
        → OpensTo text password 1 (xored_key sk password)

  -- An encrypted key pair was generated, under the password that was given or typed.
  pub record HasSealed {Z R W : Type 0} (z : RandomCall Z) (p : PromptCall R W) (given : Option (List ℕ))
      (pk : PublicKeyRecord) (sk : SecretKeyRecord) : Type 0 where
    pub password : List ℕ
    pub prompted : IsSealing p given (Ok password)
    pub pair : IsSealedPair password z pk sk
    pub opens : OpensToPair password pk sk

  -- An unencrypted pair is not written as raw bytes: either it was not generated, and both sinks
  -- are unchanged, or its parts were not written.
  abbrev pub RawPairFails : {Z P K : Type 0} → RandomCall Z → SinkCall P → SinkCall K → Fault → Type 0
  RawPairFails z pk_sink sk_sink e =
      (HasFailed named.RandomSourceFailed z.random.random_faults z.old z.new e × AreUnwritten pk_sink sk_sink)
      ⊎ ((pk : PublicKeyRecord) × (sk : SecretKeyRecord) × IsUnsealedPair z pk sk × RandomHasNoNewFault z
      × PartsFail pk_sink sk_sink (public_key_bytes pk) (secret_key_bytes sk) e)

  -- An encrypted pair is not written as texts: either it was not generated, and both sinks are
  -- unchanged, or its parts were not written.
  abbrev pub SealedTextsFail : {Z R W P K : Type 0} → RandomCall Z → PromptCall R W → Option (List ℕ)
      → SinkCall P → SinkCall K → Option (List ℕ) → Fault → Type 0
  SealedTextsFail z p password pk_sink sk_sink comment e =
      (SealedPairFails z p password e × AreUnwritten pk_sink sk_sink)
      ⊎ ((pk : PublicKeyRecord) × (sk : SecretKeyRecord) × HasSealed z p password pk sk
      × RandomHasNoNewFault z × PartsFail pk_sink sk_sink (public_key_text pk) (secret_key_text comment sk) e)
