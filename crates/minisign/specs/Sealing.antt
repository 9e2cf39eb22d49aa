-- Encryption of secret keys: the checksum, the test whether a key is still encrypted, and the xor
-- of the last 104 bytes of the record with the output of scrypt (RFC 7914, section 6). Also the
-- results of decrypting the key in a text.
use Rattle.std.specs.Prelude.{ℕ, ◌*◌, ◌^◌, Bool, true, not, ◌&&◌, nat_lt, List, [], ◌∷◌, ◌++◌, take, drop}
use Rattle.std.specs.Prelude.{Option, None, Result, Ok, bit_xor, bytes_eq, codes, if◌then◌else◌, ◌≡◌, ◌⊎◌}
use Rattle.std.specs.Prelude.{Some, Err, false, IsOk}
use Rattle.std.specs.Option.{option_map_or}
use Rattle.std.specs.Result.{result_ok, result_err}
use Rattle.std.specs.Int.{w64, from_le_bytes}
use Rattle.minisign_hash.specs.Blake2b.{blake2b_digest}
use Rattle.minisign_base.specs.Limits.{numbers, sealing_limits}
use Rattle.minisign_base.specs.Fault.{Fault, Named}
use Rattle.std.specs.Simd.Lanes.{zip2}
use Rattle.minisign_kdf.specs.Scrypt.{scrypt}
use Rattle.minisign_kdf.specs.Params.{Numbers}
use Rattle.minisign_kdf.specs.Memory.{bytes_needed, words_needed}
use Rattle.minisign.specs.Records.{SecretKeyRecord}
use Rattle.minisign.specs.Texts.{and_then, require}
use Rattle.minisign_base.specs.declared.faults.NamedFault.TheVariants as named
use Rattle.minisign_base.specs.DeviceCalls.{PromptCall}
use Rattle.minisign_base.specs.Prompts.{Allocate, ConversationEnds, Say, Step, Test, asking_steps}
use Rattle.minisign_base.specs.Passwords.{password_of, typed_password}
use Rattle.minisign.specs.KeyTexts.{read_secret_key, SecretKeyText}

-- The key derivations: none, for a key that was never encrypted, and scrypt.
abbrev pub no_kdf : List ℕ
no_kdf = 0 ∷ 0 ∷ []

abbrev pub scrypt_kdf : List ℕ
scrypt_kdf = codes "Sc"

-- The checksum: the 32-byte Blake2b digest of the algorithm, the key ID and the secret bytes.
abbrev pub checksum_of : SecretKeyRecord → List ℕ
checksum_of k = blake2b_digest 32 (k.algorithm ++ k.keynum ++ k.secret)

-- The key names a key derivation, so it was encrypted with a password. Decryption does not change this.
abbrev pub wants_password : SecretKeyRecord → Bool
wants_password k = not (bytes_eq k.kdf no_kdf)

-- The key is encrypted: it names a key derivation, and its checksum does not match.
abbrev pub is_encrypted : SecretKeyRecord → Bool
is_encrypted k = wants_password k && not (bytes_eq k.checksum (checksum_of k))

-- The key with its 104 encrypted bytes (key ID, secret and checksum) xored with a stream of the same
-- length.
unfoldable pub key_xor : SecretKeyRecord → List ℕ → SecretKeyRecord
key_xor k stream =
    let part = zip2 bit_xor (k.keynum ++ k.secret ++ k.checksum) stream in
    record k { keynum = take 8 part; secret = take 64 (drop 8 part); checksum = take 32 (drop 72 part) }

-- The scrypt parameters for the key's limits, or the error if the limits are too high or scrypt
-- rejects the parameters.
unfoldable pub key_limits : SecretKeyRecord → Result Numbers Fault
key_limits k = sealing_limits (from_le_bytes w64 k.memory_limit) (from_le_bytes w64 k.operations_limit)

-- The stream for a password: 104 bytes of scrypt output for the password, the key's salt and its
-- limits.
unfoldable pub stream_of : SecretKeyRecord → List ℕ → List ℕ
stream_of k password =
    let v = numbers (from_le_bytes w64 k.memory_limit) (from_le_bytes w64 k.operations_limit) in
    scrypt password k.salt (2 ^ v.n_log2) v.r v.p 104

-- The key xored with the stream for a password. This decrypts an encrypted key and encrypts a
-- decrypted one.
abbrev pub xored_key : SecretKeyRecord → List ℕ → SecretKeyRecord
xored_key k password = key_xor k (stream_of k password)

-- The parallelization is at most the bound, if there is one.
abbrev pub is_within : Option ℕ → ℕ → Bool
is_within bound p = option_map_or (λ max_p. not (nat_lt max_p p)) bound true

-- The scrypt parameters, if the limits are allowed and the parallelization is within the bound.
abbrev pub allowed_work : SecretKeyRecord → Option ℕ → Result Numbers Fault
allowed_work k bound = and_then (key_limits k) (λ v. require (is_within bound v.p) named.WorkTooHigh (Ok v))

-- The scrypt parameters, if the limits are allowed and at most this many rows are computed, N for
-- each of the p parts.
abbrev pub allowed_rows : SecretKeyRecord → ℕ → Result Numbers Fault
allowed_rows k most =
    and_then (key_limits k) (λ v. require (not (nat_lt most (2 ^ v.n_log2 * v.p))) named.WorkTooHigh (Ok v))

-- The key, if its checksum matches after decryption.
abbrev pub restored_key : SecretKeyRecord → Result SecretKeyRecord Fault
restored_key k = require (bytes_eq k.checksum (checksum_of k)) named.WrongPassword (Ok k)

-- The key, if it is encrypted with scrypt.
abbrev pub sealed_by_scrypt : SecretKeyRecord → Result SecretKeyRecord Fault
sealed_by_scrypt k =
    require (wants_password k) named.KeyNotEncrypted
    (require (bytes_eq k.kdf scrypt_kdf) named.UnsupportedEncryptionAlgorithm (Ok k))

-- Decryption: the key, which is encrypted with scrypt, decrypted under the password, if its work is
-- within the bound.
abbrev pub open_sealed : SecretKeyRecord → List ℕ → Option ℕ → Result SecretKeyRecord Fault
open_sealed k password bound = and_then (allowed_work k bound) (λ _. restored_key (xored_key k password))

-- The key, if it was never encrypted and its checksum matches.
abbrev pub unencrypted_key : SecretKeyRecord → Result SecretKeyRecord Fault
unencrypted_key k =
    require (bytes_eq k.kdf no_kdf) named.KeyMightBeEncrypted
    (require (bytes_eq k.checksum (checksum_of k)) named.CorruptedKey (Ok k))

-- A property of the scrypt parameters with which the key is decrypted, such as the work. It is (0, 0) if the
-- key was never encrypted or its limits are rejected.
abbrev pub opening_property : (Numbers → ℕ × ℕ) → SecretKeyRecord → ℕ × ℕ
opening_property property k =
    option_map_or property (if wants_password k then result_ok (key_limits k) else None) (0, 0)

-- The work of decrypting the key: the base-2 logarithm of scrypt's N, and p.
abbrev pub opening_work : SecretKeyRecord → ℕ × ℕ
opening_work k = opening_property (λ v. (v.n_log2, v.p)) k

-- The memory for decrypting the key in place with every k-th row kept: the number of 32-bit words,
-- and the number of bytes.
abbrev pub opening_memory : SecretKeyRecord → ℕ → ℕ × ℕ
opening_memory key k = opening_property (λ v. (words_needed v k, bytes_needed v)) key

-- == Decrypting the key in a text ==

-- The texts of the prompt: the prompt itself, the text before the derivation, and the line after
-- it.
unfoldable pub asking_text : List ℕ
asking_text = codes "Password: "

unfoldable pub deriving_text : List ℕ
deriving_text = codes "Deriving a key from the password and decrypting the secret key... "

unfoldable pub done_text : List ℕ
done_text = codes "done" ++ 10 ∷ []

-- The key in a text, if it is encrypted with scrypt.
abbrev pub read_sealed_key : List ℕ → Result SecretKeyRecord Fault
read_sealed_key text = and_then (read_secret_key text) sealed_by_scrypt

-- The key in a text, decrypted under the password, or the error of the first check that fails. The
-- bound on the parallelization may be absent.
unfoldable pub open_key : List ℕ → List ℕ → Option ℕ → Result SecretKeyRecord Fault
open_key text password bound = and_then (read_sealed_key text) (λ k. open_sealed k password bound)

-- The key in a text, if it was never encrypted and its checksum matches.
unfoldable pub read_unencrypted_key : List ℕ → Result SecretKeyRecord Fault
read_unencrypted_key text = and_then (read_secret_key text) unencrypted_key

-- The text parses to a key that names a key derivation, so it needs a password.
unfoldable pub is_sealed_text : List ℕ → Bool
is_sealed_text text = option_map_or wants_password (result_ok (read_secret_key text)) false

-- The key that a text gives under a password: unchanged if it was never encrypted, and otherwise
-- decrypted.
abbrev pub key_with_password : List ℕ → List ℕ → Result SecretKeyRecord Fault
key_with_password text password = if is_sealed_text text then open_key text password None else
    read_unencrypted_key text

-- The text decrypts under the password to this key, and never to a different one. If there is a
-- bound on the parallelization and p is above it, decryption fails with WorkTooHigh instead.
abbrev pub OpensTo : List ℕ → List ℕ → ℕ → SecretKeyRecord → Type 0
OpensTo text password p key =
    (bound : Option ℕ) → open_key text password bound ≡ require (is_within bound p) named.WorkTooHigh (Ok key)

-- Decryption as a relation: the text parses to a key that is encrypted with scrypt, its limits are
-- allowed and within the bound, and xoring it with the stream for the password gives this key,
-- whose checksum matches.
pub record IsOpened (text password : List ℕ) (bound : Option ℕ) (opened : SecretKeyRecord) : Type 0 where
  pub sealed : SecretKeyRecord
  pub read : SecretKeyText text sealed
  pub kdf : sealed.kdf ≡ scrypt_kdf
  pub allowed : IsOk (allowed_work sealed bound)
  pub key : opened ≡ xored_key sealed password
  pub restored : opened.checksum ≡ checksum_of opened

-- The text parses to this key, which was never encrypted and whose checksum matches.
pub record IsUnencryptedText (text : List ℕ) (k : SecretKeyRecord) : Type 0 where
  pub read : SecretKeyText text k
  pub kdf : k.kdf ≡ no_kdf
  pub checksum : k.checksum ≡ checksum_of k

-- The steps of decrypting a key: the prompt reports the derivation, the limits and the bound must
-- allow it, the prompt reports that it is done, and the checksum must match.
abbrev pub decrypting_steps : SecretKeyRecord → List ℕ → Option ℕ → List Step
decrypting_steps k password bound = Say deriving_text ∷ Test (result_err (allowed_work k bound)) ∷ Allocate
    ∷ Say done_text ∷ Test (result_err (restored_key (xored_key k password))) ∷ []

-- The steps of decrypting an encrypted key with the password that is typed in these bytes.
abbrev pub opening_steps : SecretKeyRecord → Option ℕ → List ℕ → List Step
opening_steps k bound bytes = asking_steps asking_text bytes ++ decrypting_steps k
    (typed_password bytes) bound

-- The result is the given one; or it is out of memory, which is possible only if the key in the
-- text is encrypted with scrypt and its limits are allowed and within the bound.
abbrev pub IsOpenedOrNoMemory : List ℕ → Option ℕ → Result SecretKeyRecord Fault
    → Result SecretKeyRecord Fault → Type 0
IsOpenedOrNoMemory text bound answer given = (answer ≡ given)
    ⊎ ((answer ≡ Err (Named named.OutOfMemory))
    × IsOk (and_then (read_sealed_key text) (λ k. allowed_work k bound)))

-- The result of decrypting the key in a text, within a bound. With a given password, the prompt is
-- unchanged, and the result is that of open_key or out of memory. Without one, a text without a key
-- that is encrypted with scrypt is rejected, with the prompt unchanged. Otherwise the prompt asks
-- for a password, and the key is decrypted with what was typed, or the error is the one at which
-- the conversation stopped.
abbrev pub IsOpening : {R W : Type 0} → PromptCall R W → Option (List ℕ) → List ℕ → Option ℕ
    → Result SecretKeyRecord Fault → Type 0
IsOpening p (Some password) text bound answer = (p.new ≡ p.old)
    × IsOpenedOrNoMemory text bound answer (open_key text password bound)
IsOpening p None text bound (Ok opened) = (k : SecretKeyRecord) × (bytes : List ℕ) × (password : List ℕ)
    × (read_sealed_key text ≡ Ok k) × (password_of bytes ≡ Ok password)
    × (open_key text password bound ≡ Ok opened) × ConversationEnds p (opening_steps k bound bytes) (Ok tt)
IsOpening p None text bound (Err e) =
    ((read_sealed_key text ≡ Err e) × (p.new ≡ p.old))
    ⊎ ((k : SecretKeyRecord) × (bytes : List ℕ) × (read_sealed_key text ≡ Ok k)
    × ConversationEnds p (opening_steps k bound bytes) (Err e))
