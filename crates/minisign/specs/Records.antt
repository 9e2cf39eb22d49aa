-- The records in which keys and signatures are stored: fields of fixed lengths, one after the
-- other.
use Rattle.std.specs.Prelude.{◌≡◌, ℕ, Bool, List, ◌++◌, length, drop, Option, ◌⊎◌, codes, bytes_eq, false}
use Rattle.std.specs.Prelude.{flat_map}
use Rattle.std.specs.Fmt.{digits}

-- A public key: the algorithm (2 bytes), the key ID (8) and the key bytes (32).
pub record PublicKeyRecord : Type 0 where
  pub algorithm : List ℕ
  pub keynum : List ℕ
  pub key : List ℕ

-- The 42 bytes of a public key.
abbrev pub public_key_bytes : PublicKeyRecord → List ℕ
public_key_bytes k = k.algorithm ++ k.keynum ++ k.key

-- The bytes begin with the record of this public key. Later bytes are ignored.
pub record ReadsPublicKey (bytes : List ℕ) (k : PublicKeyRecord) : Type 0 where
  pub algorithm_length : length k.algorithm ≡ 2
  pub keynum_length : length k.keynum ≡ 8
  pub key_length : length k.key ≡ 32
  pub front : (rest : List ℕ) × (bytes ≡ public_key_bytes k ++ rest)

-- A signature: the algorithm (2 bytes), the key ID (8) and the Ed25519 signature (64).
pub record SignatureRecord : Type 0 where
  pub algorithm : List ℕ
  pub keynum : List ℕ
  pub signature : List ℕ

-- The 74 bytes of a signature.
abbrev pub signature_bytes : SignatureRecord → List ℕ
signature_bytes s = s.algorithm ++ s.keynum ++ s.signature

-- The bytes begin with the record of this signature. Later bytes are ignored.
pub record ReadsSignature (bytes : List ℕ) (s : SignatureRecord) : Type 0 where
  pub algorithm_length : length s.algorithm ≡ 2
  pub keynum_length : length s.keynum ≡ 8
  pub signature_length : length s.signature ≡ 64
  pub front : (rest : List ℕ) × (bytes ≡ signature_bytes s ++ rest)

-- The algorithm of a legacy signature, which signs the data itself.
abbrev pub legacy_algorithm : List ℕ
legacy_algorithm = codes "Ed"

-- The algorithm of a prehashed signature, which signs the digest of the data.
abbrev pub prehashed_algorithm : List ℕ
prehashed_algorithm = codes "ED"

-- The record of a prehashed signature.
abbrev pub prehashed_signature : List ℕ → List ℕ → SignatureRecord
prehashed_signature keynum signature =
    record { algorithm = prehashed_algorithm; keynum = keynum; signature = signature }

abbrev pub IsKnownAlgorithm : List ℕ → Type 0
IsKnownAlgorithm a = (a ≡ legacy_algorithm) ⊎ (a ≡ prehashed_algorithm)

-- The signature is prehashed: it signs the digest of the data.
abbrev pub is_prehashed : SignatureRecord → Bool
is_prehashed s = bytes_eq s.algorithm prehashed_algorithm

-- The comments of a signature box: the untrusted comment, which is not signed; the trusted comment;
-- and the comment signature, which signs the signature of the data followed by the trusted comment,
-- and may have any length.
pub record CommentsRecord : Type 0 where
  pub untrusted : List ℕ
  pub trusted : List ℕ
  pub signature : List ℕ

-- The contents of a signature box: a signature, and the comments unless it was made from a bare signature.
pub record SignatureBoxRecord : Type 0 where
  pub signature : SignatureRecord
  pub comments : Option CommentsRecord

-- A secret key: the algorithm (2 bytes), the key derivation (2), the checksum algorithm (2), the
-- salt (32), the operations limit and the memory limit (8 each, little endian), the key ID (8), the
-- secret bytes (64) and the checksum (32).
pub record SecretKeyRecord : Type 0 where
  pub algorithm : List ℕ
  pub kdf : List ℕ
  pub checksum_algorithm : List ℕ
  pub salt : List ℕ
  pub operations_limit : List ℕ
  pub memory_limit : List ℕ
  pub keynum : List ℕ
  pub secret : List ℕ
  pub checksum : List ℕ

-- The 158 bytes of a secret key. In an encrypted key, the last three fields, 104 bytes, are
-- encrypted.
abbrev pub secret_key_bytes : SecretKeyRecord → List ℕ
secret_key_bytes k = (k.algorithm ++ k.kdf ++ k.checksum_algorithm)
    ++ (k.salt ++ k.operations_limit ++ k.memory_limit)
    ++ (k.keynum ++ k.secret ++ k.checksum)

-- The bytes begin with the record of this secret key. Later bytes are ignored.
pub record ReadsSecretKey (bytes : List ℕ) (k : SecretKeyRecord) : Type 0 where
  pub algorithm_length : length k.algorithm ≡ 2
  pub kdf_length : length k.kdf ≡ 2
  pub checksum_algorithm_length : length k.checksum_algorithm ≡ 2
  pub salt_length : length k.salt ≡ 32
  pub operations_limit_length : length k.operations_limit ≡ 8
  pub memory_limit_length : length k.memory_limit ≡ 8
  pub keynum_length : length k.keynum ≡ 8
  pub secret_length : length k.secret ≡ 64
  pub checksum_length : length k.checksum ≡ 32
  pub front : (rest : List ℕ) × (bytes ≡ secret_key_bytes k ++ rest)

-- The public key of a secret key: its algorithm, its key ID and the last 32 of its secret bytes.
abbrev pub own_public_key : SecretKeyRecord → PublicKeyRecord
own_public_key k = record { algorithm = k.algorithm; keynum = k.keynum; key = drop 32 k.secret }

-- The debug output of secret bytes: each byte in lowercase hexadecimal without leading zeros.
abbrev pub secret_text : List ℕ → List ℕ
secret_text bytes = flat_map (digits 16 false) bytes
