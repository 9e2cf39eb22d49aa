-- The key files: the functions that parse a text to a key or give the first check that fails, the
-- same grammars as relations, and the text that is written for a key.
use Rattle.std.specs.Prelude.{◌≡◌, ◌==◌, ℕ, List, [], ◌∷◌, ◌++◌, length, take, drop, nat_le, Result, Ok, Err}
use Rattle.std.specs.Prelude.{codes, Option, unwrap_or}
use Rattle.std.specs.Str.{trim}
use Rattle.std.specs.Str.Lines.{lines}
use Rattle.minisign_base.specs.Fault.{Fault, Named}
use Rattle.minisign_base.specs.declared.faults.NamedFault.{NamedFault}
use Rattle.minisign_base.specs.KeyIds.{key_id_text}
use Rattle.minisign.specs.Texts.{line, Encodes, base64_of, base64_bytes, is_base64, require}
use Rattle.minisign.specs.Texts.{untrusted_comment_label}
use Rattle.minisign.specs.Records.{PublicKeyRecord, ReadsPublicKey, public_key_bytes, SecretKeyRecord}
use Rattle.minisign.specs.Records.{ReadsSecretKey, secret_key_bytes}
use Rattle.minisign_base.specs.declared.faults.NamedFault.TheVariants as named

-- == Public keys ==

-- The public key in the first 42 decoded bytes: algorithm (2), key ID (8), key bytes (32).
abbrev pub decoded_key : NamedFault → List ℕ → Result PublicKeyRecord Fault
decoded_key not_base64 text =
    let bytes = base64_bytes text in
    require (is_base64 text) not_base64
    (require (nat_le 42 (length bytes)) named.RecordTooShort
    (Ok (record {
      algorithm = take 2 bytes;
      keynum = take 8 (drop 2 bytes);
      key = take 32 (drop 8 (drop 2 bytes));
    })))

-- The first line may be anything. The second line must have 56 bytes and, trimmed, be the base64 of the key,
-- so it has no white space. Later lines are ignored.
abbrev pub key_in_lines : List (List ℕ) → Result PublicKeyRecord Fault
key_in_lines [] = Err (Named named.MissingPublicKeyComment)
key_in_lines (comment ∷ []) = Err (Named named.MissingEncodedPublicKey)
key_in_lines (comment ∷ encoded ∷ later) =
    require (length encoded == 56) named.PublicKeyLineLength
    (decoded_key named.PublicKeyLineNotBase64 (trim encoded))

-- The public key in a text, or the error of the first check that fails.
unfoldable pub read_public_key : List ℕ → Result PublicKeyRecord Fault
read_public_key text = key_in_lines (lines text)

-- The public key in bare base64, or the error of the first check that fails. The text without white
-- space at its ends has 56 bytes, but the whole text must be base64.
unfoldable pub read_bare_public_key : List ℕ → Result PublicKeyRecord Fault
read_bare_public_key text =
    require (length (trim text) == 56) named.BarePublicKeyLength
    (decoded_key named.BarePublicKeyNotBase64 text)

-- The grammar of public key files as a relation: the second line has 56 bytes and, trimmed, is the
-- base64 of the key.
pub record PublicKeyText (text : List ℕ) (k : PublicKeyRecord) : Type 0 where
  pub comment : List ℕ
  pub encoded : List ℕ
  pub later : List (List ℕ)
  pub cut : lines text ≡ comment ∷ encoded ∷ later
  pub encoded_length : length encoded ≡ 56
  pub key : Encodes ReadsPublicKey (trim encoded) k

-- The grammar of bare public keys as a relation: the text is the base64 of the key, and trimmed it
-- has 56 bytes.
pub record BarePublicKey (text : List ℕ) (k : PublicKeyRecord) : Type 0 where
  pub trimmed_length : length (trim text) ≡ 56
  pub key : Encodes ReadsPublicKey text k

unfoldable pub public_key_label : List ℕ
public_key_label = codes "minisign public key: "

-- The text of a public key with this comment: the comment line, and the base64 of the 42 bytes.
abbrev pub commented_public_key_text : List ℕ → PublicKeyRecord → List ℕ
commented_public_key_text comment k = line (untrusted_comment_label ++ comment)
    ++ line (base64_of (public_key_bytes k))

-- The text of a public key with the comment that names its key ID.
abbrev pub public_key_text : PublicKeyRecord → List ℕ
public_key_text k = commented_public_key_text (public_key_label ++ key_id_text k.keynum) k

-- == Secret keys ==

-- The secret key in the first 158 bytes: algorithm (2), key derivation (2), checksum algorithm (2),
-- salt (32), operations limit (8), memory limit (8), key ID (8), secret bytes (64), checksum (32).
unfoldable pub secret_key_of_bytes : List ℕ → SecretKeyRecord
secret_key_of_bytes bytes = record {
  algorithm = take 2 bytes;
  kdf = take 2 (drop 2 bytes);
  checksum_algorithm = take 2 (drop 4 bytes);
  salt = take 32 (drop 6 bytes);
  operations_limit = take 8 (drop 38 bytes);
  memory_limit = take 8 (drop 46 bytes);
  keynum = take 8 (drop 54 bytes);
  secret = take 64 (drop 62 bytes);
  checksum = take 32 (drop 126 bytes);
}

-- The secret key at the beginning of the bytes, or an error if there are fewer than 158.
abbrev pub read_secret_key_bytes : List ℕ → Result SecretKeyRecord Fault
read_secret_key_bytes bytes = require (nat_le 158 (length bytes)) named.RecordTooShort
    (Ok (secret_key_of_bytes bytes))

-- The first line may be anything. The second line, not trimmed, is the base64 of the key. Later
-- lines are ignored.
abbrev pub secret_key_in_lines : List (List ℕ) → Result SecretKeyRecord Fault
secret_key_in_lines [] = Err (Named named.MissingSecretKeyComment)
secret_key_in_lines (comment ∷ []) = Err (Named named.MissingEncodedSecretKey)
secret_key_in_lines (comment ∷ encoded ∷ later) =
    require (is_base64 encoded) named.SecretKeyNotBase64 (read_secret_key_bytes (base64_bytes encoded))

-- The secret key in a text, encrypted or not, or the error of the first check that fails.
unfoldable pub read_secret_key : List ℕ → Result SecretKeyRecord Fault
read_secret_key text = secret_key_in_lines (lines text)

-- The grammar of secret key files as a relation: the second line is the base64 of the key.
pub record SecretKeyText (text : List ℕ) (k : SecretKeyRecord) : Type 0 where
  pub comment : List ℕ
  pub encoded : List ℕ
  pub later : List (List ℕ)
  pub cut : lines text ≡ comment ∷ encoded ∷ later
  pub key : Encodes ReadsSecretKey encoded k

unfoldable pub default_secret_key_comment : List ℕ
default_secret_key_comment = codes "rsign encrypted secret key"

-- The text of a secret key with the given comment or the default one.
unfoldable pub secret_key_text : Option (List ℕ) → SecretKeyRecord → List ℕ
secret_key_text comment k = line (untrusted_comment_label ++ unwrap_or comment default_secret_key_comment)
    ++ line (base64_of (secret_key_bytes k))
