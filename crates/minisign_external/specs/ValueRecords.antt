-- The records of keys and signatures, which are the bytes that the base64 in their files encodes: how the
-- structs are read from records and written to them. A secret key is unopened as long as it was only read. It
-- is opened when its fields were checked, after decryption if it was encrypted. An unsealed key is not
-- encrypted.
use Rattle.std.specs.Prelude.{◌==◌, ◌||◌, ℕ, nat_le, Bool, if◌then◌else◌, bytes_eq, List, ◌++◌, codes}
use Rattle.std.specs.Prelude.{length, take, drop, replicate, Result, Ok, Err}
use Rattle.minisign_base.specs.Fault.{Fault}
use Rattle.minisign_base.specs.declared.faults.NamedFault.TheVariants.{RecordTooShort}
use Rattle.minisign_base.specs.declared.faults.NamedFault.TheVariants.{UnsupportedSignatureAlgorithm}
use Rattle.minisign.specs.Records.{PublicKeyRecord, SignatureRecord, is_prehashed, legacy_algorithm}
use Rattle.minisign.specs.Records.{prehashed_algorithm, public_key_bytes, secret_key_bytes, signature_bytes}
use Rattle.minisign.specs.Generation.{unsealed_key}
use Rattle.minisign.specs.Sealing.{no_kdf}
use Rattle.minisign.specs.Texts.{map_ok, require}
use Rattle.minisign_external.specs.Numbers.{fault_number, misuse_number}
use Rattle.minisign_external.specs.PublicKeys.{is_public_key}
use Rattle.minisign_external.specs.SecretKeys.{is_opened, read_value}
use Rattle.minisign_external.specs.Signatures.{signature_mark, signature_of_value}
use Rattle.minisign_external.specs.declared.public_keys.PublicKeyValue.{PublicKeyValue}
use Rattle.minisign_external.specs.declared.secrets.SecretKeyValue.{SecretKeyValue}
use Rattle.minisign_external.specs.declared.signatures.SignatureValue.{SignatureValue}
use Rattle.minisign_external.specs.declared.unopened_keys.UnopenedKeyValue.{UnopenedKeyValue}
use Rattle.minisign_external.specs.declared.state.Misuse.{Misuse}
use Rattle.minisign_external.specs.declared.state.Misuse.TheVariants.{KeyNotOpened, PublicKeyNotRead}
use Rattle.minisign_external.specs.declared.state.Misuse.TheVariants.{SignatureNotRead}

-- == Public keys ==

-- The public key in the first 42 bytes: algorithm (2), key ID (8), key bytes (32). Later bytes are ignored.
abbrev pub public_key_in : List ℕ → Result PublicKeyRecord Fault
public_key_in bytes =
    require (nat_le 42 (length bytes)) RecordTooShort
    (Ok (record {
      algorithm = take 2 bytes;
      keynum = take 8 (drop 2 bytes);
      key = take 32 (drop 8 (drop 2 bytes));
    }))

-- The public key in a struct, with the algorithm "Ed", which Minisign writes in every public key.
abbrev pub written_public_key : PublicKeyValue → PublicKeyRecord
written_public_key v = record { algorithm = legacy_algorithm; keynum = v.key_id; key = v.key }

-- The 42 bytes of a public key that was read.
abbrev pub public_key_record : PublicKeyValue → Result (List ℕ) Misuse
public_key_record v =
    if is_public_key v then Ok (public_key_bytes (written_public_key v)) else Err PublicKeyNotRead

-- == Signatures ==

-- The signature in the first 74 bytes: algorithm (2), which must be known, key ID (8), signature (64). Later
-- bytes are ignored.
abbrev pub signature_in : List ℕ → Result SignatureRecord Fault
signature_in bytes =
    let algorithm = take 2 bytes in
    require (nat_le 74 (length bytes)) RecordTooShort
    (require (bytes_eq algorithm legacy_algorithm || bytes_eq algorithm prehashed_algorithm)
    UnsupportedSignatureAlgorithm
    (Ok (record {
      algorithm = algorithm;
      keynum = take 8 (drop 2 bytes);
      signature = take 64 (drop 8 (drop 2 bytes));
    })))

-- The mark of a bare signature, one that was read from a record: "minisigb".
abbrev pub bare_mark : ℕ
bare_mark = 7090752082729134445

-- The struct for a bare signature. The fields about comments and about a signature file are 0.
abbrev pub bare_value : SignatureRecord → SignatureValue
bare_value s = record {
  mark = bare_mark;
  key_id = s.keynum;
  signature = s.signature;
  comment_signature = replicate 64 0;
  comment_offset = 0;
  comment_len = 0;
  text_digest = replicate 32 0;
  algorithm = s.algorithm;
  legacy = if is_prehashed s then 0 else 1;
  whole = 0;
  reserved = 0;
}

-- The struct for the bare signature in these bytes.
abbrev pub read_bare_value : List ℕ → Result SignatureValue Fault
read_bare_value bytes = map_ok bare_value (signature_in bytes)

-- A signature was read into the struct, from a signature file or from a record.
abbrev pub has_signature : SignatureValue → Bool
has_signature s = (s.mark == signature_mark) || (s.mark == bare_mark)

-- The 74 bytes of a signature that was read.
abbrev pub signature_record : SignatureValue → Result (List ℕ) Misuse
signature_record s =
    if has_signature s then Ok (signature_bytes (signature_of_value s)) else Err SignatureNotRead

-- == Secret keys ==

-- The struct for the secret key in the first 158 bytes. Later bytes are ignored.
abbrev pub unopened_in : List ℕ → Result UnopenedKeyValue Fault
unopened_in bytes = require (nat_le 158 (length bytes)) RecordTooShort (Ok (read_value (take 158 bytes)))

-- The first three fields of a key that is not encrypted: the algorithm, no key derivation, and the
-- algorithm of the checksum.
abbrev pub unsealed_algorithms : List ℕ
unsealed_algorithms = legacy_algorithm ++ no_kdf ++ codes "B2"

-- The 158 bytes of an opened key, written without encryption.
abbrev pub secret_key_record : SecretKeyValue → Result (List ℕ) Misuse
secret_key_record v =
    if is_opened v then Ok (secret_key_bytes (unsealed_key v.key_id v.secret)) else Err KeyNotOpened

-- == Outcomes of the calls ==

-- The result of a call that reads a secret key, and the struct afterwards, which is unchanged after an error.
abbrev pub unopened_outcome : Result UnopenedKeyValue Fault → UnopenedKeyValue
    → Result Unit Fault × UnopenedKeyValue
unopened_outcome (Ok v) old = (Ok tt, v)
unopened_outcome (Err e) old = (Err e, old)

-- The outcome of such a call for other languages: 0 or the error number, and the struct afterwards.
abbrev pub unopened_outcome_number : Result UnopenedKeyValue Fault → UnopenedKeyValue → ℕ × UnopenedKeyValue
unopened_outcome_number (Ok v) old = (0, v)
unopened_outcome_number (Err e) old = (fault_number e, old)

-- The result of a call that writes the record of a key or a signature, and the buffer afterwards, which is
-- unchanged after an error.
abbrev pub record_outcome : Result (List ℕ) Misuse → List ℕ → Result Unit Misuse × List ℕ
record_outcome (Ok bytes) old = (Ok tt, bytes)
record_outcome (Err m) old = (Err m, old)

-- The outcome of such a call for other languages: 0 or the error number, and the buffer afterwards.
abbrev pub record_outcome_number : Result (List ℕ) Misuse → List ℕ → ℕ × List ℕ
record_outcome_number (Ok bytes) old = (0, bytes)
record_outcome_number (Err m) old = (misuse_number m, old)
