-- The two structs that hold a secret key, one before and one after it is opened (decrypted), and the result
-- of opening it.
use Rattle.std.specs.Prelude.{◌≡◌, ◌==◌, ◌⊎◌, ◌&&◌, ◌*◌, ◌^◌, ℕ, max, not, nat_le, nat_lt, Bool, true}
use Rattle.std.specs.Prelude.{if◌then◌else◌, bytes_eq, List, drop, Option, None, Some, Result, Ok, Err, IsOk}
use Rattle.std.specs.Prelude.{replicate}
use Rattle.std.specs.Str.{IsUtf8}
use Rattle.minisign_base.specs.Fault.{Fault, Named}
use Rattle.minisign_base.specs.Steps.{without_value}
use Rattle.minisign_base.specs.declared.faults.NamedFault.TheVariants.{OutOfMemory}
use Rattle.minisign_kdf.specs.Params.{Numbers}
use Rattle.minisign.specs.Records.{SecretKeyRecord}
use Rattle.minisign.specs.Sealing.{allowed_rows, no_kdf, opening_memory, opening_work, restored_key}
use Rattle.minisign.specs.Sealing.{sealed_by_scrypt, unencrypted_key, wants_password, xored_key}
use Rattle.minisign.specs.KeyTexts.{read_secret_key, secret_key_of_bytes}
use Rattle.minisign.specs.Texts.{and_then}
use Rattle.minisign_external.specs.Numbers.{fault_number, misuse_number, refusal_number}
use Rattle.minisign_external.specs.PublicKeys.{public_mark, read_utf8}
use Rattle.minisign_external.specs.States.{result_of_check}
use Rattle.minisign_external.specs.declared.public_keys.PublicKeyValue.{PublicKeyValue}
use Rattle.minisign_external.specs.declared.secrets.SecretKeyValue.{SecretKeyValue}
use Rattle.minisign_external.specs.declared.unopened_keys.UnopenedKeyValue.{UnopenedKeyValue}
use Rattle.minisign_external.specs.declared.state.Misuse.{Misuse}
use Rattle.minisign_external.specs.declared.state.Misuse.TheVariants.{KeyNotOpened, KeyNotRead, NoRoom}
use Rattle.minisign_external.specs.declared.state.Refusal.{Refusal}
use Rattle.minisign_external.specs.declared.state.Refusal.TheVariants.{WrongUse, Refused}

-- == A key as its file contains it ==

-- The mark (magic number) of a key that was read and is not opened yet: "minisrec".
abbrev pub read_mark : ℕ
read_mark = 7162256622418291053

abbrev pub is_read : UnopenedKeyValue → Bool
is_read v = v.mark == read_mark

-- The key record in a struct: the 158 bytes that the base64 in the key file encodes.
abbrev pub unopened_record : UnopenedKeyValue → SecretKeyRecord
unopened_record v = secret_key_of_bytes v.bytes

-- The struct for the key record in these 158 bytes. log2_rows and work are the base-2 logarithm of scrypt's
-- N, and scrypt's p.
abbrev pub read_value : List ℕ → UnopenedKeyValue
read_value bytes =
    let k = secret_key_of_bytes bytes in
    record {
      mark = read_mark;
      bytes = bytes;
      is_sealed = if wants_password k then 1 else 0;
      log2_rows = (opening_work k).0;
      work = (opening_work k).1;
      reserved = 0;
    }

-- The result of reading a secret key file as a number: 0, or the error number.
abbrev pub reading_number : Result SecretKeyRecord Fault → ℕ
reading_number (Ok k) = 0
reading_number (Err e) = fault_number e

-- == An open key ==

-- The mark of an open key: "minissec".
abbrev pub opened_mark : ℕ
opened_mark = 7162257721929918829

abbrev pub is_opened : SecretKeyValue → Bool
is_opened v = v.mark == opened_mark

-- The struct for an open key with this key ID and these 64 secret bytes.
abbrev pub opened_key_value : List ℕ → List ℕ → SecretKeyValue
opened_key_value key_id secret = record { mark = opened_mark; key_id = key_id; secret = secret }

-- The public key of an open key: the last 32 of its 64 secret bytes. It is API misuse if the key is not open.
abbrev pub public_value_of : SecretKeyValue → Result PublicKeyValue Misuse
public_value_of v =
    if is_opened v then Ok (record { mark = public_mark; key = drop 32 v.secret; key_id = v.key_id }) else
    Err KeyNotOpened

-- The outcome for other languages of a call that returns a public key: 0 or the error number, and the
-- caller's struct afterwards, which is unchanged after an error.
abbrev pub public_key_outcome : Result PublicKeyValue Misuse → PublicKeyValue → ℕ × PublicKeyValue
public_key_outcome (Ok v) old = (0, v)
public_key_outcome (Err m) old = (misuse_number m, old)

-- == Opening ==

-- The key is not encrypted and its checksum is 32 zeros, as Minisign writes it.
abbrev pub lacks_checksum : SecretKeyRecord → Bool
lacks_checksum k = bytes_eq k.kdf no_kdf && bytes_eq k.checksum (replicate 32 0)

-- The key, if it is not encrypted and its checksum matches or is 32 zeros, otherwise the error.
abbrev pub open_unsealed : SecretKeyRecord → Result SecretKeyRecord Fault
open_unsealed k = if lacks_checksum k then Ok k else unencrypted_key k

-- The encrypted key, decrypted with a password, or the error. It is an error if scrypt computes more than
-- `most_rows` rows in total.
abbrev pub open_within : SecretKeyRecord → List ℕ → ℕ → Result SecretKeyRecord Fault
open_within k password most_rows = and_then (sealed_by_scrypt k)
    (λ s. and_then (allowed_rows s most_rows) (λ _. restored_key (xored_key s password)))

-- Opening the struct has the same result as opening the file: without a password, and with every password and
-- every bound on the rows.
abbrev pub OpensLikeFile : UnopenedKeyValue → List ℕ → Type 0
OpensLikeFile v text = (open_unsealed (unopened_record v) ≡ and_then (read_secret_key text) open_unsealed)
    × ((password : List ℕ) (most_rows : ℕ) → open_within (unopened_record v) password most_rows
    ≡ and_then (read_secret_key text) (λ k. open_within k password most_rows))

-- The result of a library function as the result of a call of this crate, whose errors may also be API
-- misuse.
abbrev pub with_refusal : Result SecretKeyRecord Fault → Result SecretKeyRecord (Refusal Fault)
with_refusal (Ok key) = Ok key
with_refusal (Err e) = Err (Refused e)

-- Opens the key in the struct without a password: a key must have been read, and it must not be encrypted.
abbrev pub opened_unsealed : UnopenedKeyValue → Result SecretKeyRecord (Refusal Fault)
opened_unsealed v = if is_read v then with_refusal (open_unsealed (unopened_record v)) else
    Err (WrongUse KeyNotRead)

-- Opens the key in the struct with a password, if scrypt computes at most `most_rows` rows: a key must have
-- been read, the password must be UTF-8, and the key must be encrypted.
abbrev pub opened_sealed : UnopenedKeyValue → List ℕ → ℕ → Result SecretKeyRecord (Refusal Fault)
opened_sealed v password most_rows =
    if is_read v then with_refusal (read_utf8 (λ p. open_within (unopened_record v) p most_rows) password)
    else Err (WrongUse KeyNotRead)

-- The checks of an encrypted key that need no password: it is encrypted with scrypt, and its limits are
-- allowed and need at most `most_rows` rows.
abbrev pub sealed_within : SecretKeyRecord → ℕ → Result Numbers Fault
sealed_within k most_rows = and_then (sealed_by_scrypt k) (λ s. allowed_rows s most_rows)

-- The result of checking the encrypted key in the struct without its password. A key must have been read.
abbrev pub checked_sealed_key : UnopenedKeyValue → ℕ → Result Unit (Refusal Fault)
checked_sealed_key v most_rows =
    if is_read v then result_of_check (without_value (sealed_within (unopened_record v) most_rows)) else
    Err (WrongUse KeyNotRead)

-- Opening the key in the struct with a password runs scrypt: a key was read, the password is UTF-8, and the
-- key is encrypted with scrypt, with limits that are allowed and need at most `most_rows` rows.
abbrev pub DerivesWithin : UnopenedKeyValue → List ℕ → ℕ → Type 0
DerivesWithin v password most_rows = (is_read v ≡ true) × IsUtf8 password
    × IsOk (and_then (sealed_by_scrypt (unopened_record v)) (λ s. allowed_rows s most_rows))

-- Opening the key computes at most `most` rows of scrypt, which computes N * p rows. It computes none if the
-- key is rejected before scrypt begins.
abbrev pub computes_at_most : SecretKeyRecord → ℕ → Bool
computes_at_most k most = not (nat_lt most (2 ^ (opening_work k).0 * (opening_work k).1))

-- The memory for opening the key in the struct in place, if only every k-th row of scrypt is kept (k = 0
-- means 1): the number of 32-bit words, and the number of bytes. A key that needs more than `most_rows` rows
-- needs no memory, because it is rejected before scrypt begins.
abbrev pub value_memory : UnopenedKeyValue → ℕ → ℕ → ℕ × ℕ
value_memory v k most_rows =
    if computes_at_most (unopened_record v) most_rows then opening_memory (unopened_record v) (max k 1) else
    (0, 0)

-- This number of words and bytes is sufficient for opening the key in the struct in place.
abbrev pub is_enough : UnopenedKeyValue → ℕ → ℕ → ℕ → ℕ → Bool
is_enough v k most_rows words bytes =
    nat_le (value_memory v k most_rows).0 words && nat_le (value_memory v k most_rows).1 bytes

-- Opens the key in the struct with a password, in memory of this number of words and bytes. The errors are,
-- in this order: the key was not read; the memory is not sufficient; those of `opened_sealed`.
abbrev pub opened_in_place : UnopenedKeyValue → List ℕ → ℕ → ℕ → ℕ → ℕ
    → Result SecretKeyRecord (Refusal Fault)
opened_in_place v password k most_rows words bytes =
    if is_read v && not (is_enough v k most_rows words bytes) then Err (WrongUse NoRoom) else
    opened_sealed v password most_rows

-- Opens a key record: without a password if it is not encrypted, or with one if it is encrypted and scrypt
-- needs at most `most_rows` rows.
abbrev pub open_record : SecretKeyRecord → Option (List ℕ) → ℕ → Result SecretKeyRecord Fault
open_record k None most_rows = open_unsealed k
open_record k (Some password) most_rows = read_utf8 (λ p. open_within k p most_rows) password

-- Opening the key record runs scrypt.
abbrev pub DerivesRecord : SecretKeyRecord → Option (List ℕ) → ℕ → Type 0
DerivesRecord k None most_rows = ⊥
DerivesRecord k (Some password) most_rows = IsUtf8 password
    × IsOk (and_then (sealed_by_scrypt k) (λ s. allowed_rows s most_rows))

-- Opens the key in a secret key file, as `open_record` does.
abbrev pub opened_text : List ℕ → Option (List ℕ) → ℕ → Result SecretKeyRecord Fault
opened_text text password most_rows = and_then (read_utf8 read_secret_key text)
    (λ k. open_record k password most_rows)

-- The error of opening a key record: the first check that fails, or out of memory if opening runs scrypt.
abbrev pub IsOpeningRefusal : SecretKeyRecord → Option (List ℕ) → ℕ → Refusal Fault → Type 0
IsOpeningRefusal k password most_rows (WrongUse m) = ⊥
IsOpeningRefusal k password most_rows (Refused e) =
    (open_record k password most_rows ≡ Err e)
    ⊎ ((e ≡ Named OutOfMemory) × DerivesRecord k password most_rows)

-- The error of opening a secret key file, which may also be malformed.
abbrev pub IsTextOpeningRefusal : List ℕ → Option (List ℕ) → ℕ → Refusal Fault → Type 0
IsTextOpeningRefusal text password most_rows (WrongUse m) = ⊥
IsTextOpeningRefusal text password most_rows (Refused e) =
    (opened_text text password most_rows ≡ Err e)
    ⊎ ((e ≡ Named OutOfMemory) × (k : SecretKeyRecord) × (read_utf8 read_secret_key text ≡ Ok k)
    × DerivesRecord k password most_rows)

-- The result of a call that opens a key, and the struct afterwards, which is unchanged after an error.
abbrev pub opened_or_unchanged : Result SecretKeyRecord (Refusal Fault) → SecretKeyValue
    → Result Unit (Refusal Fault) × SecretKeyValue
opened_or_unchanged (Ok key) old = (Ok tt, opened_key_value key.keynum key.secret)
opened_or_unchanged (Err r) old = (Err r, old)

-- The outcome for other languages of a call that opens a key: 0 or the error number, and the struct
-- afterwards, which is unchanged after an error.
abbrev pub opened_outcome : Result SecretKeyRecord (Refusal Fault) → SecretKeyValue → ℕ × SecretKeyValue
opened_outcome (Ok key) old = (0, opened_key_value key.keynum key.secret)
opened_outcome (Err r) old = (refusal_number fault_number r, old)

-- The password that a caller passes: none if with_password is 0, otherwise these bytes.
abbrev pub passed_password : ℕ → List ℕ → Option (List ℕ)
passed_password with_password bytes = if with_password == 0 then None else Some bytes
