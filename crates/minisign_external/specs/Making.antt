-- Key files that are encoded from a key and written to the start of a buffer, and the errors of the calls
-- that do this.
use Rattle.std.specs.Prelude.{◌≡◌, ◌⊎◌, ◌<◌, ◌≤◌, ◌+◌, ℕ, Bool, true, false, List, length, take, Option}
use Rattle.std.specs.Prelude.{Some, Ok, IfSome}
use Rattle.std.specs.Str.{IsUtf8}
use Rattle.std.specs.Str.Iter.{LacksByte}
use Rattle.minisign_base.specs.Fault.{Fault, Named}
use Rattle.minisign_base.specs.declared.faults.NamedFault.TheVariants.{OutOfMemory, NotUtf8}
use Rattle.minisign.specs.KeyTexts.{read_public_key, read_secret_key, commented_public_key_text}
use Rattle.minisign.specs.KeyTexts.{secret_key_text}
use Rattle.minisign.specs.Generation.{GivesParts, made_key, making_fault, unsealed_key}
use Rattle.minisign.specs.Records.{PublicKeyRecord, SecretKeyRecord, own_public_key}
use Rattle.minisign.specs.declared.making.Sealing.{Sealing}
use Rattle.minisign_external.specs.Numbers.{fault_number, refusal_number}
use Rattle.minisign_external.specs.declared.state.Misuse.{Misuse}
use Rattle.minisign_external.specs.declared.state.Misuse.TheVariants.{BadComment}
use Rattle.minisign_external.specs.declared.state.Misuse.TheVariants.{KeyNotOpened, NoRoom, UnreadableComment}
use Rattle.minisign_external.specs.SecretKeys.{is_opened}
use Rattle.minisign_external.specs.declared.secrets.SecretKeyValue.{SecretKeyValue}
use Rattle.minisign_external.specs.declared.state.Refusal.{Refusal}
use Rattle.minisign_external.specs.declared.state.Refusal.TheVariants.{WrongUse, Refused}

-- Minisign reads the whole comment in the first line of a key file: it has no carriage return and no zero
-- byte, and it fits into Minisign's buffer of 1024 bytes together with the label (19 bytes), a line feed and
-- a zero byte.
pub record IsReadInKey (comment : List ℕ) : Type 0 where
  pub no_return : LacksByte 13 comment
  pub no_zero : LacksByte 0 comment
  pub short : length comment < 1004

-- The comment has no line feed, and Minisign reads all of it.
abbrev pub IsKeyComment : List ℕ → Type 0
IsKeyComment comment = LacksByte 10 comment × IsReadInKey comment

-- The first len bytes of the buffer are the secret key file of these parts. Opening the file with the same
-- password gives the same parts.
pub record HoldsSecretKey (keynum secret : List ℕ) (password : Option (List ℕ)) (s : Sealing)
    (comment bytes : List ℕ)
    (len : ℕ) : Type 0 where
  pub fits : len ≤ length bytes
  pub size : len ≡ length comment + 233
  pub written : take len bytes ≡ secret_key_text (Some comment) (made_key keynum secret password s)
  pub gives : GivesParts (take len bytes) password keynum secret s

-- The first len bytes of the buffer are the public key file of these parts, and parse to their public key.
pub record HoldsPublicKey (keynum secret comment bytes : List ℕ) (len : ℕ) : Type 0 where
  pub fits : len ≤ length bytes
  pub size : len ≡ length comment + 77
  pub written : take len bytes
      ≡ commented_public_key_text comment (own_public_key (unsealed_key keynum secret))
  pub reads : read_public_key (take len bytes) ≡ Ok (own_public_key (unsealed_key keynum secret))

-- The API misuse if a file that is `more` bytes longer than its comment is not written to a buffer: the
-- comment has a line feed; or else Minisign would not read all of the comment; or else the buffer is too
-- short.
abbrev pub IsUnwritable : List ℕ → ℕ → List ℕ → Misuse → Type 0
IsUnwritable comment more bytes m =
    ((m ≡ BadComment) × ¬ (LacksByte 10 comment))
    ⊎ ((m ≡ UnreadableComment) × LacksByte 10 comment × ¬ (IsReadInKey comment))
    ⊎ ((m ≡ NoRoom) × IsKeyComment comment × (length bytes < length comment + more))

-- A file that is `more` bytes longer than its comment can be written to the buffer: IsUnwritable does not
-- hold.
abbrev pub IsWritable : List ℕ → ℕ → List ℕ → Type 0
IsWritable comment more bytes = IsKeyComment comment × (length comment + more ≤ length bytes)

-- The comment and the password are UTF-8.
abbrev pub AreUtf8KeyTexts : List ℕ → Option (List ℕ) → Type 0
AreUtf8KeyTexts comment password = IsUtf8 comment × IfSome password IsUtf8

-- The error if no secret key file is written although the key is open and the comment and the password are
-- UTF-8: the API misuse of IsUnwritable. If the file can be written, the error is that of `making_fault`: the
-- scrypt limits are rejected (only with a password), or memory runs out.
abbrev pub IsMadeRefusal : Option (List ℕ) → Sealing → List ℕ → List ℕ → Refusal Fault → Type 0
IsMadeRefusal password s comment bytes (WrongUse m) = IsUnwritable comment 233 bytes m
IsMadeRefusal password s comment bytes (Refused e) = IsWritable comment 233 bytes
    × (e ≡ making_fault password s)

-- The error if no secret key file is written: the key is not open; or else the comment or the password is not
-- UTF-8; or else an error of IsMadeRefusal, which covers the later checks.
abbrev pub IsMakingRefusal : SecretKeyValue → Option (List ℕ) → Sealing → List ℕ → List ℕ → Refusal Fault
    → Type 0
IsMakingRefusal v password s comment bytes r =
    ((r ≡ WrongUse KeyNotOpened) × (is_opened v ≡ false))
    ⊎ ((r ≡ Refused (Named NotUtf8)) × (is_opened v ≡ true) × ¬ (AreUtf8KeyTexts comment password))
    ⊎ ((is_opened v ≡ true) × AreUtf8KeyTexts comment password × IsMadeRefusal password s comment bytes r)

-- The error if no public key file is written: an error of IsMakingRefusal that does not concern a password,
-- in the same order.
abbrev pub IsPublicKeyRefusal : SecretKeyValue → List ℕ → List ℕ → Refusal Fault → Type 0
IsPublicKeyRefusal v comment bytes (WrongUse m) =
    ((m ≡ KeyNotOpened) × (is_opened v ≡ false))
    ⊎ ((is_opened v ≡ true) × IsUtf8 comment × IsUnwritable comment 77 bytes m)
IsPublicKeyRefusal v comment bytes (Refused e) =
    (is_opened v ≡ true)
    × (((e ≡ Named NotUtf8) × ¬ (IsUtf8 comment))
    ⊎ (IsUtf8 comment × IsWritable comment 77 bytes × (e ≡ Named OutOfMemory)))

-- n is the number of an error of IsPublicKeyRefusal.
abbrev pub IsPublicKeyNumber : SecretKeyValue → List ℕ → List ℕ → ℕ → Type 0
IsPublicKeyNumber v comment bytes n =
    (r : Refusal Fault) × (n ≡ refusal_number fault_number r) × IsPublicKeyRefusal v comment bytes r

-- == Keys that were read, which are written again as they are ==

-- The first len bytes of the buffer are the public key file of this key, and parse to it.
pub record HoldsReadPublicKey (k : PublicKeyRecord) (comment bytes : List ℕ) (len : ℕ) : Type 0 where
  pub fits : len ≤ length bytes
  pub size : len ≡ length comment + 77
  pub written : take len bytes ≡ commented_public_key_text comment k
  pub reads : read_public_key (take len bytes) ≡ Ok k

-- The first len bytes of the buffer are the secret key file of this key as it was read, encrypted or not, and
-- parse to it.
pub record HoldsReadSecretKey (k : SecretKeyRecord) (comment bytes : List ℕ) (len : ℕ) : Type 0 where
  pub fits : len ≤ length bytes
  pub size : len ≡ length comment + 233
  pub written : take len bytes ≡ secret_key_text (Some comment) k
  pub reads : read_secret_key (take len bytes) ≡ Ok k

-- The error if a key is not written to the buffer as a file that is `more` bytes longer than its comment. The
-- errors are, in this order: the API misuse `unread`, if no key was read into the struct; the comment is not
-- UTF-8; the API misuse of IsUnwritable; out of memory.
abbrev pub IsEncodingRefusal : Bool → Misuse → ℕ → List ℕ → List ℕ → Refusal Fault → Type 0
IsEncodingRefusal is_read unread more comment bytes (WrongUse m) =
    ((m ≡ unread) × (is_read ≡ false))
    ⊎ ((is_read ≡ true) × IsUtf8 comment × IsUnwritable comment more bytes m)
IsEncodingRefusal is_read unread more comment bytes (Refused e) =
    (is_read ≡ true)
    × (((e ≡ Named NotUtf8) × ¬ (IsUtf8 comment))
    ⊎ (IsUtf8 comment × IsWritable comment more bytes × (e ≡ Named OutOfMemory)))

-- n is the number of an error of IsEncodingRefusal.
abbrev pub IsEncodingNumber : Bool → Misuse → ℕ → List ℕ → List ℕ → ℕ → Type 0
IsEncodingNumber is_read unread more comment bytes n =
    (r : Refusal Fault) × (n ≡ refusal_number fault_number r)
    × IsEncodingRefusal is_read unread more comment bytes r
