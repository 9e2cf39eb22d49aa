-- The error numbers for programs in other languages, and their texts. The numbers of named errors are in
-- their table, `fault_row`.
use Rattle.std.specs.Prelude.{◌≡◌, ◌≢◌, ◌==◌, ◌||◌, ℕ, Bool, true, ◌<◌, ◌-◌, ◌+◌, List, [], ◌∷◌, ◌++◌, codes}
use Rattle.std.specs.Prelude.{length, take, drop, min}
use Rattle.minisign_base.specs.Fault.{Fault, Named, Custom}
use Rattle.minisign_base.specs.Faults.{fault_row}
use Rattle.minisign_base.specs.declared.errors.ErrorKind.{ErrorKind}
use Rattle.minisign_base.specs.declared.errors.ErrorKind.TheVariants.{Generate, Sign, Verify, Io, Misc, Hash}
use Rattle.minisign_base.specs.declared.errors.ErrorKind.TheVariants.{KDF, RNG, Encoding, EncryptedKey}
use Rattle.minisign_base.specs.declared.errors.ErrorKind.TheVariants.{OutOfMemory}
use Rattle.minisign_base.specs.declared.faults.NamedFault.{NamedFault}
use Rattle.minisign_external.specs.declared.state.Misuse.{Misuse}
use Rattle.minisign_external.specs.declared.state.Misuse.TheVariants.{NotBegun, AlreadyAsked, NotAsked}
use Rattle.minisign_external.specs.declared.state.Misuse.TheVariants.{BadAnswer, NoRoom, BadLegacyFlag}
use Rattle.minisign_external.specs.declared.state.Misuse.TheVariants.{BadComment, BadPasswordFlag}
use Rattle.minisign_external.specs.declared.state.Misuse.TheVariants.{UnreadableComment, NotDue, BadOption}
use Rattle.minisign_external.specs.declared.state.Misuse.TheVariants.{BadNumbering, KeyNotOpened, KeyNotRead}
use Rattle.minisign_external.specs.declared.state.Misuse.TheVariants.{SignatureNotRead, OtherSignatureText}
use Rattle.minisign_external.specs.declared.state.Misuse.TheVariants.{EmptyPassword, PublicKeyNotRead}
use Rattle.minisign_external.specs.declared.state.Misuse.TheVariants.{WeakSealing, ListNotVerified}
use Rattle.minisign_external.specs.declared.state.Misuse.TheVariants.{OtherListText, BadHash, EntryNotRead}
use Rattle.minisign_external.specs.declared.state.Refusal.{Refusal}
use Rattle.minisign_external.specs.declared.state.Refusal.TheVariants.{WrongUse, Refused}

-- The error number of API misuse.
abbrev pub misuse_number : Misuse → ℕ
misuse_number NotBegun = 1
misuse_number AlreadyAsked = 2
misuse_number NotAsked = 3
misuse_number BadAnswer = 4
misuse_number NoRoom = 5
misuse_number BadLegacyFlag = 6
misuse_number BadComment = 9
misuse_number BadPasswordFlag = 10
misuse_number UnreadableComment = 11
misuse_number NotDue = 12
misuse_number BadOption = 13
misuse_number BadNumbering = 14
misuse_number KeyNotOpened = 15
misuse_number KeyNotRead = 63
misuse_number SignatureNotRead = 62
misuse_number OtherSignatureText = 61
misuse_number PublicKeyNotRead = 82
misuse_number EmptyPassword = 83
misuse_number WeakSealing = 84
misuse_number ListNotVerified = 85
misuse_number OtherListText = 86
misuse_number BadHash = 87
misuse_number EntryNotRead = 88

-- The English text of API misuse.
abbrev pub misuse_text : Misuse → List ℕ
misuse_text NotBegun = codes
    "the state is not initialized, or its verdict was already returned: call minisign_init first"
misuse_text AlreadyAsked = codes
    "this call comes too late: minisign_ask or minisign_digest was already called for this state"
misuse_text NotAsked = codes "no verdict is possible yet: call minisign_ask and minisign_digest first"
misuse_text BadAnswer = codes
    "the result of an Ed25519 check must be MINISIGN_ANSWER_YES or MINISIGN_ANSWER_NO"
misuse_text NoRoom = codes "a buffer is too small for this call"
misuse_text BadLegacyFlag = codes "the parameter 'allow_legacy' must be 0 or 1"
misuse_text BadComment = codes
    "a comment contains a line break, or the trusted comment begins or ends with white space"
misuse_text BadPasswordFlag = codes "the parameter 'with_password' must be 0, 1 or 2"
misuse_text UnreadableComment = codes
    "a comment is too long for Minisign, or contains a zero byte or a carriage return"
misuse_text NotDue = codes
    "unexpected call or error number: minisign_install_due returns the step that is expected now"
misuse_text BadOption = codes
    "an option of the installation is not valid, or must not be combined with another option"
misuse_text BadNumbering = codes
    "'numbering' must be MINISIGN_NUMBERING_TIMESTAMP or MINISIGN_NUMBERING_VERSION"
misuse_text KeyNotOpened = codes
    "the secret key is not open: call minisign_open_sealed_key or minisign_open_unsealed_key first"
misuse_text KeyNotRead = codes "no secret key was read: call minisign_read_secret_key first"
misuse_text SignatureNotRead = codes
    "no signature was read, or it has no comments: call minisign_read_signature first"
misuse_text OtherSignatureText = codes
    "the signature was read from a different signature file than the one passed with it"
misuse_text PublicKeyNotRead = codes "no public key was read: call minisign_read_public_key first"
misuse_text EmptyPassword = codes "the password must not be empty"
misuse_text WeakSealing = codes "the salt is all zeros, or a scrypt limit is below Minisign's minimum"
misuse_text ListNotVerified = codes "the list has not been verified"
misuse_text OtherListText = codes "the text is not the list that was verified"
misuse_text BadHash = codes "the hash function or the length of its digest is not accepted here"
misuse_text EntryNotRead = codes "the entry has not been read from a list"

-- The numbers that a caller passes in as the result of an Ed25519 check: the letters "yes" and "no", one byte
-- each. Both are different from 0, 1 and all error numbers, so a caller that passes in one of those by
-- mistake gets the error BadAnswer, and not a verdict.
abbrev pub answer_yes : ℕ
answer_yes = 7955827

abbrev pub answer_no : ℕ
answer_no = 28271

-- The number is `answer_yes` or `answer_no`.
abbrev pub is_answer : ℕ → Bool
is_answer n = (n == answer_yes) || (n == answer_no)

abbrev pub IsAnswer : ℕ → Type 0
IsAnswer n = is_answer n ≡ true

-- The number and the text of the error for a weak public key or signature, which only the calls for other
-- languages return.
abbrev pub weak_number : ℕ
weak_number = 81

abbrev pub weak_text : List ℕ
weak_text = codes "weak or non-canonical Ed25519 public key or signature"

-- The numbers of the kinds of errors for programs in other languages. The kind API misuse exists only there.
abbrev pub misuse_kind : ℕ
misuse_kind = 1

abbrev pub kind_number : ErrorKind → ℕ
kind_number Generate = 2
kind_number Sign = 3
kind_number Verify = 4
kind_number Io = 5
kind_number Misc = 6
kind_number Hash = 7
kind_number KDF = 8
kind_number RNG = 9
kind_number Encoding = 10
kind_number EncryptedKey = 11
kind_number OutOfMemory = 12

-- The number of an error of the library. An error without a name has the number 255, which no call returns.
abbrev pub fault_number : Fault → ℕ
fault_number (Named f) = (fault_row f).number
fault_number (Custom kind text) = 255

-- The error number of a failed call: that of the API misuse, or that of the error in its own table.
abbrev pub refusal_number : {F : Type 0} → (F → ℕ) → Refusal F → ℕ
refusal_number number (WrongUse m) = misuse_number m
refusal_number number (Refused e) = number e

-- The number is neither 0 nor the number of an error of this library.
pub record IsUnlisted (n : ℕ) : Type 0 where
  pub failure : n ≢ 0
  pub misuse : (m : Misuse) → n ≢ misuse_number m
  pub weak : n ≢ weak_number
  pub fault : (f : NamedFault) → n ≢ (fault_row f).number

-- If the number is 0 or the number of an error of this library, the text is its meaning.
pub record IsListedMeaning (n : ℕ) (text : List ℕ) : Type 0 where
  pub success : n ≡ 0 → text ≡ codes "no error"
  pub misuse : (m : Misuse) → n ≡ misuse_number m → text ≡ misuse_text m
  pub weak : n ≡ weak_number → text ≡ weak_text
  pub fault : (f : NamedFault) → n ≡ (fault_row f).number → text ≡ (fault_row f).summary

-- If n is the number of an error of this library, k is the number of its kind. If n is 0, k is 0.
pub record IsListedKind (n : ℕ) (k : ℕ) : Type 0 where
  pub success : n ≡ 0 → k ≡ 0
  pub misuse : (m : Misuse) → n ≡ misuse_number m → k ≡ misuse_kind
  pub weak : n ≡ weak_number → k ≡ kind_number Verify
  pub fault : (f : NamedFault) → n ≡ (fault_row f).number → k ≡ kind_number (fault_row f).kind

-- k is the number of the kind of the error that has the number n, or 0 if no error has this number.
pub record IsKindOf (n : ℕ) (k : ℕ) : Type 0 where
  pub listed : IsListedKind n k
  pub unknown : IsUnlisted n → k ≡ 0

abbrev pub unknown_text : List ℕ
unknown_text = codes "unknown error"

-- The text is the meaning of the number, or "unknown error" if the number has no meaning.
pub record IsMeaning (n : ℕ) (text : List ℕ) : Type 0 where
  pub listed : IsListedMeaning n text
  pub unknown : IsUnlisted n → text ≡ unknown_text

-- The new buffer begins with as much of the text as fits before a 0 byte, and the 0. The bytes after the 0
-- are unchanged. An empty buffer is unchanged.
abbrev pub WritesCut : List ℕ → List ℕ → List ℕ → Type 0
WritesCut text old new =
    let n = 1 + min (length text) (length old - 1) in
    (length new ≡ length old)
    × (0 < length old → (take n new ≡ take (length old - 1) text ++ 0 ∷ []) × (drop n new ≡ drop n old))
