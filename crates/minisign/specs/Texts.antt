-- Shared definitions for key and signature files: lines, base64 (RFC 4648, section 4), and checks that are
-- made in order, so that the first failure decides the error.
use Rattle.std.specs.Prelude.{◌≡◌, ◌↔◌, ◌⊎◌, ℕ, ◌%◌, Bool, if◌then◌else◌, bytes_eq, map, List, Result, Ok}
use Rattle.std.specs.Prelude.{Err, codes, [], ◌∷◌, ◌++◌}
use Rattle.minisign_base.specs.Fault.{Fault, Named}
use Rattle.minisign_base.specs.declared.faults.NamedFault.{NamedFault}
use Rattle.minisign_base.specs.declared.faults.NamedFault.TheVariants.{OutOfMemory}
use Rattle.base64.specs.Engines.{standard}
use Rattle.base64.specs.GeneralPurpose.{encode_of, decoded_bytes_of, IsBytes}

-- A text followed by a line feed.
abbrev pub line : List ℕ → List ℕ
line text = text ++ 10 ∷ []

-- The base64 of bytes, with padding.
unfoldable pub base64_of : List ℕ → List ℕ
base64_of bytes = encode_of standard bytes

-- The text is the base64 of the bytes.
pub record IsBase64Of (text bytes : List ℕ) : Type 0 where
  pub each : IsBytes bytes
  pub encoded : text ≡ base64_of bytes

-- The text is the base64 of bytes from which the value v is read. The relation `Reads` says which bytes are
-- allowed, for example ReadsSecretKey, which ignores bytes after the record of a secret key.
pub record Encodes {V : Type 0} (Reads : List ℕ → V → Type 0) (text : List ℕ) (v : V) : Type 0 where
  pub bytes : List ℕ
  pub base64 : IsBase64Of text bytes
  pub reads : Reads bytes v

-- The bytes that a text decodes to.
unfoldable pub base64_bytes : List ℕ → List ℕ
base64_bytes text = map (λ b. b % 256) (decoded_bytes_of standard text)

-- True if the text is base64: encoding the bytes that it decodes to gives the text again. So only
-- the canonical encoding is accepted.
unfoldable pub is_base64 : List ℕ → Bool
is_base64 text = bytes_eq text (base64_of (base64_bytes text))

-- The result `more` if the check holds, and otherwise the error.
abbrev pub require : {V : Type 0} → Bool → NamedFault → Result V Fault → Result V Fault
require holds fault more = if holds then more else Err (Named fault)

-- Applies a function that may fail to the value, or returns the error.
abbrev pub and_then : {V W : Type 0} → Result V Fault → (V → Result W Fault) → Result W Fault
and_then (Ok v) more = more v
and_then (Err e) more = Err e

-- Applies a function to the value, or returns the error.
abbrev pub map_ok : {V W : Type 0} → (V → W) → Result V Fault → Result W Fault
map_ok f (Ok v) = Ok (f v)
map_ok f (Err e) = Err e

-- The result is the given one, or it is out of memory.
abbrev pub IsValueOrNoMemory : {V : Type 0} → Result V Fault → Result V Fault → Type 0
IsValueOrNoMemory answer given = (answer ≡ given) ⊎ (answer ≡ Err (Named OutOfMemory))

-- The result of a parser agrees with the relation that defines its grammar: it is a value exactly if the
-- relation holds for this value. So the relation holds for at most one value, and for none if the result is
-- an error.
pub record IsReading {V E : Type 0} (reads : V → Type 0) (read : Result V E) : Type 0 where
  pub value : (v : V) → (read ≡ Ok v) ↔ reads v

-- The label at the beginning of a key file or signature file.
unfoldable pub untrusted_comment_label : List ℕ
untrusted_comment_label = codes "untrusted comment: "
