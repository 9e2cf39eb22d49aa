-- The struct that holds a public key, and how it is read from a file.
use Rattle.std.specs.Prelude.{◌==◌, ℕ, Bool, List, [], Result, Ok, Err}
use Rattle.std.specs.Str.{is_utf8}
use Rattle.minisign_base.specs.Fault.{Fault}
use Rattle.minisign_base.specs.declared.faults.NamedFault.TheVariants.{NotUtf8}
use Rattle.minisign.specs.Records.{PublicKeyRecord}
use Rattle.minisign.specs.Texts.{require}
use Rattle.minisign_external.specs.Numbers.{fault_number}
use Rattle.minisign_external.specs.declared.public_keys.PublicKeyValue.{PublicKeyValue}

-- The mark of a public key that was read, or obtained from a secret key: "minispub".
abbrev pub public_mark : ℕ
public_mark = 7094700428984478061

abbrev pub is_public_key : PublicKeyValue → Bool
is_public_key v = v.mark == public_mark

-- The struct for a public key: the mark, the 32 bytes of the key, and its key ID.
abbrev pub value_of : PublicKeyRecord → PublicKeyValue
value_of k = record { mark = public_mark; key = k.key; key_id = k.keynum }

-- The public key in a struct. Its algorithm does not matter when verifying.
abbrev pub key_of : PublicKeyValue → PublicKeyRecord
key_of v = record { algorithm = []; keynum = v.key_id; key = v.key }

-- Parses bytes that must be UTF-8.
abbrev pub read_utf8 : {V : Type 0} → (List ℕ → Result V Fault) → List ℕ → Result V Fault
read_utf8 read bytes = require (is_utf8 bytes) NotUtf8 (read bytes)

-- The result of a call that reads a key, and the struct afterwards, which is unchanged after an error.
abbrev pub key_outcome : Result PublicKeyRecord Fault → PublicKeyValue → Result Unit Fault × PublicKeyValue
key_outcome (Ok k) old = (Ok tt, value_of k)
key_outcome (Err e) old = (Err e, old)

-- The outcome for other languages of a call that reads a key: 0 or the error number, and the struct
-- afterwards.
abbrev pub key_outcome_number : Result PublicKeyRecord Fault → PublicKeyValue → ℕ × PublicKeyValue
key_outcome_number (Ok k) old = (0, value_of k)
key_outcome_number (Err e) old = (fault_number e, old)
