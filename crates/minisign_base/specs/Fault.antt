-- An error: a named error of the library, or a kind and a text that the caller chose.
use Rattle.std.specs.Prelude.{ℕ, List, Option, Some, None, string_bytes}
use Rattle.minisign_base.specs.Faults.{fault_row, named_text}
use Rattle.minisign_base.specs.declared.errors.ErrorKind.{ErrorKind}
use Rattle.minisign_base.specs.declared.errors.Meaning.{Meaning}
use Rattle.minisign_base.specs.declared.errors.Meaning.TheVariants as stored
use Rattle.minisign_base.specs.declared.faults.NamedFault.{NamedFault}

pub data Fault : Type 0 where
  Named : NamedFault → Fault
  Custom : ErrorKind → List ℕ → Fault

-- The named error, if it is one.
abbrev pub name_of : Fault → Option NamedFault
name_of (Named f) = Some f
name_of (Custom kind text) = None

abbrev pub kind_of : Fault → ErrorKind
kind_of (Named f) = (fault_row f).kind
kind_of (Custom kind text) = kind

abbrev pub text_of : Fault → List ℕ
text_of (Named f) = named_text f
text_of (Custom kind text) = text

-- The error that this representation encodes.
abbrev pub fault_of : Meaning → Fault
fault_of (stored.Named f) = Named f
fault_of (stored.StaticText kind text) = Custom kind text.now
fault_of (stored.OwnedText kind text) = Custom kind (string_bytes text)
