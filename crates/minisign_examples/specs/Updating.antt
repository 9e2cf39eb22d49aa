-- The verdict on an update under its name.
use Rattle.std.specs.Prelude.{ℕ, ⊤, false, List, Result, Ok, Err, bytes_eq, codes, if◌then◌else◌}
use Rattle.minisign.specs.Fault.{Fault, Custom}
use Rattle.minisign.specs.ErrorKinds.{Verify}
use Rattle.minisign.specs.Acceptance.{Verifier}
use Rattle.minisign.specs.Headline.{verdict}
use Rattle.minisign.specs.Texts.{and_then}

-- The error of an update with another name.
unfoldable pub another_name : Fault
another_name = Custom Verify (codes "the update has another name")

-- The trusted comment is the name.
abbrev pub named : List ℕ → List ℕ → Result ⊤ Fault
named name comment = if bytes_eq comment name then Ok tt else Err another_name

-- The verdict on an update under its name: the first check that fails, first of the texts and then
-- of the name.
abbrev pub named_verdict : Verifier → List ℕ → List ℕ → List ℕ → List ℕ → Result ⊤ Fault
named_verdict accepts pk_text sig_text update name =
    and_then (verdict accepts pk_text sig_text update false) (named name)
