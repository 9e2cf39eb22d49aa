-- Verifying a download by a signed list.
use Rattle.std.specs.Prelude.{◌≡◌, ◌⊎◌, ℕ, List, Result, Err}
use Rattle.minisign.specs.Devices.{ErrorCountRises}
use Rattle.minisign.specs.Fault.{Named}
use Rattle.minisign.specs.Members.{SourceOf}
use Rattle.minisign.specs.NamedFaults.{ReadingFailed}
use Rattle.minisign.specs.Reading.{ReadsWhole}
use Rattle.minisign_lists.specs.declared.faults.ListFault.{ListFault}
use Rattle.minisign_lists.specs.declared.faults.ListFault.TheVariants.{Library}

-- The function verdict gives the verdict on any data. Either the download was read to its end, and
-- the answer is the verdict on it; or nothing was read, and the answer is the verdict that any data
-- would get (for example, because the list is not signed); or reading failed.
abbrev pub IsDownloadVerdict : {R : Type 0} → SourceOf R → R → R → (List ℕ → Result (List ℕ) ListFault)
    → Result (List ℕ) ListFault → Type 0
IsDownloadVerdict source old new verdict answer =
    ((message : List ℕ) × ReadsWhole source old new message × (answer ≡ verdict message))
    ⊎ ((new ≡ old) × ((message : List ℕ) → answer ≡ verdict message))
    ⊎ ((answer ≡ Err (Library (Named ReadingFailed))) × ErrorCountRises (source.faults old)
    (source.faults new))
