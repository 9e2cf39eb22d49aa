-- The lines that the program writes to the error stream.
use Rattle.std.specs.Prelude.{◌≡◌, ℕ, ◌⊎◌, List, ◌++◌, codes}
use Rattle.std.specs.Io.KnownBytes.{Appends}
use Rattle.minisign.specs.Devices.{ErrorCountRises, AppendsPrefix}
use Rattle.minisign.specs.Fault.{Fault, text_of}
use Rattle.minisign.specs.Members.{SinkOf}
use Rattle.minisign.specs.DeviceCalls.{SinkCall, sink_call}
use Rattle.minisign.specs.Texts.{line}

-- The warning, which is the first line of every run.
unfoldable pub warning_line : List ℕ
warning_line = line (codes "warning: insecure toy scheme, for tests only")

-- The usage.
unfoldable pub usage_line : List ℕ
usage_line =
    line
    (codes "usage: minisign_tool keygen PK SK | sign SK FILE SIG | verify PK FILE SIG | verify-raw PK SIG | cat PK FILE SIG")

-- The line of an error.
abbrev pub fault_line : Fault → List ℕ
fault_line e = codes "error: " ++ line (text_of e)

-- The sink received the whole text, or it failed and received a prefix of it.
abbrev pub TakesOrFails : {S : Type 0} → SinkOf S → S → S → List ℕ → Type 0
TakesOrFails sink old new text =
    (Appends (sink.taken old) (sink.taken new) text × (sink.sink_faults new ≡ sink.sink_faults old))
    ⊎ (AppendsPrefix (sink.taken old) (sink.taken new) text
    × ErrorCountRises (sink.sink_faults old) (sink.sink_faults new))

-- The warning was sent, and then the sink received the whole text.
abbrev pub SaysAfterWarning : {S : Type 0} → SinkOf S → S → S → List ℕ → Type 0
SaysAfterWarning {S = S} sink old new text =
    (warned : S) × TakesOrFails sink old warned warning_line
    × Appends (sink.taken warned) (sink.taken new) text × (sink.sink_faults new ≡ sink.sink_faults warned)

-- A run ends with an error: the warning was sent first, and the error line last. Fails holds for
-- the error and for the bytes that were written between them.
abbrev pub EndsWithFault : {S : Type 0} → SinkOf S → S → S → (SinkCall S → Fault → Type 0) → Type 0
EndsWithFault {S = S} sink old new Fails =
    (e : Fault) × (warned reported : S) × TakesOrFails sink old warned warning_line
    × TakesOrFails sink reported new
    (fault_line e)
    × Fails (sink_call sink warned reported) e

-- A run that writes nothing else ends with an error for which Fails holds: the warning was sent,
-- and then the error line.
abbrev pub ShowsOnlyFault : {S : Type 0} → SinkOf S → S → S → (Fault → Type 0) → Type 0
ShowsOnlyFault {S = S} sink old new Fails =
    (e : Fault) × (warned : S) × TakesOrFails sink old warned warning_line × TakesOrFails sink warned new
    (fault_line e)
    × Fails e
