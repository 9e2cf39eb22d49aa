-- The meaning of a command's exit status, and the lines that it writes to the error stream.
use Rattle.std.specs.Prelude.{◌≡◌, ℕ, ◌≤◌, List, false, ⊤}
use Rattle.minisign.specs.Members.{SinkOf}
use Rattle.minisign.specs.Acceptance.{Verifier, status_lines, verified_text}
use Rattle.minisign.specs.Records.{SignatureBoxRecord}
use Rattle.minisign.specs.Texts.{line}
use Rattle.minisign.specs.Headline.{TextsVouchFor}
use Rattle.minisign_tool.specs.Report.{EndsWithFault, SaysAfterWarning, ShowsOnlyFault, TakesOrFails}
use Rattle.minisign_tool.specs.Report.{usage_line, warning_line}
use Rattle.minisign_tool.specs.VerifyRaw.{VouchesRaw}
use Rattle.minisign_tool.specs.declared.commands.Command.{Command}
use Rattle.minisign_tool.specs.declared.commands.Command.TheVariants.{Cat, Keygen, Sign, Usage, Verify}
use Rattle.minisign_tool.specs.declared.commands.Command.TheVariants.{VerifyRaw}

-- Some texts of a public key and a signature are valid for some data. Legacy signatures are
-- rejected.
abbrev pub SomeTextsVouch : Verifier → Type 0
SomeTextsVouch accepts = (pk_text sig_text message : List ℕ)
    × TextsVouchFor accepts pk_text sig_text message false

-- The bytes of some public key and some bare signature are valid for some data.
abbrev pub SomeBytesVouch : Verifier → Type 0
SomeBytesVouch accepts = (key_file signature_file message : List ℕ)
    × VouchesRaw accepts key_file signature_file message

-- The guarantee if this command succeeds: after a command that verifies, some texts or bytes are
-- valid for some data. The usage never succeeds.
abbrev pub HoldsAfter : Verifier → Command → Type 0
HoldsAfter accepts (Keygen pk sk) = ⊤
HoldsAfter accepts (Sign sk file sig) = ⊤
HoldsAfter accepts (Verify pk file sig) = SomeTextsVouch accepts
HoldsAfter accepts (VerifyRaw pk sig) = SomeBytesVouch accepts
HoldsAfter accepts (Cat pk file sig) = SomeTextsVouch accepts
HoldsAfter accepts Usage = ⊥

-- If the exit status is 0, the guarantee of the command holds.
abbrev pub ShowsCommand : Verifier → Command → ℕ → Type 0
ShowsCommand accepts command status = status ≡ 0 → HoldsAfter accepts command

-- The lines of a command that writes no status lines: the warning, and with status 1 the error line
-- after it.
abbrev pub SaysOnlyFaults : {S : Type 0} → SinkOf S → S → S → ℕ → Type 0
SaysOnlyFaults sink old new status =
    (status ≡ 0 → TakesOrFails sink old new warning_line)
    × (status ≡ 1 → ShowsOnlyFault sink old new (λ _. ⊤))

-- The lines of a verifying command: the warning first; then with status 0 the status lines of a box,
-- and with status 1 the error line at the end.
abbrev pub SaysVerdict : {S : Type 0} → SinkOf S → S → S → ℕ → Type 0
SaysVerdict sink old new status =
    (status ≡ 0 → (box : SignatureBoxRecord) × SaysAfterWarning sink old new (status_lines box))
    × (status ≡ 1 → EndsWithFault sink old new (λ _ _. ⊤))

-- The lines of `verify-raw`: those of a verifying command, with the single status line of a box without
-- comments.
abbrev pub SaysRawVerdict : {S : Type 0} → SinkOf S → S → S → ℕ → Type 0
SaysRawVerdict sink old new status =
    (status ≡ 0 → SaysAfterWarning sink old new (line verified_text))
    × (status ≡ 1 → EndsWithFault sink old new (λ _ _. ⊤))

-- The warning was sent, and then the usage.
abbrev pub ShowsWarningAndUsage : {S : Type 0} → SinkOf S → S → S → Type 0
ShowsWarningAndUsage {S = S} sink old new =
    (warned : S) × TakesOrFails sink old warned warning_line × TakesOrFails sink warned new usage_line

-- The lines of this command by its exit status, which is 0 or 1, or 2 for the usage.
abbrev pub SaysCommand : {S : Type 0} → SinkOf S → Command → S → S → ℕ → Type 0
SaysCommand sink (Keygen pk sk) old new status = (status ≤ 1) × SaysOnlyFaults sink old new status
SaysCommand sink (Sign sk file sig) old new status = (status ≤ 1) × SaysOnlyFaults sink old new status
SaysCommand sink (Verify pk file sig) old new status = (status ≤ 1) × SaysVerdict sink old new status
SaysCommand sink (VerifyRaw pk sig) old new status = (status ≤ 1) × SaysRawVerdict sink old new status
SaysCommand sink (Cat pk file sig) old new status = (status ≤ 1) × SaysVerdict sink old new status
SaysCommand sink Usage old new status = (status ≡ 2) × ShowsWarningAndUsage sink old new
