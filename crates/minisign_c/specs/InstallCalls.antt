-- The calls from C for an installation. Their results and errors are numbers.
use Rattle.std.specs.Prelude.{◌≡◌, ◌==◌, ◌&&◌, ℕ, ℤ, pos, negsuc, nat_le, Bool, true, false, List}
use Rattle.std.specs.Prelude.{if◌then◌else◌}
use Rattle.std.specs.Prelude.{Option, None, Some, Result, Ok, Err, option_map}
use Rattle.minisign_base.specs.Faults.{fault_row}
use Rattle.minisign_base.specs.declared.faults.NamedFault.{NamedFault}
use Rattle.minisign_base.specs.declared.faults.NamedFault.TheVariants.{OutOfMemory, RandomSourceFailed}
use Rattle.minisign_base.specs.declared.faults.NamedFault.TheVariants.{ReadingFailed, WritingFailed}
use Rattle.minisign_external.specs.Numbers.{misuse_number, refusal_number}
use Rattle.minisign_external.specs.PublicKeys.{is_public_key}
use Rattle.minisign_external.specs.declared.state.Misuse.{Misuse}
use Rattle.minisign_external.specs.declared.state.Misuse.TheVariants.{BadNumbering, NotDue, PublicKeyNotRead}
use Rattle.minisign_external.specs.declared.state.Refusal.{Refusal}
use Rattle.minisign_external.specs.declared.public_keys.PublicKeyValue.{PublicKeyValue}
use Rattle.minisign_install.specs.Faults.{install_number}
use Rattle.minisign_install.specs.Decisions.{judge_comment}
use Rattle.minisign_install.specs.Installations.{Represents, SignatureSteps, choices_misuse, numbering_of}
use Rattle.minisign_install.specs.Step.{Event, Failed, InUse, step, State}
use Rattle.minisign_install.specs.declared.faults.InstallFault.{InstallFault}
use Rattle.minisign_install.specs.declared.faults.InstallFault.TheVariants.{TargetInUse}
use Rattle.minisign_install.specs.declared.installation.Choices.{Choices}
use Rattle.minisign_install.specs.declared.installation.Installation.{Installation}
use Rattle.minisign_install.specs.declared.installation.Question.{Question}

-- The number of a step's result: 0 for success, otherwise the error number.
abbrev pub step_number : Result Unit (Refusal InstallFault) → ℕ
step_number (Ok t) = 0
step_number (Err r) = refusal_number install_number r

-- If the old installation represents a state, the new one represents the state after the step with this
-- event, and the number is that of the step's result.
abbrev pub NumberSteps : Event → Installation → Installation → ℕ → Type 0
NumberSteps e old new n =
    (s : State) → Represents old s → Represents new (step s e).1 × (n ≡ step_number (step s e).0)

-- The error with this number, if an operation can fail with it.
abbrev pub failure_of : ℕ → Option NamedFault
failure_of n =
    if n == (fault_row OutOfMemory).number then Some OutOfMemory else
    if n == (fault_row ReadingFailed).number then Some ReadingFailed else
    if n == (fault_row WritingFailed).number then Some WritingFailed else
    if n == (fault_row RandomSourceFailed).number then Some RandomSourceFailed else None

-- The event if the application reports the error with this number: InUse if another process holds the lock,
-- Failed for each other error with which an operation can fail, and none for other numbers.
abbrev pub failure_event : ℕ → Option Event
failure_event n =
    if n == install_number TargetInUse then Some InUse
    else option_map (λ f. Failed f) (failure_of n)

-- The given API misuse. If there is none, the API misuse is PublicKeyNotRead, unless the public keys were
-- read.
abbrev pub first_misuse : Option Misuse → Bool → Option Misuse
first_misuse (Some m) are_read = Some m
first_misuse None are_read = if are_read then None else Some PublicKeyNotRead

-- The API misuse that prevents an installation from starting, if there is one: the options are rejected, or
-- else a public key was not read.
abbrev pub starting_misuse : PublicKeyValue → PublicKeyValue → Choices → Option Misuse
starting_misuse key other o = first_misuse (choices_misuse o) (is_public_key key && is_public_key other)

-- The time that is passed to the step, if the clock shows this many seconds since the beginning of 1970. A
-- time before 1970 becomes None.
abbrev pub time_of : ℤ → Option ℕ
time_of (pos n) = Some n
time_of (negsuc n) = None

-- The outcome of a call that writes a length: 0 and the length, or the error number. After an error the
-- length is unchanged.
abbrev pub ReturnsLength : Result ℕ (Refusal InstallFault) → ℕ → ℕ → ℕ → Type 0
ReturnsLength (Ok len) n old new = (n ≡ 0) × (new ≡ len)
ReturnsLength (Err r) n old new = (n ≡ refusal_number install_number r) × (new ≡ old)

-- The outcome of the call that reports this signature file at this time: if the old installation represents a
-- state with this file name, the number and the new state are those of the step, and so are the trusted
-- comment in the buffer and its length.
abbrev pub NumberReads : List ℕ → List ℕ → Option ℕ → Installation → Installation → ℕ → ℕ → ℕ → List ℕ
    → List ℕ → Type 0
NumberReads sig_text file time old new n len_before len_after before after =
    (s : State) → Represents old s → s.options.file ≡ file
    → (r : Result ℕ (Refusal InstallFault)) × ReturnsLength r n len_before len_after
    × SignatureSteps sig_text time s r (Represents new) before after

-- The three buffers to which `minisign_install_question` writes the inputs of an Ed25519 check (a question).
pub record Buffers : Type 0 where
  pub key : List ℕ
  pub signature : List ℕ
  pub digest : List ℕ

-- The buffers with the inputs of this check.
abbrev pub question_buffers : Question → Buffers
question_buffers q = record { key = q.key; signature = q.signature; digest = q.digest }

-- The outcome of `minisign_install_question`: 0 and the inputs of the check that is due, or NotDue if no
-- check is due. After NotDue the buffers are unchanged.
abbrev pub ReturnsQuestion : Option Question → ℕ → Buffers → Buffers → Type 0
ReturnsQuestion (Some q) n old new = (n ≡ 0) × (new ≡ question_buffers q)
ReturnsQuestion None n old new = (n ≡ misuse_number NotDue) × (new ≡ old)

-- The outcome of the call that checks only a trusted comment: 0 and its version number, or the error number.
-- After an error the version number is unchanged.
abbrev pub ReturnsVersion : Result ℕ InstallFault → ℕ → ℕ → ℕ → Type 0
ReturnsVersion (Ok version) n old new = (n ≡ 0) × (new ≡ version)
ReturnsVersion (Err fault) n old new = (n ≡ install_number fault) × (new ≡ old)

-- ReturnsVersion if the first argument is true, which means that the numbering is valid. Otherwise the number
-- is that of BadNumbering, and the version number is unchanged.
abbrev pub ReturnsVersionIf : Bool → Result ℕ InstallFault → ℕ → ℕ → ℕ → Type 0
ReturnsVersionIf true judged n old new = ReturnsVersion judged n old new
ReturnsVersionIf false judged n old new = (n ≡ misuse_number BadNumbering) × (new ≡ old)

-- The outcome of checking the trusted comment of an update of the file, at this time, if `least` is the least
-- version number that is accepted.
abbrev pub ReturnsVersionOf : List ℕ → List ℕ → ℕ → ℕ → ℕ → ℕ → ℕ → ℕ → Type 0
ReturnsVersionOf comment file numbering time least n old new =
    ReturnsVersionIf (nat_le numbering 1) (judge_comment file (numbering_of numbering) time least comment) n
    old new
