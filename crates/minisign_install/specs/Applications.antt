-- A lawful application: it performs the operation that is due, and reports what happened. Snapshot models the
-- files at one point in time, Performs defines the effect of each operation on them, and Others the changes
-- that other processes may make between two operations. Applies combines these to a run, which may be cut off
-- anywhere, and Crashes defines the files after a crash of the machine. Any operation may fail, and the clock
-- may show any time.
use Rattle.std.specs.Prelude.{◌≡◌, ◌<◌, ◌≤◌, ◌++◌, ◌==◌, ◌⊎◌, ⊤, ℕ, Bool, true, false, is_some}
use Rattle.std.specs.Prelude.{if◌then◌else◌, List, [], ◌∷◌, length, Option, Some, None}
use Rattle.minisign_install.specs.Step.{Answered, ListRead, ReadList}
use Rattle.minisign_install.specs.Step.{CopyData, CreateFile, CreateRecord, Done, Event, Failed, InUse, Lock}
use Rattle.minisign_install.specs.Step.{Operation, PieceCopied, PieceRead, ReadBack, ReadRecord}
use Rattle.minisign_install.specs.Step.{ReadSignature, ReadTarget, RecordRead, RemoveFiles, RemoveLeftovers}
use Rattle.minisign_install.specs.Step.{RenameFile, RenameRecord, SetPermissions, SignatureRead, State}
use Rattle.minisign_install.specs.Step.{SyncFile, SyncFileName, SyncRecord, SyncRecordName, SyncTarget}
use Rattle.minisign_install.specs.Step.{SyncTargetName, TargetMissing, WriteRecord, after, new_record, step}
use Rattle.minisign_install.specs.StepRuns.{IsAnswer, World}

-- == Files ==

-- A file. Files with the same number are the same file. If a file is not synced, it may have any content
-- after a crash. `permissions` is true if it has the permissions of the installed file.
pub record File : Type 0 where
  pub number : ℕ
  pub bytes : List ℕ
  pub synced : Bool
  pub permissions : Bool

-- The files that processes find: the installed file, the record, and the two temporary files of this run, if
-- there are any. A temporary file has a random name, which no other process uses. After a crash, the name of
-- the target may lead to one of the files in `target_left` instead, and that of the record to one of those
-- in `recorded_left` (None: to no file). `opened` is the number of the installed file that this run has
-- read. `leftovers` is true if there may be temporary files of killed runs that can be removed, `locked` if
-- this run holds the lock, and `busy` if another run holds it.
pub record Snapshot : Type 0 where
  pub target : Option File
  pub target_left : List (Option File)
  pub recorded : Option File
  pub recorded_left : List (Option File)
  pub data_file : Option File
  pub record_file : Option File
  pub opened : Option ℕ
  pub leftovers : Bool
  pub locked : Bool
  pub busy : Bool

abbrev pub content : Option File → Option (List ℕ)
content (Some file) = Some file.bytes
content None = None

-- The bytes of a file, or none if there is no file.
abbrev pub bytes_of : Option File → List ℕ
bytes_of (Some file) = file.bytes
bytes_of None = []

-- == What an operation does ==

abbrev pub empty_file : ℕ → Option File
empty_file number = Some (record { number = number; bytes = []; synced = false; permissions = false })

abbrev pub grown : List ℕ → Option File → Option File
grown piece (Some file) = Some (record file { bytes = file.bytes ++ piece; synced = false })
grown piece None = None

abbrev pub written : List ℕ → Option File → Option File
written bytes (Some file) = Some (record file { bytes = bytes; synced = false })
written bytes None = None

abbrev pub permitted : Option File → Option File
permitted (Some file) = Some (record file { permissions = true; synced = false })
permitted None = None

abbrev pub synced : Option File → Option File
synced (Some file) = Some (record file { synced = true })
synced None = None

-- The installed file after the file that was read is synced. This changes nothing if another process has
-- replaced it since.
abbrev pub synced_if : Option ℕ → Option File → Option File
synced_if (Some n) (Some file) = if file.number == n then synced (Some file) else Some file
synced_if opened file = file

-- Both names are synced: a crash does not change which files they lead to.
abbrev pub names_synced : Snapshot → Snapshot
names_synced m = record m { target_left = []; recorded_left = [] }

-- A rename replaces a file in one step. Until the directory is synced, a crash may bring back the previous
-- file.
abbrev pub data_renamed : Snapshot → Snapshot
data_renamed m =
    record m { target = m.data_file; target_left = m.target ∷ m.target_left; data_file = None }

abbrev pub record_renamed : Snapshot → Snapshot
record_renamed m =
    record m { recorded = m.record_file; recorded_left = m.recorded ∷ m.recorded_left; record_file = None }

-- The operation is performed in this state, and this event is reported. `w` has the inputs of the run: the
-- record, the parsed signature file, the data, the list, and the signatures that Ed25519 accepts. An
-- operation that fails may have been done in part: its temporary file may have any content, and a rename may
-- have taken effect.
abbrev pub Performs : World → State → Operation → Event → Snapshot → Snapshot → Type 0
Performs w s Lock Done old new = (old.busy ≡ false) × (new ≡ record old { locked = true })
Performs w s Lock InUse old new = (old.busy ≡ true) × (new ≡ old)
Performs w s ReadRecord (RecordRead found) old new =
    (found ≡ w.found_record) × (found ≡ content old.recorded) × (new ≡ old)
Performs w s ReadSignature (SignatureRead text time) old new = (text ≡ w.text) × (new ≡ old)
Performs w s ReadList (ListRead list name) old new = (list ≡ w.list) × (name ≡ w.name) × (new ≡ old)
Performs w s ReadTarget (PieceRead bytes) old new =
    (0 < length bytes) × (length (s.read ++ bytes) ≤ w.max_size) × (new ≡ old)
Performs w s ReadTarget Done old new =
    (file : File) × (old.target ≡ Some file) × (file.bytes ≡ s.read)
    × (new ≡ record old { opened = Some file.number })
Performs w s ReadTarget TargetMissing old new = (old.target ≡ None) × (new ≡ old)
Performs w s SyncTarget Done old new = new ≡ record old { target = synced_if old.opened old.target }
Performs w s SyncTargetName Done old new = new ≡ names_synced old
Performs w s RemoveLeftovers Done old new = new ≡ record old { leftovers = false }
Performs w s CreateFile Done old new = (number : ℕ) × (new ≡ record old { data_file = empty_file number })
Performs w s CopyData (PieceCopied k) old new =
    (0 < k) × ((piece : List ℕ) × (rest : List ℕ) × (length piece ≡ k)
    × (w.update ≡ (bytes_of old.data_file ++ piece) ++ rest)
    × (new ≡ record old { data_file = grown piece old.data_file }))
Performs w s CopyData Done old new = (bytes_of old.data_file ≡ w.update) × (new ≡ old)
Performs w s ReadBack (PieceRead bytes) old new =
    (0 < length bytes) × ((rest : List ℕ) × ((s.read ++ bytes) ++ rest ≡ bytes_of old.data_file))
    × (new ≡ old)
Performs w s ReadBack Done old new = (s.read ≡ bytes_of old.data_file) × (new ≡ old)
Performs w s SetPermissions Done old new = new ≡ record old { data_file = permitted old.data_file }
Performs w s SyncFile Done old new = new ≡ record old { data_file = synced old.data_file }
Performs w s CreateRecord Done old new =
    (number : ℕ) × (new ≡ record old { record_file = empty_file number })
Performs w s WriteRecord Done old new =
    new ≡ record old { record_file = written (new_record s) old.record_file }
Performs w s SyncRecord Done old new = new ≡ record old { record_file = synced old.record_file }
Performs w s RenameRecord Done old new = new ≡ record_renamed old
Performs w s SyncRecordName Done old new = new ≡ names_synced old
Performs w s RenameFile Done old new = new ≡ data_renamed old
Performs w s SyncFileName Done old new = new ≡ names_synced old
Performs w s RemoveFiles Done old new = new ≡ record old { data_file = None; record_file = None }
Performs w s CreateFile (Failed f) old new = (file : Option File) × (new ≡ record old { data_file = file })
Performs w s CopyData (Failed f) old new = (file : Option File) × (new ≡ record old { data_file = file })
Performs w s SetPermissions (Failed f) old new =
    (file : Option File) × (new ≡ record old { data_file = file })
Performs w s SyncFile (Failed f) old new = (file : Option File) × (new ≡ record old { data_file = file })
Performs w s CreateRecord (Failed f) old new =
    (file : Option File) × (new ≡ record old { record_file = file })
Performs w s WriteRecord (Failed f) old new =
    (file : Option File) × (new ≡ record old { record_file = file })
Performs w s SyncRecord (Failed f) old new = (file : Option File) × (new ≡ record old { record_file = file })
Performs w s RenameRecord (Failed f) old new = (new ≡ old) ⊎ (new ≡ record_renamed old)
Performs w s RenameFile (Failed f) old new = (new ≡ old) ⊎ (new ≡ data_renamed old)
Performs w s RemoveFiles (Failed f) old new =
    (one : Option File) × (other : Option File)
    × (new ≡ record old { data_file = one; record_file = other })
Performs w s op (Answered accepted) old new = IsAnswer w s op accepted × (new ≡ old)
Performs w s op (Failed f) old new = new ≡ old
Performs w s op e old new = ⊥

-- == Other processes ==

-- The changes that other processes may make. They may do anything to the target. They do not touch the
-- temporary files of this run, nor the record while this run holds the lock.
pub record Others (old new : Snapshot) : Type 0 where
  pub data_stays : new.data_file ≡ old.data_file
  pub record_stays : new.record_file ≡ old.record_file
  pub opened_stays : new.opened ≡ old.opened
  pub lock_stays : new.locked ≡ old.locked
  pub recorded_stays : old.locked ≡ true → new.recorded ≡ old.recorded
  pub left_stays : old.locked ≡ true → new.recorded_left ≡ old.recorded_left
  pub leftovers_stay : old.locked ≡ true → new.leftovers ≡ old.leftovers

-- == Runs ==

-- The event that was reported, and the files before and after the operation.
pub record Call : Type 0 where
  pub event : Event
  pub before : Snapshot
  pub after : Snapshot

-- The application performs these operations one after another. They lead from one state of the installer and
-- its files to another state and its files.
abbrev pub Applies : World → State → Snapshot → List Call → State → Snapshot → Type 0
Applies w s m [] t end = (t ≡ s) × (end ≡ m)
Applies w s m (c ∷ more) t end =
    Others m c.before × (is_some (after s.due c.event s) ≡ true)
    × Performs w s s.due c.event c.before c.after × Applies w (step s c.event).1 c.after more t end

-- The files before a run: it has no temporary files yet, and does not hold the lock.
pub record IsBeforeRun (m : Snapshot) : Type 0 where
  pub no_data : m.data_file ≡ None
  pub no_record : m.record_file ≡ None
  pub unlocked : m.locked ≡ false

-- == Crashes ==

-- A crash may leave `found` of the file: its bytes, if it was synced, and otherwise any bytes. If
-- there was no file, there is none after the crash.
abbrev pub CrashMayLeave : Option File → Option (List ℕ) → Type 0
CrashMayLeave (Some file) found =
    (bytes : List ℕ) × (found ≡ Some bytes) × (file.synced ≡ true → bytes ≡ file.bytes)
CrashMayLeave None found = found ≡ None

abbrev pub CrashMayLeaveOneOf : List (Option File) → Option (List ℕ) → Type 0
CrashMayLeaveOneOf [] found = ⊥
CrashMayLeaveOneOf (file ∷ more) found = CrashMayLeave file found ⊎ CrashMayLeaveOneOf more found

-- A process may find these bytes, or no file, at the target, now or after a crash at this time.
abbrev pub TargetMayBe : Snapshot → Option (List ℕ) → Type 0
TargetMayBe m found = CrashMayLeaveOneOf (m.target ∷ m.target_left) found

-- A process may find these bytes, or no file, at the record, now or after a crash at this time.
abbrev pub RecordMayBe : Snapshot → Option (List ℕ) → Type 0
RecordMayBe m found = CrashMayLeaveOneOf (m.recorded ∷ m.recorded_left) found

abbrev pub IsSynced : Option File → Type 0
IsSynced (Some file) = file.synced ≡ true
IsSynced None = ⊤

-- The machine crashes and starts again. Then each name leads to a file that a crash may have left there, or
-- to none, and a further crash changes nothing.
pub record Crashes (old new : Snapshot) : Type 0 where
  pub target_remains : TargetMayBe old (content new.target)
  pub record_remains : RecordMayBe old (content new.recorded)
  pub target_sure : new.target_left ≡ []
  pub record_sure : new.recorded_left ≡ []
  pub target_on_disk : IsSynced new.target
  pub record_on_disk : IsSynced new.recorded

-- == Checks ==

-- Nothing has changed except the number of the file that was read (`opened`).
abbrev pub LeavesAll : Snapshot → Snapshot → Type 0
LeavesAll old new = new ≡ record old { opened = new.opened }
