-- Proves that a lawful application leaves the content of the target and of the record unchanged if its run is
-- rejected although no operation failed.
use Rattle.std.specs.Prelude.{◌≡◌, ◌==◌, ℕ, Bool, true, false, List, [], ◌∷◌, Option, Some, None, map}
use Rattle.std.specs.Prelude.{if◌then◌else◌}
use Rattle.std.proofs.Common.{refl, sym, ap}
use Rattle.std.proofs.lemmas.Option.{none-some}
use Rattle.minisign_install.specs.Applications.{Applies, Call, File, Snapshot, Performs, content, synced_if}
use Rattle.minisign_install.specs.Decisions.{Options}
use Rattle.minisign_install.specs.Histories.{AllCalls, AllEvents, LeavesContent}
use Rattle.minisign_install.specs.Step.{Answered, Done, Event, Failed, InUse, Operation, PieceCopied}
use Rattle.minisign_install.specs.Step.{PieceRead, RecordRead, SignatureRead, State, TargetMissing, begin}
use Rattle.minisign_install.specs.Step.{step}
use Rattle.minisign_install.specs.Step.{new_record}
use Rattle.minisign_install.specs.Step as fsm
use Rattle.minisign_install.specs.StepRuns.{AllSucceed, Changes, Disk, IsRun, IsLawfulEvent, Runs, Succeeds}
use Rattle.minisign_install.specs.StepRuns.{World}
use Rattle.minisign_install.specs.StepRuns.{count}
use Rattle.minisign_install.proofs.Applications.{event_of}
use Rattle.minisign_install.proofs.SafeCalls.{true_run}
use Rattle.minisign_install.proofs.StepRejections.{rejected_changes_nothing}
use Rattle.minisign_install.specs.Step.{ListRead}

-- A disk without files. In the proof, a run starts with this disk; a rename adds a file to it, and no
-- operation removes one. So if the disk is empty after the run, no file was renamed.
abbrev empty_disk : Disk
empty_disk = record { target = None; record_bytes = None }

-- The disk after an operation that succeeds.
abbrev disk_after : Operation → Event → State → Disk → Disk
disk_after fsm.RenameRecord Done s d = record d { record_bytes = Some (new_record s) }
disk_after fsm.RenameFile Done s d = record d { target = Some s.read }
disk_after op e s d = d

-- This is one of the changes that the operation may make.
changes : (op : Operation) (e : Event) (s : State) (d : Disk) → Succeeds e
    → Changes op s e d (disk_after op e s d)
changes op (Failed f) s d fine = absurd fine
changes op InUse s d fine = absurd fine
changes fsm.RenameRecord Done s d fine = refl
changes fsm.RenameFile Done s d fine = refl
changes fsm.RenameRecord e s d fine = refl
changes fsm.RenameFile e s d fine = refl
changes op e s d fine = refl

-- Syncing a file does not change its content.
same_content : (is : Bool) (file : File)
    → content (if is then Some (record file { synced = true }) else Some file) ≡ Some file.bytes
same_content true file = refl
same_content false file = refl

synced_content : (opened : Option ℕ) (place : Option File) → content (synced_if opened place) ≡ content place
synced_content (Some n) (Some file) = same_content (file.number == n) file
synced_content (Some n) None = refl
synced_content None place = refl

-- Snapshots that are equal have the same content.
unchanged : (old new : Snapshot) → new ≡ old → LeavesContent old new
unchanged old new is = rw is (refl, refl)

-- If an operation succeeds and the disk is empty after it, the disk was empty before it, and the operation
-- leaves the content of the target and of the record unchanged.
leaves : (w : World) (s : State) (op : Operation) (e : Event) (old new : Snapshot) (d : Disk)
    → Performs w s op e old new → Succeeds e → disk_after op e s d ≡ empty_disk
    → (d ≡ empty_disk) × LeavesContent old new
leaves w s op (Failed f) old new d is fine none = absurd fine
leaves w s op InUse old new d is fine none = absurd fine
leaves w s fsm.RenameRecord Done old new d is fine none =
    absurd (none-some (new_record s) (sym (ap (λ (x : Disk). x.record_bytes) none)))
leaves w s fsm.RenameFile Done old new d is fine none =
    absurd (none-some s.read (sym (ap (λ (x : Disk). x.target) none)))
leaves w s fsm.Lock Done old new d is fine none = (none, rw is.1 (refl, refl))
leaves w s fsm.ReadRecord (RecordRead found) old new d is fine none = (none, unchanged old new is.2)
leaves w s fsm.ReadSignature (SignatureRead text time) old new d is fine none = (none, unchanged old new is.1)
leaves w s fsm.ReadList (ListRead list name) old new d is fine none = (none, unchanged old new is.2)
leaves w s fsm.ReadTarget (PieceRead bytes) old new d is fine none = (none, unchanged old new is.2)
leaves w s fsm.ReadTarget Done old new d (file, at, holds, is) fine none = (none, rw is (refl, refl))
leaves w s fsm.ReadTarget TargetMissing old new d is fine none = (none, unchanged old new is.1)
leaves w s fsm.SyncTarget Done old new d is fine none =
    (none, rw is (synced_content old.opened old.target, refl))
leaves w s fsm.SyncTargetName Done old new d is fine none = (none, rw is (refl, refl))
leaves w s fsm.RemoveLeftovers Done old new d is fine none = (none, rw is (refl, refl))
leaves w s fsm.CreateFile Done old new d (number, is) fine none = (none, rw is (refl, refl))
leaves w s fsm.CopyData (PieceCopied k) old new d (some, (piece, rest, long, part, is)) fine none =
    (none, rw is (refl, refl))
leaves w s fsm.CopyData Done old new d is fine none = (none, unchanged old new is.1)
leaves w s fsm.ReadBack (PieceRead bytes) old new d is fine none = (none, unchanged old new is.2)
leaves w s fsm.ReadBack Done old new d is fine none = (none, unchanged old new is.1)
leaves w s fsm.SetPermissions Done old new d is fine none = (none, rw is (refl, refl))
leaves w s fsm.SyncFile Done old new d is fine none = (none, rw is (refl, refl))
leaves w s fsm.CreateRecord Done old new d (number, is) fine none = (none, rw is (refl, refl))
leaves w s fsm.WriteRecord Done old new d is fine none = (none, rw is (refl, refl))
leaves w s fsm.SyncRecord Done old new d is fine none = (none, rw is (refl, refl))
leaves w s fsm.SyncRecordName Done old new d is fine none = (none, rw is (refl, refl))
leaves w s fsm.SyncFileName Done old new d is fine none = (none, rw is (refl, refl))
leaves w s fsm.RemoveFiles Done old new d is fine none = (none, rw is (refl, refl))
leaves w s fsm.CheckComment (Answered accepted) old new d is fine none = (none, unchanged old new is.1)
leaves w s op (Answered accepted) old new d is fine none = (none, unchanged old new is.1)
leaves w s op e old new d is fine none = absurd is

-- If the disk is empty at the end of a run, each of its operations leaves the content of the target and of
-- the record unchanged.
changes_nothing_from : (w : World) (n : ℕ) (s : State) (d : Disk) (m : Snapshot) (calls : List Call)
    (t : State)
    (end : Snapshot)
    → IsRun (IsLawfulEvent w) n s (map event_of calls) t → Applies w s m calls t end
    → AllEvents Succeeds calls
    → (events : List (Event × Disk)) × (last : Disk) × Runs w n s d events t last × AllSucceed events
    × (last ≡ empty_disk → (d ≡ empty_disk) × AllCalls LeavesContent calls)
changes_nothing_from w n s d m [] t end held run fine = ([], d, (held, refl), tt, λ none. (none, tt))
changes_nothing_from w n s d m (c ∷ more) t end (holds, later) (others, fits, is, run) (fine, rest) =
    let (events, last, runs, succeed, back) =
    changes_nothing_from w (count n c.event) (step s c.event).1
    (disk_after s.due c.event s d) c.after more t end later run
    rest in (
      (c.event, disk_after s.due c.event s d) ∷ events,
      last,
      (holds, changes s.due c.event s d fine, runs),
      (fine, succeed),
      λ none.
          let (before, others_leave) = back none in
          let (first, leave) = leaves w s s.due c.event c.before c.after d is fine before in
          (first, (leave, others_leave)),
    )

-- If no operation fails and the lock is free, a run that is rejected leaves the content of the target and of
-- the record unchanged.
pub rejected_keeps_content : (w : World) (o : Options) (m : Snapshot) (calls : List Call) (t : State)
    (end : Snapshot)
    → Applies w (begin o) m calls t end → AllEvents Succeeds calls → t.due ≡ fsm.Rejected
    → AllCalls LeavesContent calls
rejected_keeps_content w o m calls t end run fine rejected =
    let (events, last, runs, succeed, back) =
    changes_nothing_from w 0 (begin o) empty_disk m calls t end (true_run w o m calls t end run) run fine in
    (back (rejected_changes_nothing w o empty_disk last events t runs succeed rejected)).1
