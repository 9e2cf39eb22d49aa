-- Proves that each operation of a lawful application is safe, even if the machine crashes after it.
use Rattle.std.specs.Prelude.{◌≡◌, ◌==◌, ◌⊎◌, ⊤, ℕ, Bool, true, false, List, [], ◌∷◌, Option, Some, None}
use Rattle.std.specs.Prelude.{is_some, map, if◌then◌else◌}
use Rattle.std.proofs.Common.{refl, inl, inr, ap, ◌∙◌, sym}
use Rattle.std.proofs.lemmas.Option.{same_Some}
use Rattle.minisign_install.specs.Applications.{Applies, Call, File, RecordMayBe, TargetMayBe, CrashMayLeave}
use Rattle.minisign_install.specs.Applications.{CrashMayLeaveOneOf, Snapshot, Others, Performs, content}
use Rattle.minisign_install.specs.Applications.{data_renamed}
use Rattle.minisign_install.specs.Applications.{names_synced, record_renamed, synced_if}
use Rattle.minisign_install.specs.Decisions.{Options}
use Rattle.minisign_install.specs.Histories.{EndIsDurable, IsDurable, LeavesTarget, OthersLeaveTarget}
use Rattle.minisign_install.specs.Histories.{AllCalls, IsRecordedUpdate, IsSafeCall, IsUpdateRecord}
use Rattle.minisign_install.specs.Step.{Done, Event, Failed, Operation, State, after, begin, new_record, step}
use Rattle.minisign_install.specs.Step as fsm
use Rattle.minisign_install.specs.StepRuns.{Changes, Disk, IsLawfulEvent, IsUpdate, IsRun, World, count}
use Rattle.minisign_install.proofs.Applying.{FilesMatch, IsOnDisk, is_true, kept_by_others}
use Rattle.minisign_install.proofs.Applying as applying
use Rattle.minisign_install.proofs.StepSafety.{InvariantAt, update_of}
use Rattle.minisign_install.proofs.StepSafety as known
use Rattle.minisign_install.proofs.Listings.{listed_is}

-- == Files that a crash may leave ==

-- A file that is synced keeps its bytes after a crash.
remains_whole : (place : Option File) (bytes : List ℕ) (found : Option (List ℕ)) → IsOnDisk place bytes
    → CrashMayLeave place found → found ≡ Some bytes
remains_whole (Some file) bytes found (other, at, holds, synced) (left, is, same) =
    let one : file ≡ other = same_Some file other at in
    is ∙ ap (λ x. Some x) (same (ap (λ (f : File). f.synced) one ∙ synced)
    ∙ ap (λ (f : File). f.bytes) one ∙ holds)
remains_whole None bytes found (other, at, holds, synced) remains = cc at

-- Whatever a crash may leave of a synced file, it may also leave of the file before it was synced.
if_synced : (is : Bool) (file : File) (found : Option (List ℕ))
    → CrashMayLeave (if is then Some (record file { synced = true }) else Some file) found
    → CrashMayLeave (Some file) found
if_synced true file found (bytes, is, same) = (bytes, is, λ on_disk. same refl)
if_synced false file found remains = remains

-- The same for the installed file, which is synced if it is the one that was read.
remains_if_synced : (opened : Option ℕ) (place : Option File) (found : Option (List ℕ))
    → CrashMayLeave (synced_if opened place) found → CrashMayLeave place found
remains_if_synced (Some n) (Some file) found remains = if_synced (file.number == n) file found remains
remains_if_synced (Some n) None found remains = remains
remains_if_synced None place found remains = remains

found_in_place : (place : Option File) (found : Option (List ℕ)) (more : List (Option File))
    → CrashMayLeaveOneOf (place ∷ []) found → CrashMayLeaveOneOf (place ∷ more) found
found_in_place place found more (inl is) = inl is
found_in_place place found more (inr none) = absurd none

-- If the file and its name are synced, only these bytes can be found.
found_is_synced : (place : Option File) (left : List (Option File)) (bytes : List ℕ) (other : Option (List ℕ))
    → IsOnDisk place bytes → left ≡ [] → CrashMayLeaveOneOf (place ∷ left) other → other ≡ Some bytes
found_is_synced place [] bytes other is none (inl remains) = remains_whole place bytes other is remains
found_is_synced place [] bytes other is none (inr remains) = absurd remains
found_is_synced place (x ∷ more) bytes other is none remains = cc none

module _ (w : World) (o : Options) (F Q : Type 0) where
  -- A record that an operation may write, given the record that was read.
  abbrev pub IsNewRecord : Option (List ℕ) → Type 0
  IsNewRecord found = F × IsUpdateRecord w o found

  -- Everything that can be found at the target after the operation, at once or after a crash, could be found
  -- there before it, or is a recorded update. Everything that can be found at the record could be found there
  -- before it, or is a new record.
  abbrev pub Safe : Snapshot → Snapshot → Type 0
  Safe old new =
      ((found : Option (List ℕ)) → TargetMayBe new found
      → TargetMayBe old found ⊎ IsRecordedUpdate w o new found)
      × ((found : Option (List ℕ)) → RecordMayBe new found → RecordMayBe old found ⊎ IsNewRecord found)

  -- Syncing the directory leaves only files that could be found before.
  synced_names_are_safe : (old : Snapshot) → Safe old (names_synced old)
  synced_names_are_safe old = (
    λ found is. inl (found_in_place old.target found old.target_left is),
    λ found is. inl (found_in_place old.recorded found old.recorded_left is),
  )

  -- Syncing the installed file leaves only files that could be found before.
  target_kept : (opened : Option ℕ) (place : Option File) (left : List (Option File))
      (found : Option (List ℕ)) → CrashMayLeaveOneOf (synced_if opened place ∷ left) found
      → CrashMayLeaveOneOf (place ∷ left) found
  target_kept opened place left found (inl is) = inl (remains_if_synced opened place found is)
  target_kept opened place left found (inr is) = inr is

  -- A crash after the record is renamed leaves the new record, or one that could be found before.
  new_found : (s : State) (place : Option File) (rest : List (Option File)) (found : Option (List ℕ)) → F
      → IsUpdate w o s → IsOnDisk place (new_record s) → CrashMayLeaveOneOf (place ∷ rest) found
      → CrashMayLeaveOneOf rest found ⊎ IsNewRecord found
  new_found s place rest found known update is (inl remains) =
      inr (known, (s, update, remains_whole place (new_record s) found is remains))
  new_found s place rest found known update is (inr remains) = inl remains

  -- Renaming the record is safe.
  renames_record : (n : ℕ) (s : State) (old : Snapshot) → InvariantAt w o fsm.RenameRecord s
      → FilesMatch w F Q n fsm.RenameRecord s old → Safe old (record_renamed old)
  renames_record n s old knows (state_held, whole, is) = (
    λ found is. inl is,
    λ found remains.
        new_found s old.record_file (old.recorded ∷ old.recorded_left) found state_held.1
        (update_of w o s knows) is
        remains,
  )

  -- After the update is renamed to the target, it or an older file is found, and only its record at the
  -- record.
  new_target : (s : State) (place : Option File) (rest : List (Option File)) (m : Snapshot)
      (found : Option (List ℕ)) → IsUpdate w o s → IsOnDisk place s.read → IsOnDisk m.recorded (new_record s)
      → m.recorded_left ≡ [] → CrashMayLeaveOneOf (place ∷ rest) found
      → CrashMayLeaveOneOf rest found ⊎ IsRecordedUpdate w o m found
  new_target s place rest m found update is recorded left (inl remains) =
      inr (
        s,
        update,
        remains_whole place s.read found is remains,
        λ other. found_is_synced m.recorded m.recorded_left (new_record s) other recorded left,
      )
  new_target s place rest m found update is recorded left (inr remains) = inl remains

  -- Renaming the update to the target is safe.
  renames_data : (n : ℕ) (s : State) (old : Snapshot) → InvariantAt w o fsm.RenameFile s
      → FilesMatch w F Q n fsm.RenameFile s old → Safe old (data_renamed old)
  renames_data n s old knows (state_held, (file, at, holds, permitted, synced), recorded, left) = (
    λ found remains.
        new_target s old.data_file (old.target ∷ old.target_left) (data_renamed old) found
        (update_of w o s knows) (file, at, holds, synced) recorded left remains,
    λ found is. inl is,
  )

  -- An operation is safe if the invariant holds before it.
  pub safe_at : (n : ℕ) (op : Operation) (e : Event) (s : State) (old new : Snapshot) → InvariantAt w o op s
      → FilesMatch w F Q n op s old → Performs w s op e old new → Safe old new
  safe_at n fsm.RenameRecord Done s old new knows has is = rw is (renames_record n s old knows has)
  safe_at n fsm.RenameRecord (Failed f) s old new knows has (inl is) =
      rw is (λ found x. inl x, λ found x. inl x)
  safe_at n fsm.RenameRecord (Failed f) s old new knows has (inr is) =
      rw is (renames_record n s old knows has)
  safe_at n fsm.RenameFile Done s old new knows has is = rw is (renames_data n s old knows has)
  safe_at n fsm.RenameFile (Failed f) s old new knows has (inl is) =
      rw is (λ found x. inl x, λ found x. inl x)
  safe_at n fsm.RenameFile (Failed f) s old new knows has (inr is) = rw is (renames_data n s old knows has)
  safe_at n fsm.SyncTarget Done s old new knows has is =
      rw is (
        λ found remains. inl (target_kept old.opened old.target old.target_left found remains),
        λ found remains. inl remains,
      )
  safe_at n fsm.SyncTargetName Done s old new knows has is = rw is (synced_names_are_safe old)
  safe_at n fsm.SyncRecordName Done s old new knows has is = rw is (synced_names_are_safe old)
  safe_at n fsm.SyncFileName Done s old new knows has is = rw is (synced_names_are_safe old)
  safe_at n fsm.Lock Done s old new knows has is = rw is.1 (λ found x. inl x, λ found x. inl x)
  safe_at n fsm.Lock fsm.InUse s old new knows has is = rw is.1 (λ found x. inl x, λ found x. inl x)
  safe_at n fsm.ReadRecord (fsm.RecordRead found) s old new knows has is =
      rw is.2 (λ found x. inl x, λ found x. inl x)
  safe_at n fsm.ReadSignature (fsm.SignatureRead text time) s old new knows has is =
      rw is.1 (λ found x. inl x, λ found x. inl x)
  safe_at n fsm.ReadList (fsm.ListRead list name) s old new knows has is =
      rw is.2 (λ found x. inl x, λ found x. inl x)
  safe_at n fsm.ReadTarget (fsm.PieceRead bytes) s old new knows has is =
      rw is.2 (λ found x. inl x, λ found x. inl x)
  safe_at n fsm.ReadTarget Done s old new knows has is = rw is.3 (λ found x. inl x, λ found x. inl x)
  safe_at n fsm.ReadTarget fsm.TargetMissing s old new knows has is =
      rw is.1 (λ found x. inl x, λ found x. inl x)
  safe_at n fsm.RemoveLeftovers Done s old new knows has is = rw is (λ found x. inl x, λ found x. inl x)
  safe_at n fsm.CreateFile Done s old new knows has is = rw is.1 (λ found x. inl x, λ found x. inl x)
  safe_at n fsm.CopyData (fsm.PieceCopied k) s old new knows has (some, (piece, rest, long, is, same)) =
      rw same (λ found x. inl x, λ found x. inl x)
  safe_at n fsm.CopyData Done s old new knows has is = rw is.1 (λ found x. inl x, λ found x. inl x)
  safe_at n fsm.ReadBack (fsm.PieceRead bytes) s old new knows has is =
      rw is.2 (λ found x. inl x, λ found x. inl x)
  safe_at n fsm.ReadBack Done s old new knows has is = rw is.1 (λ found x. inl x, λ found x. inl x)
  safe_at n fsm.SetPermissions Done s old new knows has is = rw is (λ found x. inl x, λ found x. inl x)
  safe_at n fsm.SyncFile Done s old new knows has is = rw is (λ found x. inl x, λ found x. inl x)
  safe_at n fsm.CreateRecord Done s old new knows has is = rw is.1 (λ found x. inl x, λ found x. inl x)
  safe_at n fsm.WriteRecord Done s old new knows has is = rw is (λ found x. inl x, λ found x. inl x)
  safe_at n fsm.SyncRecord Done s old new knows has is = rw is (λ found x. inl x, λ found x. inl x)
  safe_at n fsm.RemoveFiles Done s old new knows has is = rw is (λ found x. inl x, λ found x. inl x)
  safe_at n fsm.CreateFile (Failed f) s old new knows has is = rw is.1 (λ found x. inl x, λ found x. inl x)
  safe_at n fsm.CopyData (Failed f) s old new knows has is = rw is.1 (λ found x. inl x, λ found x. inl x)
  safe_at n fsm.SetPermissions (Failed f) s old new knows has is =
      rw is.1 (λ found x. inl x, λ found x. inl x)
  safe_at n fsm.SyncFile (Failed f) s old new knows has is = rw is.1 (λ found x. inl x, λ found x. inl x)
  safe_at n fsm.CreateRecord (Failed f) s old new knows has is = rw is.1 (λ found x. inl x, λ found x. inl x)
  safe_at n fsm.WriteRecord (Failed f) s old new knows has is = rw is.1 (λ found x. inl x, λ found x. inl x)
  safe_at n fsm.SyncRecord (Failed f) s old new knows has is = rw is.1 (λ found x. inl x, λ found x. inl x)
  safe_at n fsm.RemoveFiles (Failed f) s old new knows has is = rw is.2 (λ found x. inl x, λ found x. inl x)
  safe_at n op (fsm.Answered accepted) s old new knows has is = rw is.1 (λ found x. inl x, λ found x. inl x)
  safe_at n op (Failed f) s old new knows has is = rw is (λ found x. inl x, λ found x. inl x)
  safe_at n op e s old new knows has is = absurd is

  -- == From one operation to the next ==

  -- The disk as this run changes it, without the changes of other processes.
  abbrev changed : Operation → Event → State → Disk → Disk
  changed fsm.RenameRecord Done s d = record d { record_bytes = Some (new_record s) }
  changed fsm.RenameFile Done s d = record d { target = Some s.read }
  changed op e s d = d

  -- This is one of the changes that the operation may make.
  changed_is_change : (op : Operation) (e : Event) (s : State) (d : Disk)
      → Changes op s e d (changed op e s d)
  changed_is_change fsm.RenameRecord Done s d = refl
  changed_is_change fsm.RenameRecord (Failed f) s d = inl refl
  changed_is_change fsm.RenameFile Done s d = refl
  changed_is_change fsm.RenameFile (Failed f) s d = inl refl
  changed_is_change op e s d = refl

  -- A disk without files, with which the run begins here.
  abbrev empty_disk : Disk
  empty_disk = record { target = None; record_bytes = None }

  -- The invariant at each operation.
  abbrev pub Invariant : ℕ → State → Snapshot → Type 0
  Invariant n s m = ((d : Disk) × known.DiskInvariant w o empty_disk s.due s d) × FilesMatch w F Q n s.due s m

  -- The invariant holds when a run begins.
  pub begins : (m : Snapshot) → Invariant 0 (begin o) m
  begins m = ((empty_disk, known.begins w o empty_disk o.check), applying.begins w F Q o.check o m refl)

  -- The part of the invariant that concerns the state.
  pub state_invariant : (n : ℕ) (s : State) (m : Snapshot) → Invariant n s m → InvariantAt w o s.due s
  state_invariant n s m ((d, holds), has) = holds.0

  -- The event is lawful.
  pub true_event : (n : ℕ) (s : State) (m : Snapshot) (c : Call) → Invariant n s m → Others m c.before
      → (Q → LeavesTarget m c.before)
      → is_some (after s.due c.event s) ≡ true → Performs w s s.due c.event c.before c.after
      → IsLawfulEvent w n s c.event
  true_event n s m c (holds, has) others leaves fits is =
      let before = kept_by_others w F Q n s.due s m c.before others leaves has in
      (fits, is_true w F Q n s.due c.event s c.before c.after before is)

  -- The invariant holds after the operation.
  pub next : (n : ℕ) (s : State) (m : Snapshot) (c : Call) → Invariant n s m → Others m c.before
      → (Q → LeavesTarget m c.before)
      → is_some (after s.due c.event s) ≡ true → Performs w s s.due c.event c.before c.after
      → (content c.before.recorded ≡ w.found_record → F)
      → Invariant (count n c.event) (step s c.event).1 c.after
  next n s m c ((d, holds), has) others leaves fits is reads =
      let before = kept_by_others w F Q n s.due s m c.before others leaves has in
      let true = is_true w F Q n s.due c.event s c.before c.after before is in (
        (
          changed s.due c.event s d,
          known.answer_keeps w o empty_disk c.event s (changed s.due c.event s d) (after s.due c.event s) fits
              (known.op_keeps w o empty_disk n s.due c.event s d (changed s.due c.event s d) refl holds
              (changed_is_change s.due c.event s d) true),
        ),
        applying.answer_keeps w F Q (count n c.event) s (after s.due c.event s) c.after fits
            (applying.op_keeps w F Q n s.due c.event s c.before c.after refl reads before is),
      )

  -- The operation is safe.
  pub safe_now : (n : ℕ) (s : State) (m : Snapshot) (c : Call) → Invariant n s m → Others m c.before
      → (Q → LeavesTarget m c.before)
      → Performs w s s.due c.event c.before c.after → Safe c.before c.after
  safe_now n s m c (holds, has) others leaves is =
      let before = kept_by_others w F Q n s.due s m c.before others leaves has in
      safe_at n s.due c.event s c.before c.after holds.1.0 before is

-- == Whole runs ==

without_new_record : (old : Snapshot) (w : World) (o : Options) (found : Option (List ℕ))
    → RecordMayBe old found ⊎ IsNewRecord w o ⊤ ⊥ found → RecordMayBe old found ⊎ IsUpdateRecord w o found
without_new_record old w o found (inl is) = inl is
without_new_record old w o found (inr is) = inr is.1

-- An operation that is safe in this sense is safe as IsSafeCall says.
safe_call : (w : World) (o : Options) (old new : Snapshot) → Safe w o ⊤ ⊥ old new → IsSafeCall w o old new
safe_call w o old new (target, recorded) =
    record {
      target_is = target;
      record_is = λ found is. without_new_record old w o found (recorded found is);
    }

-- Each operation of a run is safe if the invariant holds before it.
safe_from : (w : World) (o : Options) (n : ℕ) (s : State) (m : Snapshot) (calls : List Call) (t : State)
    (end : Snapshot) → Invariant w o ⊤ ⊥ n s m → Applies w s m calls t end → AllCalls (IsSafeCall w o) calls
safe_from w o n s m [] t end known run = tt
safe_from w o n s m (c ∷ more) t end known (others, fits, is, run) = (
  safe_call w o c.before c.after (safe_now w o ⊤ ⊥ n s m c known others (λ q. absurd q) is),
  safe_from w o (count n c.event) (step s c.event).1 c.after more t end
      (next w o ⊤ ⊥ n s m c known others (λ q. absurd q) fits is (λ found. tt)) run,
)

-- Every operation of a run is safe: everything that can be found at the target or at the record after it, at
-- once or after a crash, could be found there before, or is an update that a given key has signed or its
-- record. When an update can be found at the target, only its record can be found at the record.
pub safe_calls : (w : World) (o : Options) (m : Snapshot) (calls : List Call) (t : State) (end : Snapshot)
    → Applies w (begin o) m calls t end → AllCalls (IsSafeCall w o) calls
safe_calls w o m calls t end run = safe_from w o 0 (begin o) m calls t end (begins w o ⊤ ⊥ m) run

-- The events of a run are lawful if the invariant holds before it.
true_from : (w : World) (o : Options) (n : ℕ) (s : State) (m : Snapshot) (calls : List Call) (t : State)
    (end : Snapshot) → Invariant w o ⊤ ⊥ n s m → Applies w s m calls t end
    → IsRun (IsLawfulEvent w) n s (map (λ (c : Call). c.event) calls) t
true_from w o n s m [] t end known run = run.0
true_from w o n s m (c ∷ more) t end known (others, fits, is, run) = (
  true_event w o ⊤ ⊥ n s m c known others (λ q. absurd q) fits is,
  true_from w o (count n c.event) (step s c.event).1 c.after more t end
      (next w o ⊤ ⊥ n s m c known others (λ q. absurd q) fits is (λ found. tt)) run,
)

-- The events of a lawful application are lawful events. So all laws about runs of such events hold for it.
pub true_run : (w : World) (o : Options) (m : Snapshot) (calls : List Call) (t : State) (end : Snapshot)
    → Applies w (begin o) m calls t end
    → IsRun (IsLawfulEvent w) 0 (begin o) (map (λ (c : Call). c.event) calls) t
true_run w o m calls t end run = true_from w o 0 (begin o) m calls t end (begins w o ⊤ ⊥ m) run

-- The invariant holds after a run in which other processes leave the target alone.
calls_keep_target : (w : World) (o : Options) (n : ℕ) (s : State) (m : Snapshot) (calls : List Call)
    (t : State)
    (end : Snapshot) → Invariant w o ⊤ ⊤ n s m → Applies w s m calls t end → OthersLeaveTarget m calls
    → (k : ℕ) × Invariant w o ⊤ ⊤ k t end
calls_keep_target w o n s m [] t end known (is, same) leaves = (n, rw (is, same) known)
calls_keep_target w o n s m (c ∷ more) t end known (others, fits, is, run) (leaves, rest) =
    calls_keep_target w o (count n c.event) (step s c.event).1 c.after more t end
    (next w o ⊤ ⊤ n s m c known others (λ q. leaves) fits is (λ found. tt)) run rest

-- A file that is on the disk, and whose name is synced, is durable.
on_disk : {place : Option File} {left : List (Option File)} {bytes : List ℕ} → IsOnDisk place bytes
    → left ≡ [] → IsDurable place left bytes
on_disk (file, present, holds, synced) none = (file, present, holds, synced, none)

-- The invariant at the end of a run says that no crash can undo it.
end_is_durable : (w : World) (o : Options) (n : ℕ) (op : Operation) (s : State) (m : Snapshot)
    → InvariantAt w o op s
    → FilesMatch w ⊤ ⊤ n op s m → EndIsDurable w o op s m
end_is_durable w o n fsm.Installed s m knows (state_held, recorded, left, complete) =
    let (present, target_left) = complete tt in (
      update_of w o s knows,
      on_disk recorded left,
      (present.0, present.1, present.2, present.3, present.4, target_left),
      state_held.2,
    )
end_is_durable w o n fsm.AlreadyInstalled s m knows ((signed, listed), inl check) =
    (signed, knows.1, sym (listed_is w o s knows.0.0.4 knows.1) ∙ listed, inl check)
end_is_durable w o n fsm.AlreadyInstalled s m knows ((signed, listed), inr holds) =
    let (present, left) = holds tt in
    (signed, knows.1, sym (listed_is w o s knows.0.0.4 knows.1) ∙ listed, inr (on_disk present left))
end_is_durable w o n op s m knows has = tt

-- If other processes leave the target alone, no crash can undo a run that has ended with Installed or
-- AlreadyInstalled.
pub ends_are_durable : (w : World) (o : Options) (m : Snapshot) (calls : List Call) (t : State)
    (end : Snapshot)
    → Applies w (begin o) m calls t end → OthersLeaveTarget m calls → EndIsDurable w o t.due t end
ends_are_durable w o m calls t end run leaves =
    let (n, (known, has)) = calls_keep_target w o 0 (begin o) m calls t end (begins w o ⊤ ⊤ m) run leaves in
    end_is_durable w o n t.due t end known.1.0 has
