-- Invariants of a run of a lawful application: each event is true, the temporary files have the right
-- content, and the record is on the disk before the update is renamed to the target.
use Rattle.std.specs.Prelude.{◌≡◌, ◌≤◌, ◌&&◌, ◌||◌, ◌==◌, ◌+◌, ◌++◌, ⊤, ℕ, Bool, true, false, List, [], ◌∷◌}
use Rattle.std.specs.Prelude.{Option, Some, None, Result, Ok, Err, IfSome, is_some, if◌then◌else◌, length}
use Rattle.std.specs.Prelude.{nat_le, not, ◌⊎◌}
use Rattle.std.proofs.Common.{eq-eqb, refl, inl, inr, sym, ap, ◌∙◌, arith, length-append, true≢false}
use Rattle.minisign_external.specs.declared.public_keys.PublicKeyValue.{PublicKeyValue}
use Rattle.minisign_install.specs.Applications.{File, Snapshot, Others, Performs, bytes_of}
use Rattle.minisign_install.specs.Applications.{content, grown, permitted, synced, synced_if, written}
use Rattle.minisign_install.specs.Histories.{LeavesTarget}
use Rattle.minisign_install.specs.Decisions.{Options, Recorded, judge_record, judge_text}
use Rattle.minisign_install.specs.Faults.{InstallFault, OtherSize, SameNumber}
use Rattle.minisign_install.specs.Step.{Event, Done, InUse, Failed, RecordRead, SignatureRead, Operation}
use Rattle.minisign_install.specs.Step.{Answered, PieceRead, TargetMissing, PieceCopied, State, after}
use Rattle.minisign_install.specs.Step.{answer, begin, has_files, new_record, step}
use Rattle.minisign_install.specs.Step as fsm
use Rattle.minisign_install.specs.Step.{data_question}
use Rattle.minisign_install.specs.StepRuns.{accepts_question}
use Rattle.minisign_install.specs.StepRuns.{IsTrueEvent, World, count}
use Rattle.minisign_install.proofs.StepSafety.{Passed}
use Rattle.minisign_lists.specs.declared.digests.ListedDigest.{ListedDigest}
use Rattle.minisign_install.specs.Faults.{DigestMismatch}
use Rattle.minisign_install.specs.Step.{ListRead}
use Rattle.minisign_install.proofs.Listings.{both_true}

-- There is a file with these bytes.
abbrev pub HasBytes : Option File → List ℕ → Type 0
HasBytes place bytes = (file : File) × (place ≡ Some file) × (file.bytes ≡ bytes)

-- There is a file with these bytes, and it is synced.
abbrev pub IsOnDisk : Option File → List ℕ → Type 0
IsOnDisk place bytes =
    (file : File) × (place ≡ Some file) × (file.bytes ≡ bytes) × (file.synced ≡ true)

-- There is a file with these bytes, it is synced, and its permissions were set.
abbrev pub IsComplete : Option File → List ℕ → Type 0
IsComplete place bytes =
    (file : File) × (place ≡ Some file) × (file.bytes ≡ bytes) × (file.permissions ≡ true)
    × (file.synced ≡ true)

-- F is any property that follows from reading the record. Q is the assumption that other processes leave the
-- target alone.
module _ (w : World) (F Q : Type 0) where
  -- The run is a check, or it holds the lock.
  abbrev IsLockedOrCheck : State → Snapshot → Type 0
  IsLockedOrCheck s m = (s.options.check ≡ true) ⊎ (m.locked ≡ true)

  -- The record was read, and no bytes were copied yet.
  abbrev pub IsEarly : ℕ → State → Snapshot → Type 0
  IsEarly n s m = (n ≡ 0) × IsLockedOrCheck s m × F

  -- The run holds the lock, and the record was read.
  abbrev pub IsLocked : Snapshot → Type 0
  IsLocked m = (m.locked ≡ true) × F

  -- The run holds the lock, the record was read, and temporary files of killed runs were removed.
  abbrev pub IsClear : Snapshot → Type 0
  IsClear m = (m.locked ≡ true) × F × (m.leftovers ≡ false)

  -- The bytes that were read are those of the file at the target, and `opened` is its number.
  abbrev pub IsOpened : State → Snapshot → Type 0
  IsOpened s m =
      (file : File) × (m.target ≡ Some file) × (file.bytes ≡ s.read) × (m.opened ≡ Some file.number)

  -- The signature is valid for the bytes that were read.
  abbrev pub IsSigned : State → Type 0
  IsSigned s = (accepts_question w (data_question fsm.CheckTarget s) ≡ true) × (fsm.is_listed s ≡ true)

  -- The invariant of the files, for each operation.
  abbrev pub FilesMatch : ℕ → Operation → State → Snapshot → Type 0
  FilesMatch n fsm.Lock s m = (n ≡ 0) × (s.options.check ≡ false)
  FilesMatch n fsm.ReadRecord s m = (n ≡ 0) × IsLockedOrCheck s m
  FilesMatch n fsm.ReadSignature s m = IsEarly n s m
  FilesMatch n fsm.CheckComment s m = IsEarly n s m
  FilesMatch n fsm.ReadList s m = IsEarly n s m
  FilesMatch n fsm.CheckList s m = IsEarly n s m
  FilesMatch n fsm.CheckRecord s m = IsEarly n s m
  FilesMatch n fsm.ReadTarget s m = IsEarly n s m
  FilesMatch n fsm.CheckTarget s m = IsEarly n s m × (Q → IsOpened s m)
  FilesMatch n fsm.SyncTarget s m = IsSigned s × (Q → IsOpened s m)
  FilesMatch n fsm.SyncTargetName s m = IsSigned s × (Q → IsOnDisk m.target s.read)
  FilesMatch n fsm.AlreadyInstalled s m =
      IsSigned s × ((s.options.check ≡ true) ⊎ (Q → IsOnDisk m.target s.read × (m.target_left ≡ [])))
  FilesMatch n fsm.RemoveLeftovers s m = (n ≡ 0) × IsLocked m
  FilesMatch n fsm.CreateFile s m = (n ≡ 0) × IsClear m
  FilesMatch n fsm.CopyData s m =
      IsClear m × ((file : File) × (m.data_file ≡ Some file) × (length file.bytes ≡ n))
  FilesMatch n fsm.ReadBack s m = IsClear m × HasBytes m.data_file w.update
  FilesMatch n fsm.CheckData s m = IsClear m × HasBytes m.data_file s.read
  FilesMatch n fsm.SetPermissions s m = IsClear m × HasBytes m.data_file s.read
  FilesMatch n fsm.SyncFile s m =
      IsClear m
      × ((file : File) × (m.data_file ≡ Some file) × (file.bytes ≡ s.read) × (file.permissions ≡ true))
  FilesMatch n fsm.CreateRecord s m = IsClear m × IsComplete m.data_file s.read
  FilesMatch n fsm.WriteRecord s m =
      IsClear m × IsComplete m.data_file s.read × ((file : File) × (m.record_file ≡ Some file))
  FilesMatch n fsm.SyncRecord s m =
      IsClear m × IsComplete m.data_file s.read × HasBytes m.record_file (new_record s)
  FilesMatch n fsm.RenameRecord s m =
      IsClear m × IsComplete m.data_file s.read × IsOnDisk m.record_file (new_record s)
  FilesMatch n fsm.SyncRecordName s m =
      IsClear m × IsComplete m.data_file s.read × IsOnDisk m.recorded (new_record s)
  FilesMatch n fsm.RenameFile s m =
      IsClear m × IsComplete m.data_file s.read × IsOnDisk m.recorded (new_record s) × (m.recorded_left ≡ [])
  FilesMatch n fsm.SyncFileName s m =
      IsClear m × IsOnDisk m.recorded (new_record s) × (m.recorded_left ≡ [])
      × (Q → IsComplete m.target s.read)
  FilesMatch n fsm.Installed s m =
      IsClear m × IsOnDisk m.recorded (new_record s) × (m.recorded_left ≡ [])
      × (Q → IsComplete m.target s.read × (m.target_left ≡ []))
  FilesMatch n op s m = ⊤

  -- The invariant still holds after changes by other processes.
  pub kept_by_others : (n : ℕ) (op : Operation) (s : State) (old new : Snapshot) → Others old new
      → (Q → LeavesTarget old new) → FilesMatch n op s old → FilesMatch n op s new
  kept_by_others n fsm.SyncRecordName s old new others target (lock_held, whole, recorded) =
      rw (
        others.data_stays,
        others.lock_stays,
        others.leftovers_stay lock_held.0,
        others.recorded_stays
            lock_held.0,
      )
      (lock_held, whole, recorded)
  kept_by_others n fsm.RenameFile s old new others target (lock_held, whole, recorded, left) =
      rw (
        others.data_stays,
        others.lock_stays,
        others.leftovers_stay lock_held.0,
        others.recorded_stays lock_held.0,
        others.left_stays lock_held.0,
      ) (lock_held, whole, recorded, left)
  kept_by_others n fsm.SyncFileName s old new others target (lock_held, recorded, left, complete) =
      rw (
        others.lock_stays,
        others.leftovers_stay lock_held.0,
        others.recorded_stays lock_held.0,
        others.left_stays lock_held.0,
      )
      (lock_held, recorded, left, λ q. rw (target q).0 (complete q))
  kept_by_others n fsm.Installed s old new others target (lock_held, recorded, left, complete) =
      rw (
        others.lock_stays,
        others.leftovers_stay lock_held.0,
        others.recorded_stays lock_held.0,
        others.left_stays lock_held.0,
      )
      (lock_held, recorded, left, λ q. rw ((target q).0, (target q).1) (complete q))
  kept_by_others n fsm.Lock s old new others target has = has
  kept_by_others n fsm.ReadRecord s old new others target has = rw others.lock_stays has
  kept_by_others n fsm.ReadSignature s old new others target has = rw others.lock_stays has
  kept_by_others n fsm.CheckComment s old new others target has = rw others.lock_stays has
  kept_by_others n fsm.ReadList s old new others target has = rw others.lock_stays has
  kept_by_others n fsm.CheckList s old new others target has = rw others.lock_stays has
  kept_by_others n fsm.CheckRecord s old new others target has = rw others.lock_stays has
  kept_by_others n fsm.ReadTarget s old new others target has = rw others.lock_stays has
  kept_by_others n fsm.CheckTarget s old new others target (has, opened) =
      rw (others.lock_stays, others.opened_stays) (has, λ q. rw (target q).0 (opened q))
  kept_by_others n fsm.SyncTarget s old new others target (signed, opened) =
      rw others.opened_stays (signed, λ q. rw (target q).0 (opened q))
  kept_by_others n fsm.SyncTargetName s old new others target (signed, holds) =
      (signed, λ q. rw (target q).0 (holds q))
  kept_by_others n fsm.AlreadyInstalled s old new others target (signed, inl check) = (signed, inl check)
  kept_by_others n fsm.AlreadyInstalled s old new others target (signed, inr holds) =
      (signed, inr (λ q. rw ((target q).0, (target q).1) (holds q)))
  kept_by_others n fsm.RemoveLeftovers s old new others target has = rw others.lock_stays has
  kept_by_others n fsm.CreateFile s old new others target has =
      rw (others.lock_stays, others.leftovers_stay has.1.0) has
  kept_by_others n fsm.CopyData s old new others target has =
      rw (others.data_stays, others.lock_stays, others.leftovers_stay has.0.0) has
  kept_by_others n fsm.ReadBack s old new others target has =
      rw (others.data_stays, others.lock_stays, others.leftovers_stay has.0.0) has
  kept_by_others n fsm.CheckData s old new others target has =
      rw (others.data_stays, others.lock_stays, others.leftovers_stay has.0.0) has
  kept_by_others n fsm.SetPermissions s old new others target has =
      rw (others.data_stays, others.lock_stays, others.leftovers_stay has.0.0) has
  kept_by_others n fsm.SyncFile s old new others target has =
      rw (others.data_stays, others.lock_stays, others.leftovers_stay has.0.0) has
  kept_by_others n fsm.CreateRecord s old new others target has =
      rw (others.data_stays, others.lock_stays, others.leftovers_stay has.0.0) has
  kept_by_others n fsm.WriteRecord s old new others target has =
      rw (others.data_stays, others.record_stays, others.lock_stays, others.leftovers_stay has.0.0) has
  kept_by_others n fsm.SyncRecord s old new others target has =
      rw (others.data_stays, others.record_stays, others.lock_stays, others.leftovers_stay has.0.0) has
  kept_by_others n fsm.RenameRecord s old new others target has =
      rw (others.data_stays, others.record_stays, others.lock_stays, others.leftovers_stay has.0.0) has
  kept_by_others n op s old new others target has = tt

  -- == Each event is true ==

  -- After a piece of the data was copied, the number of copied bytes is at most the length of the data.
  piece_fits : (k n : ℕ) (file : File) (place : Option File) (piece rest : List ℕ) → place ≡ Some file
      → length file.bytes ≡ n → length piece ≡ k → w.update ≡ (bytes_of place ++ piece) ++ rest
      → n + k ≤ length w.update
  piece_fits k n file place piece rest at long some is =
      let whole : w.update ≡ (file.bytes ++ piece) ++ rest = is
      ∙ ap (λ p. (bytes_of p ++ piece) ++ rest) at in
      omega (
        arith,
        ap length whole,
        length-append (file.bytes ++ piece) rest,
        length-append file.bytes piece,
        long,
        some,
      )

  -- If the files match the state, the event is true.
  pub is_true : (n : ℕ) (op : Operation) (e : Event) (s : State) (old new : Snapshot) → FilesMatch n op s old
      → Performs w s op e old new → IsTrueEvent w n s op e
  is_true n fsm.ReadRecord (RecordRead found) s old new has is = is.0
  is_true n op (RecordRead found) s old new has is = absurd is
  is_true n fsm.ReadSignature (SignatureRead text time) s old new has is = is.0
  is_true n op (SignatureRead text time) s old new has is = absurd is
  is_true n fsm.ReadList (ListRead list name) s old new has is = (is.0, is.1)
  is_true n op (ListRead list name) s old new has is = absurd is
  is_true n op (Answered accepted) s old new has is = is.0
  is_true n fsm.ReadTarget (PieceRead bytes) s old new has is = (is.0, is.1)
  is_true n fsm.ReadBack (PieceRead bytes) s old new (lock_held, (file, at, holds)) (some, (rest, is), same) =
      (some, (rest, is ∙ ap bytes_of at ∙ holds))
  is_true n fsm.CopyData (PieceCopied k) s old new (lock_held, (file, at, long))
      (some, (piece, rest, is, whole, same)) =
      (some, piece_fits k n file old.data_file piece rest at long is whole)
  is_true n op (PieceCopied k) s old new has is = absurd is
  is_true n fsm.CopyData Done s old new (lock_held, (file, at, long)) is =
      sym long ∙ ap length (sym (ap bytes_of at) ∙ is.0)
  is_true n fsm.ReadBack Done s old new (lock_held, (file, at, holds)) is = is.0 ∙ ap bytes_of at ∙ holds
  is_true n op e s old new has is = tt

  -- == What an event leads to ==

  -- After an error, the run removes its temporary files, or it has ended.
  after_rejection : (n : ℕ) (is : Bool) (s : State) (m : Snapshot)
      → FilesMatch n (if is then fsm.RemoveFiles else fsm.Rejected) s m
  after_rejection n true s m = tt
  after_rejection n false s m = tt

  -- The invariant of a state, for the operation that is due in it.
  abbrev StateInvariant : ℕ → Snapshot → State → Type 0
  StateInvariant n m s = FilesMatch n s.due s m

  -- The next lemmas have the names of the functions in Step.antt that choose the next state. Each proves the
  -- invariant after its function.
  reject : (n : ℕ) (fault : InstallFault) (s : State) (m : Snapshot) → StateInvariant n m (fsm.reject fault s)
  reject n fault s m = after_rejection n (has_files s.due) (fsm.reject fault s) m

  -- The result of a conditional has the property if both branches have it.
  both_branches : (n : ℕ) (is : Bool) (x y : State) (m : Snapshot) → StateInvariant n m x
      → StateInvariant n m y
      → StateInvariant n m (if is then x else y)
  both_branches n true x y m one other = one
  both_branches n false x y m one other = other

  -- The operation after `install`, in a check and in an installation.
  to_install : (n : ℕ) (check : Bool) (s : State) (m : Snapshot) → s.options.check ≡ check → IsEarly n s m
      → FilesMatch n (if check then fsm.WouldInstall else fsm.RemoveLeftovers) (fsm.install s) m
  to_install n true s m is has = tt
  to_install n false s m is (none, inl check, found) = absurd (true≢false (sym check ∙ is))
  to_install n false s m is (none, inr locked, found) = (none, (locked, found))

  install : (n : ℕ) (s : State) (m : Snapshot) → IsEarly n s m → StateInvariant n m (fsm.install s)
  install n s m has = to_install n s.options.check s m refl has

  compare : (n : ℕ) (s : State) (m : Snapshot) → IsEarly n s m → StateInvariant n m (fsm.compare s)
  compare n s m has =
      both_branches n (fsm.is_newer s) _ _ m (install n s m has)
      (both_branches n (is_some s.recorded.digest) _ _ m has
      (both_branches n (fsm.is_rolling_back s) _ _ m (install n s m has) has))

  after_record : (n : ℕ) (s : State) (r : Result Recorded InstallFault) (m : Snapshot) → IsEarly n s m
      → StateInvariant n m (fsm.after_record r s)
  after_record n s (Ok recorded) m has = has
  after_record n s (Err fault) m has = reject n fault s m

  after_signature : (n : ℕ) (s : State) (r : Passed) (time : Option ℕ) (m : Snapshot) → IsEarly n s m
      → StateInvariant n m (fsm.after_signature r time s)
  after_signature n s (Ok (t, signers)) time m has = has
  after_signature n s (Err fault) time m has = reject n _ s m

  after_comment : (n : ℕ) (s : State) (fault : Option InstallFault) (m : Snapshot) → IsEarly n s m
      → StateInvariant n m (fsm.after_comment fault (record s { is_signed = true }))
  after_comment n s None m has =
      both_branches n (is_some s.options.list) _ _ m has (compare n (record s { is_signed = true }) m has)
  after_comment n s (Some fault) m has = reject n fault (record s { is_signed = true }) m

  next_key : (n : ℕ) (s : State) (signers : List PublicKeyValue) (m : Snapshot) → s.due ≡ fsm.CheckComment
      → IsEarly n s m → StateInvariant n m (fsm.next_key signers s)
  next_key n s [] m at has = reject n _ s m
  next_key n s (v ∷ []) m at has = reject n _ s m
  next_key n s (v ∷ u ∷ more) m at has = rw at has

  after_listing : (n : ℕ) (s : State) (listed : Result ListedDigest InstallFault) (m : Snapshot)
      → IsEarly n s m → StateInvariant n m (fsm.after_listing listed s)
  after_listing n s (Ok digest) m has = compare n s m has
  after_listing n s (Err fault) m has = reject n fault s m

  after_data : (n : ℕ) (s : State) (listed : Bool) (m : Snapshot) → FilesMatch n fsm.CheckData s m
      → StateInvariant n m (fsm.after_data listed s)
  after_data n s true m has = has
  after_data n s false m has = reject n DigestMismatch s m

  after_digest : (n : ℕ) (s : State) (accepted : Bool) (m : Snapshot) → IsEarly n s m
      → StateInvariant n m (fsm.after_digest accepted s)
  after_digest n s accepted m has =
      both_branches n (not accepted && fsm.is_rolling_back s) _ _ m (install n s m has) has

  target_is_update : (n : ℕ) (check : Bool) (s : State) (m : Snapshot) → s.options.check ≡ check → IsSigned s
      → (Q → IsOpened s m) → FilesMatch n (if check then fsm.AlreadyInstalled else fsm.SyncTarget) s m
  target_is_update n true s m is signed opened = (signed, inl is)
  target_is_update n false s m is signed opened = (signed, opened)

  after_target : (n : ℕ) (s : State) (accepted : Bool) (m : Snapshot) → IsEarly n s m
      → (accepted ≡ true → IsSigned s) → (Q → IsOpened s m) → StateInvariant n m (fsm.after_target accepted s)
  after_target n s true m has is opened =
      target_is_update n s.options.check (fsm.after_target true s) m refl (is refl) opened
  after_target n s false m has is opened =
      both_branches n (s.is_recorded || s.options.again) _ _ m (install n s m has) (reject n SameNumber s m)

  after_piece : (n k : ℕ) (s : State) (left : Option ℕ) (m : Snapshot) → s.due ≡ fsm.CopyData
      → FilesMatch n fsm.CopyData s m → StateInvariant n m (fsm.after_piece k left s)
  after_piece n k s None m at has = rw at has
  after_piece n k s (Some left) m at has =
      both_branches n (nat_le k left) _ _ m (rw at has) (reject n OtherSize s m)

  after_copy : (n : ℕ) (s : State) (left : Option ℕ) (m : Snapshot) → IsClear m
      → HasBytes m.data_file w.update
      → StateInvariant n m (fsm.after_copy left s)
  after_copy n s None m lock_held has = (lock_held, has)
  after_copy n s (Some left) m lock_held has = both_branches n (left == 0) _ _ m (lock_held, has)
      (reject n OtherSize s m)

  -- Nothing has to be proved if the event does not fit.
  holds_if_some : (n : ℕ) (is : Bool) (t : State) (m : Snapshot) → StateInvariant n m t
      → IfSome (if is then Some t else None) (StateInvariant n m)
  holds_if_some n true t m holds = holds
  holds_if_some n false t m holds = tt

  piece_copied : (n k : ℕ) (s : State) (old new : Snapshot) → FilesMatch n fsm.CopyData s old
      → Performs w s fsm.CopyData (PieceCopied k) old new → FilesMatch (n + k) fsm.CopyData s new
  piece_copied n k s old new (lock_held, (file, at, long)) (some, (piece, rest, is, whole, same)) =
      rw same (
        lock_held,
        (
          record file { bytes = file.bytes ++ piece; synced = false },
          ap (grown piece) at,
          omega (arith, length-append file.bytes piece, long, is),
        ),
      )

  -- If the file that was read is at the target, it is on the disk after it was synced.
  opened_synced : (s : State) (m : Snapshot) → IsOpened s m → IsOnDisk (synced_if m.opened m.target) s.read
  opened_synced s m (file, present, holds, opened) =
      rw (opened, present, eq-eqb file.number file.number refl)
      (record file { synced = true }, refl, holds, refl)

  -- An operation keeps the invariant.
  pub op_keeps : (n : ℕ) (op : Operation) (e : Event) (s : State) (old new : Snapshot) → s.due ≡ op
      → (content old.recorded ≡ w.found_record → F) → FilesMatch n op s old → Performs w s op e old new
      → IfSome (after op e s) (StateInvariant (count n e) new)
  op_keeps n fsm.Nothing (Failed f) s old new at reads has is = tt
  op_keeps n fsm.Installed (Failed f) s old new at reads has is = tt
  op_keeps n fsm.AlreadyInstalled (Failed f) s old new at reads has is = tt
  op_keeps n fsm.WouldInstall (Failed f) s old new at reads has is = tt
  op_keeps n fsm.Rejected (Failed f) s old new at reads has is = tt
  op_keeps n fsm.RemoveFiles (Failed f) s old new at reads has is =
      holds_if_some n (fsm.is_failure f) (fsm.go fsm.Rejected s) new tt
  op_keeps n op (Failed f) s old new at reads has is =
      holds_if_some n (fsm.is_failure f) (fsm.reject (fsm.failure s.due f) s) new
      (reject n (fsm.failure s.due f) s new)
  op_keeps n fsm.Lock InUse s old new at reads has is = reject n _ s new
  op_keeps n fsm.Lock Done s old new at reads has is = rw is.1 (has.0, inr refl)
  op_keeps n fsm.ReadRecord (RecordRead found) s old new at reads has is =
      after_record n s (judge_record s.options found) new
      (rw is.2 (has.0, has.1, reads (sym is.1 ∙ is.0)))
  op_keeps n fsm.ReadSignature (SignatureRead text time) s old new at reads has is =
      after_signature n s (judge_text s.options text) time new (rw is.1 has)
  op_keeps n fsm.CheckComment (Answered true) s old new at reads has is =
      after_comment n s s.fault new (rw is.1 has)
  op_keeps n fsm.CheckComment (Answered false) s old new at reads has is =
      next_key n s s.signers new at (rw is.1 has)
  op_keeps n fsm.ReadList (ListRead list name) s old new at reads has is = rw is.2 has
  op_keeps n fsm.CheckList (Answered true) s old new at reads has is =
      after_listing n (record s { is_list_signed = true }) s.listing.listed new (rw is.1 has)
  op_keeps n fsm.CheckList (Answered false) s old new at reads has is = reject n _ s new
  op_keeps n fsm.CheckRecord (Answered accepted) s old new at reads has is =
      after_digest n s accepted new (rw is.1 has)
  op_keeps n fsm.ReadTarget (PieceRead bytes) s old new at reads has is = rw (at, is.2) has
  op_keeps n fsm.ReadTarget Done s old new at reads has (file, present, holds, is) =
      rw is (has, λ q. (file, present, holds, refl))
  op_keeps n fsm.ReadTarget TargetMissing s old new at reads has is = install n s new (rw is.1 has)
  op_keeps n fsm.CheckTarget (Answered accepted) s old new at reads has is =
      after_target n s (accepted && fsm.is_listed s) new (rw is.1 has.0)
      (λ both. (
        sym is.0 ∙ (both_true accepted (fsm.is_listed s) both).0,
        (both_true accepted (fsm.is_listed s) both).1,
      )) (λ q. rw is.1 (has.1 q))
  op_keeps n fsm.RemoveLeftovers Done s old new at reads (none, (locked, known)) is =
      rw is (none, (locked, known, refl))
  op_keeps n fsm.CreateFile Done s old new at reads (none, lock_held) (number, is) =
      rw is (
        lock_held,
        (record { number = number; bytes = []; synced = false; permissions = false }, refl, sym none),
      )
  op_keeps n fsm.CopyData (PieceCopied k) s old new at reads has is =
      after_piece (n + k) k s s.left new at (piece_copied n k s old new has is)
  op_keeps n fsm.CopyData Done s old new at reads (lock_held, (file, present, long)) is =
      after_copy n s s.left new (rw is.1 lock_held)
      (rw is.1 (file, present, sym (ap bytes_of present) ∙ is.0))
  op_keeps n fsm.ReadBack (PieceRead bytes) s old new at reads has is = rw (at, is.2) has
  op_keeps n fsm.ReadBack Done s old new at reads (lock_held, (file, present, holds)) is =
      rw is.1 (lock_held, (file, present, sym (ap bytes_of present) ∙ sym is.0))
  op_keeps n fsm.CheckData (Answered true) s old new at reads has is =
      after_data n s (fsm.is_listed s) new (rw is.1 has)
  op_keeps n fsm.CheckData (Answered false) s old new at reads has is = reject n _ s new
  op_keeps n fsm.SetPermissions Done s old new at reads (lock_held, (file, present, holds)) is =
      rw is (
        lock_held,
        (
          record file { permissions = true; synced = false },
          ap permitted present,
          holds,
          refl,
        ),
      )
  op_keeps n fsm.SyncFile Done s old new at reads (lock_held, (file, present, holds, same_permissions)) is =
      rw is (lock_held, (record file { synced = true }, ap synced present, holds, same_permissions, refl))
  op_keeps n fsm.CreateRecord Done s old new at reads (lock_held, whole) (number, is) =
      rw is (
        lock_held,
        whole,
        (record { number = number; bytes = []; synced = false; permissions = false }, refl),
      )
  op_keeps n fsm.WriteRecord Done s old new at reads (lock_held, whole, (file, present)) is =
      rw is (
        lock_held,
        whole,
        (record file { bytes = new_record s; synced = false }, ap (written (new_record s)) present, refl),
      )
  op_keeps n fsm.SyncRecord Done s old new at reads (lock_held, whole, (file, present, holds)) is =
      rw is (lock_held, whole, (record file { synced = true }, ap synced present, holds, refl))
  op_keeps n fsm.RenameRecord Done s old new at reads has is = rw is has
  op_keeps n fsm.SyncRecordName Done s old new at reads (lock_held, whole, recorded) is =
      rw is (lock_held, whole, recorded, refl)
  op_keeps n fsm.RenameFile Done s old new at reads (lock_held, whole, recorded, left) is =
      rw is (lock_held, recorded, left, λ q. whole)
  op_keeps n fsm.SyncFileName Done s old new at reads (lock_held, recorded, left, complete) is =
      rw is (lock_held, recorded, refl, λ q. (complete q, refl))
  op_keeps n fsm.SyncTarget Done s old new at reads (signed, opened) is =
      rw is (signed, λ q. opened_synced s old (opened q))
  op_keeps n fsm.SyncTargetName Done s old new at reads (signed, holds) is =
      rw is (signed, inr (λ q. (holds q, refl)))
  op_keeps n fsm.RemoveFiles Done s old new at reads has is = tt
  op_keeps n op Done s old new at reads has is = absurd is
  op_keeps n op e s old new at reads has is = tt

  -- The invariant holds for the state that `step` returns, if the event fits.
  pub answer_keeps : (n : ℕ) (s : State) (next : Option State) (m : Snapshot) → is_some next ≡ true
      → IfSome next (StateInvariant n m) → StateInvariant n m (answer s next).1
  answer_keeps n s (Some t) m fits holds = holds
  answer_keeps n s None m fits holds = absurd (true≢false (sym fits))

  -- The invariant holds when a run begins.
  pub begins : (check : Bool) (o : Options) (m : Snapshot) → o.check ≡ check
      → FilesMatch 0 (if check then fsm.ReadRecord else fsm.Lock) (begin o) m
  begins true o m is = (refl, inl is)
  begins false o m is = (refl, is)
