-- Proves that the comment is checked against the time that the application passes in.
use Rattle.std.specs.Prelude.{◌≡◌, ◌==◌, ◌&&◌, ◌||◌, ⊤, ℕ, Bool, true, false, not, List, [], ◌∷◌, Option}
use Rattle.std.specs.Prelude.{Some, None, Result, Ok, Err, IfSome, is_some, nat_le, if◌then◌else◌}
use Rattle.std.proofs.Common.{refl, sym, ap, ◌∙◌, true≢false}
use Rattle.minisign.specs.SignatureText.{SignatureTextRecord}
use Rattle.minisign_external.specs.declared.public_keys.PublicKeyValue.{PublicKeyValue}
use Rattle.minisign_install.specs.Applications.{Applies, Call, Snapshot, Performs}
use Rattle.minisign_install.specs.Decisions.{Options, Recorded, comment_fault, judge_record, judge_text}
use Rattle.minisign_install.specs.Faults.{Fault, InstallFault, OtherSize, SameNumber}
use Rattle.minisign_install.specs.Histories.{AllEvents, IsAtTime, is_past_comment}
use Rattle.minisign_install.specs.Step.{Event, Operation, State, after, answer, begin, step}
use Rattle.minisign_install.specs.Step as fsm
use Rattle.minisign_install.specs.StepRuns.{World, count}
use Rattle.minisign_install.proofs.SafeCalls.{Invariant, begins, state_invariant, next}
use Rattle.minisign_install.proofs.StepSafety.{InvariantAt, Passed, text_parsed}
use Rattle.minisign_lists.specs.declared.digests.ListedDigest.{ListedDigest}
use Rattle.minisign_install.specs.Faults.{DigestMismatch}

abbrev ok : SignatureTextRecord → Result SignatureTextRecord Fault
ok t = Ok t

same_ok : (t u : SignatureTextRecord) → ok t ≡ ok u → t ≡ u
same_ok t u is = cc is

module _ (w : World) (o : Options) (time : Option ℕ) where
  -- `fault` is the result of checking the comment at this time.
  abbrev IsTimely : State → Type 0
  IsTimely s =
      (text : SignatureTextRecord) → w.text ≡ Ok text
      → s.fault ≡ comment_fault o s.recorded.version time text.comments.trusted

  -- The invariant at each operation.
  abbrev TimelyAt : Operation → State → Type 0
  TimelyAt fsm.Nothing s = ⊤
  TimelyAt fsm.Lock s = ⊤
  TimelyAt fsm.ReadRecord s = ⊤
  TimelyAt fsm.ReadSignature s = ⊤
  TimelyAt fsm.RemoveFiles s = ⊤
  TimelyAt fsm.Rejected s = ⊤
  TimelyAt op s = IsTimely s

  -- The invariant of a state, for the operation that is due in it.
  abbrev StateInvariant : State → Type 0
  StateInvariant s = TimelyAt s.due s

  -- After an error, the run removes its temporary files, or it has ended.
  after_rejection : (is : Bool) (fault : InstallFault) (s : State)
      → StateInvariant (record s { due = if is then fsm.RemoveFiles else fsm.Rejected; error = Some fault })
  after_rejection true fault s = tt
  after_rejection false fault s = tt

  -- The next lemmas have the names of the functions in Step.antt that choose the next state. Each proves the
  -- invariant after its function.
  reject : (fault : InstallFault) (s : State) → StateInvariant (fsm.reject fault s)
  reject fault s = after_rejection (fsm.has_files s.due) fault s

  -- The operation after `install`, in a check and in an installation.
  to_install : (check : Bool) (s : State) → IsTimely s
      → StateInvariant (record s { due = if check then fsm.WouldInstall else fsm.RemoveLeftovers; read = [] })
  to_install true s is = is
  to_install false s is = is

  install : (s : State) → IsTimely s → StateInvariant (fsm.install s)
  install s is = to_install s.options.check s is

  -- The result of a conditional has the property if both branches have it.
  both_branches : (is : Bool) (x y : State) → StateInvariant x → StateInvariant y
      → StateInvariant (if is then x else y)
  both_branches true x y one other = one
  both_branches false x y one other = other

  compare : (s : State) → IsTimely s → StateInvariant (fsm.compare s)
  compare s is =
      both_branches (fsm.is_newer s) _ _ (install s is)
      (both_branches (is_some s.recorded.digest) _ _ is
      (both_branches (fsm.is_rolling_back s) _ _ (install s is) is))

  after_record : (r : Result Recorded InstallFault) (s : State) → StateInvariant (fsm.after_record r s)
  after_record (Ok r) s = tt
  after_record (Err fault) s = reject fault s

  after_signature : (r : Passed) (other : Option ℕ) (s : State) → s.options ≡ o → other ≡ time
      → judge_text o w.text ≡ r → StateInvariant (fsm.after_signature r other s)
  after_signature (Ok (t, keys)) other s same now passed =
      let parsed = text_parsed w o w.text t keys passed in
      λ text is.
      rw (same, now) (ap (λ (x : SignatureTextRecord).
      comment_fault o s.recorded.version time x.comments.trusted)
      (same_ok t text (sym parsed ∙ is)))
  after_signature (Err fault) other s same now passed = reject _ s

  after_comment : (fault : Option InstallFault) (s : State) → IsTimely s
      → StateInvariant (fsm.after_comment fault (record s { is_signed = true }))
  after_comment None s is =
      both_branches (is_some s.options.list) _ _ is (compare (record s { is_signed = true }) is)
  after_comment (Some fault) s is = reject fault (record s { is_signed = true })

  next_key : (signers : List PublicKeyValue) (s : State) → s.due ≡ fsm.CheckComment → IsTimely s
      → StateInvariant (fsm.next_key signers s)
  next_key [] s at is = reject _ s
  next_key (v ∷ []) s at is = reject _ s
  next_key (v ∷ u ∷ more) s at is = rw at is

  after_listing : (listed : Result ListedDigest InstallFault) (s : State) → IsTimely s
      → StateInvariant (fsm.after_listing listed s)
  after_listing (Ok digest) s is = compare s is
  after_listing (Err fault) s is = reject fault s

  after_data : (listed : Bool) (s : State) → IsTimely s → StateInvariant (fsm.after_data listed s)
  after_data true s is = is
  after_data false s is = reject DigestMismatch s

  after_digest : (accepted : Bool) (s : State) → IsTimely s → StateInvariant (fsm.after_digest accepted s)
  after_digest accepted s is = both_branches (not accepted && fsm.is_rolling_back s) _ _ (install s is) is

  target_is_update : (check : Bool) (s : State) → IsTimely s
      → StateInvariant (fsm.go (if check then fsm.AlreadyInstalled else fsm.SyncTarget) s)
  target_is_update true s is = is
  target_is_update false s is = is

  after_target : (accepted : Bool) (s : State) → IsTimely s → StateInvariant (fsm.after_target accepted s)
  after_target true s is = target_is_update s.options.check s is
  after_target false s is =
      both_branches (s.is_recorded || s.options.again) _ _ (install s is) (reject SameNumber s)

  after_piece : (n : ℕ) (left : Option ℕ) (s : State) → s.due ≡ fsm.CopyData → IsTimely s
      → StateInvariant (fsm.after_piece n left s)
  after_piece n None s at is = rw at is
  after_piece n (Some left) s at is = both_branches (nat_le n left) _ _ (rw at is) (reject OtherSize s)

  after_copy : (left : Option ℕ) (s : State) → IsTimely s → StateInvariant (fsm.after_copy left s)
  after_copy None s is = is
  after_copy (Some left) s is = both_branches (left == 0) _ _ is (reject OtherSize s)

  -- Nothing has to be proved if the event does not fit.
  holds_if_some : (is : Bool) (t : State) → StateInvariant t
      → IfSome (if is then Some t else None) StateInvariant
  holds_if_some true t holds = holds
  holds_if_some false t holds = tt

  -- An operation keeps the invariant.
  op_keeps : (op : Operation) (e : Event) (s : State) (old new : Snapshot) → s.due ≡ op → InvariantAt w o op s
      → TimelyAt op s → Performs w s op e old new → IsAtTime time e → IfSome (after op e s) StateInvariant
  op_keeps fsm.Nothing (fsm.Failed f) s old new at known is done now = tt
  op_keeps fsm.Installed (fsm.Failed f) s old new at known is done now = tt
  op_keeps fsm.AlreadyInstalled (fsm.Failed f) s old new at known is done now = tt
  op_keeps fsm.WouldInstall (fsm.Failed f) s old new at known is done now = tt
  op_keeps fsm.Rejected (fsm.Failed f) s old new at known is done now = tt
  op_keeps fsm.RemoveFiles (fsm.Failed f) s old new at known is done now =
      holds_if_some (fsm.is_failure f) (fsm.go fsm.Rejected s) tt
  op_keeps op (fsm.Failed f) s old new at known is done now =
      holds_if_some (fsm.is_failure f) (fsm.reject (fsm.failure s.due f) s) (reject (fsm.failure s.due f) s)
  op_keeps fsm.Lock fsm.InUse s old new at known is done now = reject _ s
  op_keeps fsm.ReadRecord (fsm.RecordRead found) s old new at known is done now =
      after_record (judge_record s.options found) s
  op_keeps fsm.ReadSignature (fsm.SignatureRead text other) s old new at known is done now =
      after_signature (judge_text s.options text) other s known.0 now (rw (known.0, done.0) refl)
  op_keeps fsm.CheckComment (fsm.Answered true) s old new at known is done now = after_comment s.fault s is
  op_keeps fsm.CheckComment (fsm.Answered false) s old new at known is done now = next_key s.signers s at is
  op_keeps fsm.ReadList (fsm.ListRead list name) s old new at known is done now = is
  op_keeps fsm.CheckList (fsm.Answered true) s old new at known is done now =
      after_listing s.listing.listed (record s { is_list_signed = true }) is
  op_keeps fsm.CheckList (fsm.Answered false) s old new at known is done now = reject _ s
  op_keeps fsm.CheckRecord (fsm.Answered accepted) s old new at known is done now = after_digest accepted s is
  op_keeps fsm.ReadTarget (fsm.PieceRead bytes) s old new at known is done now = rw at is
  op_keeps fsm.ReadTarget fsm.TargetMissing s old new at known is done now = install s is
  op_keeps fsm.CheckTarget (fsm.Answered accepted) s old new at known is done now =
      after_target (accepted && fsm.is_listed s) s is
  op_keeps fsm.CopyData (fsm.PieceCopied n) s old new at known is done now = after_piece n s.left s at is
  op_keeps fsm.CopyData fsm.Done s old new at known is done now = after_copy s.left s is
  op_keeps fsm.ReadBack (fsm.PieceRead bytes) s old new at known is done now = rw at is
  op_keeps fsm.CheckData (fsm.Answered true) s old new at known is done now =
      after_data (fsm.is_listed s) s is
  op_keeps fsm.CheckData (fsm.Answered false) s old new at known is done now = reject _ s
  op_keeps fsm.Lock fsm.Done s old new at known is done now = tt
  op_keeps fsm.RemoveFiles fsm.Done s old new at known is done now = tt
  op_keeps fsm.ReadTarget fsm.Done s old new at known is done now = is
  op_keeps fsm.SyncTarget fsm.Done s old new at known is done now = is
  op_keeps fsm.SyncTargetName fsm.Done s old new at known is done now = is
  op_keeps fsm.RemoveLeftovers fsm.Done s old new at known is done now = is
  op_keeps fsm.CreateFile fsm.Done s old new at known is done now = is
  op_keeps fsm.ReadBack fsm.Done s old new at known is done now = is
  op_keeps fsm.SetPermissions fsm.Done s old new at known is done now = is
  op_keeps fsm.SyncFile fsm.Done s old new at known is done now = is
  op_keeps fsm.CreateRecord fsm.Done s old new at known is done now = is
  op_keeps fsm.WriteRecord fsm.Done s old new at known is done now = is
  op_keeps fsm.SyncRecord fsm.Done s old new at known is done now = is
  op_keeps fsm.RenameRecord fsm.Done s old new at known is done now = is
  op_keeps fsm.SyncRecordName fsm.Done s old new at known is done now = is
  op_keeps fsm.RenameFile fsm.Done s old new at known is done now = is
  op_keeps fsm.SyncFileName fsm.Done s old new at known is done now = is
  op_keeps op e s old new at known is done now = tt

  -- The invariant holds for the state that `step` returns, if the event fits.
  answer_keeps : (s : State) (next : Option State) → is_some next ≡ true → IfSome next StateInvariant
      → StateInvariant (answer s next).1
  answer_keeps s (Some t) is holds = holds
  answer_keeps s None is holds = absurd (true≢false (sym is))

  -- The invariant holds after a run in which the signature file is read at this time.
  invariant_after : (n : ℕ) (s : State) (m : Snapshot) (calls : List Call) (t : State) (end : Snapshot)
      → Invariant w o ⊤ ⊥ n s m → StateInvariant s → Applies w s m calls t end
      → AllEvents (IsAtTime time) calls
      → StateInvariant t × ((k : ℕ) × Invariant w o ⊤ ⊥ k t end)
  invariant_after n s m [] t end known holds (is, same) now = (rw is holds, (n, rw (is, same) known))
  invariant_after n s m (c ∷ more) t end known holds (others, fits, is, run) (now, rest) =
      invariant_after (count n c.event) (step s c.event).1 c.after more t end
      (next w o ⊤ ⊥ n s m c known others (λ q. absurd q) fits is (λ found. tt))
      (answer_keeps s (after s.due c.event s) fits
      (op_keeps s.due c.event s c.before c.after refl (state_invariant w o ⊤ ⊥ n s m known) holds is now)) run
      rest

  -- The invariant holds when a run begins.
  invariant_at_begin : (check : Bool) (s : State) → TimelyAt (if check then fsm.ReadRecord else fsm.Lock) s
  invariant_at_begin true s = tt
  invariant_at_begin false s = tt

  judged_at : (op : Operation) (s : State) → TimelyAt op s → op ≡ fsm.CheckComment → IsTimely s
  judged_at fsm.CheckComment s holds is = holds
  judged_at op s holds is = cc is

  -- If the comment is accepted, it is not rejected at this time.
  fault_is : (s : State) → IsTimely s → s.fault ≡ None → (text : SignatureTextRecord) → w.text ≡ Ok text
      → comment_fault o s.recorded.version time text.comments.trusted ≡ None
  fault_is s timely none text is = sym (timely text is) ∙ none

  accepted_at : (op : Operation) (s : State) → TimelyAt op s → InvariantAt w o op s
      → is_past_comment op ≡ true
      → (text : SignatureTextRecord) → w.text ≡ Ok text
      → comment_fault o s.recorded.version time text.comments.trusted ≡ None
  accepted_at fsm.ReadList s holds known is = fault_is s holds known.0.1
  accepted_at fsm.CheckList s holds known is = fault_is s holds known.0.0.1
  accepted_at fsm.CheckRecord s holds known is = fault_is s holds known.0.1
  accepted_at fsm.ReadTarget s holds known is = fault_is s holds known.0.1
  accepted_at fsm.CheckTarget s holds known is = fault_is s holds known.0.1
  accepted_at fsm.SyncTarget s holds known is = fault_is s holds known.0.1
  accepted_at fsm.SyncTargetName s holds known is = fault_is s holds known.0.1
  accepted_at fsm.AlreadyInstalled s holds known is = fault_is s holds known.0.1
  accepted_at fsm.RemoveLeftovers s holds known is = fault_is s holds known.0.1
  accepted_at fsm.CreateFile s holds known is = fault_is s holds known.0.1
  accepted_at fsm.CopyData s holds known is = fault_is s holds known.0.1
  accepted_at fsm.ReadBack s holds known is = fault_is s holds known.0.1
  accepted_at fsm.CheckData s holds known is = fault_is s holds known.0.1
  accepted_at fsm.WouldInstall s holds known is = fault_is s holds known.0.1
  accepted_at fsm.SetPermissions s holds known is = fault_is s holds known.0.0.1
  accepted_at fsm.SyncFile s holds known is = fault_is s holds known.0.0.1
  accepted_at fsm.CreateRecord s holds known is = fault_is s holds known.0.0.1
  accepted_at fsm.WriteRecord s holds known is = fault_is s holds known.0.0.1
  accepted_at fsm.SyncRecord s holds known is = fault_is s holds known.0.0.1
  accepted_at fsm.RenameRecord s holds known is = fault_is s holds known.0.0.1
  accepted_at fsm.SyncRecordName s holds known is = fault_is s holds known.0.0.1
  accepted_at fsm.RenameFile s holds known is = fault_is s holds known.0.0.1
  accepted_at fsm.SyncFileName s holds known is = fault_is s holds known.0.0.1
  accepted_at fsm.Installed s holds known is = fault_is s holds known.0.0.1
  accepted_at op s holds known is = absurd (true≢false (sym is))

-- When the question about the comment is due, `fault` is the result of checking the comment at the time that
-- was passed in.
pub judged_at_reported_time : (w : World) (o : Options) (m : Snapshot) (calls : List Call) (t : State)
    (end : Snapshot)
    (time : Option ℕ) → Applies w (begin o) m calls t end → AllEvents (IsAtTime time) calls
    → t.due ≡ fsm.CheckComment → (text : SignatureTextRecord) → w.text ≡ Ok text
    → t.fault ≡ comment_fault o t.recorded.version time text.comments.trusted
judged_at_reported_time w o m calls t end time run now is =
    let (holds, (k, known)) = invariant_after w o time 0 (begin o) m calls t end (begins w o ⊤ ⊥ m)
    (invariant_at_begin w o time o.check (begin o)) run now in
    judged_at w o time t.due t holds is

-- If the run is past the check of the comment, the comment is not rejected at the time that was passed in.
pub accepted_at_reported_time : (w : World) (o : Options) (m : Snapshot) (calls : List Call) (t : State)
    (end : Snapshot)
    (time : Option ℕ) → Applies w (begin o) m calls t end → AllEvents (IsAtTime time) calls
    → is_past_comment t.due ≡ true → (text : SignatureTextRecord) → w.text ≡ Ok text
    → comment_fault o t.recorded.version time text.comments.trusted ≡ None
accepted_at_reported_time w o m calls t end time run now is =
    let (holds, (k, known)) = invariant_after w o time 0 (begin o) m calls t end (begins w o ⊤ ⊥ m)
    (invariant_at_begin w o time o.check (begin o)) run now in
    accepted_at w o time t.due t holds (state_invariant w o ⊤ ⊥ k t end known) is
