-- Proves that a run leaves none of its temporary files if it has ended, no operation failed and the lock was
-- free (Succeeds). The application must be lawful (Applies): it performs the operation that is due, and
-- reports what happened. At the beginning, the run has no temporary files (IsBeforeRun). The lemmas show that
-- each step keeps the invariant Lacks.
use Rattle.std.specs.Prelude.{◌≡◌, ◌==◌, ◌&&◌, ◌||◌, ◌-◌, ⊤, ℕ, Bool, true, false, not, List, [], ◌∷◌, Option}
use Rattle.std.specs.Prelude.{Some, None, Result, Ok, Err, IfSome, is_some, nat_le, if◌then◌else◌}
use Rattle.std.proofs.Common.{refl, sym, ◌∙◌, true≢false}
use Rattle.minisign_external.specs.declared.public_keys.PublicKeyValue.{PublicKeyValue}
use Rattle.minisign_install.specs.Applications.{Applies, Call, IsBeforeRun, Snapshot, Others, Performs}
use Rattle.minisign_install.specs.Decisions.{Options, Recorded, judge_record, judge_text}
use Rattle.minisign_install.specs.Faults.{InstallFault, Library, Named, OtherSize, SameNumber}
use Rattle.minisign_base.specs.declared.faults.NamedFault.TheVariants as named
use Rattle.minisign_install.specs.Histories.{AllEvents, HasNoFiles}
use Rattle.minisign_install.specs.Step.{Answered, Done, Event, Failed, InUse, Operation, PieceCopied}
use Rattle.minisign_install.specs.Step.{PieceRead, RecordRead, SignatureRead, State, TargetMissing, after}
use Rattle.minisign_install.specs.Step.{answer, begin, has_ended, step}
use Rattle.minisign_install.specs.Step as fsm
use Rattle.minisign_install.specs.StepRuns.{Succeeds, World}
use Rattle.minisign_install.proofs.StepSafety.{Passed}
use Rattle.minisign_lists.specs.declared.digests.ListedDigest.{ListedDigest}
use Rattle.minisign_install.specs.Step.{ListRead}

-- The run has no temporary file for the record.
abbrev NoRecord : Snapshot → Type 0
NoRecord m = m.record_file ≡ None

-- The invariant: says which temporary files the run does not have when this operation is due. With
-- HasNoFiles, it has none. With NoRecord, it may have one for the data, but has none for the record. With ⊤,
-- it may have both.
abbrev Lacks : Operation → Snapshot → Type 0
Lacks fsm.CopyData m = NoRecord m
Lacks fsm.ReadBack m = NoRecord m
Lacks fsm.CheckData m = NoRecord m
Lacks fsm.SetPermissions m = NoRecord m
Lacks fsm.SyncFile m = NoRecord m
Lacks fsm.CreateRecord m = NoRecord m
Lacks fsm.WriteRecord m = ⊤
Lacks fsm.SyncRecord m = ⊤
Lacks fsm.RenameRecord m = ⊤
Lacks fsm.SyncRecordName m = NoRecord m
Lacks fsm.RenameFile m = NoRecord m
Lacks fsm.RemoveFiles m = ⊤
Lacks op m = HasNoFiles m

-- Lacks holds for the result of a conditional if it holds for both branches. In both_branches the branches
-- are states, in both_op_branches they are operations.
both_branches : (condition : Bool) (x y : State) (m : Snapshot) → Lacks x.due m → Lacks y.due m
    → Lacks (if condition then x else y).due m
both_branches true x y m in_then in_else = in_then
both_branches false x y m in_then in_else = in_else

both_op_branches : (condition : Bool) (x y : Operation) (m : Snapshot) → Lacks x m → Lacks y m
    → Lacks (if condition then x else y) m
both_op_branches true x y m in_then in_else = in_then
both_op_branches false x y m in_then in_else = in_else

-- The next lemmas, up to after_copy, have the names of the functions in Step.antt that choose the next
-- operation. Each proves that Lacks holds after that function.
reject : (fault : InstallFault) (s : State) (m : Snapshot) → HasNoFiles m → Lacks (fsm.reject fault s).due m
reject fault s m no_files = both_op_branches (fsm.has_files s.due) fsm.RemoveFiles fsm.Rejected m tt no_files

install : (s : State) (m : Snapshot) → HasNoFiles m → Lacks (fsm.install s).due m
install s m no_files =
    both_op_branches s.options.check fsm.WouldInstall fsm.RemoveLeftovers m no_files no_files

compare : (s : State) (m : Snapshot) → HasNoFiles m → Lacks (fsm.compare s).due m
compare s m no_files =
    both_branches (fsm.is_newer s) (fsm.install s) _ m (install s m no_files)
    (both_branches (is_some s.recorded.digest) (fsm.go fsm.CheckRecord s) _ m no_files
    (both_branches (fsm.is_rolling_back s) (fsm.install s) (fsm.go fsm.ReadTarget s) m (install s m no_files)
    no_files))

after_record : (r : Result Recorded InstallFault) (s : State) (m : Snapshot) → HasNoFiles m
    → Lacks (fsm.after_record r s).due m
after_record (Ok recorded) s m no_files = no_files
after_record (Err fault) s m no_files = reject fault s m no_files

after_signature : (r : Passed) (time : Option ℕ) (s : State) (m : Snapshot) → HasNoFiles m
    → Lacks (fsm.after_signature r time s).due m
after_signature (Ok (t, signers)) time s m no_files = no_files
after_signature (Err fault) time s m no_files = reject (Library fault) s m no_files

after_comment : (fault : Option InstallFault) (s : State) (m : Snapshot) → HasNoFiles m
    → Lacks (fsm.after_comment fault s).due m
after_comment None s m no_files =
    both_branches (is_some s.options.list) (fsm.go fsm.ReadList s) _ m no_files (compare s m no_files)
after_comment (Some fault) s m no_files = reject fault s m no_files

next_key : (signers : List PublicKeyValue) (s : State) (m : Snapshot) → s.due ≡ fsm.CheckComment
    → HasNoFiles m
    → Lacks (fsm.next_key signers s).due m
next_key [] s m due_is no_files = reject (Library (Named named.CommentSignatureRefused)) s m no_files
next_key (v ∷ []) s m due_is no_files = reject (Library (Named named.CommentSignatureRefused)) s m no_files
next_key (v ∷ u ∷ more) s m due_is no_files = rw due_is no_files

after_listing : (listed : Result ListedDigest InstallFault) (s : State) (m : Snapshot) → HasNoFiles m
    → Lacks (fsm.after_listing listed s).due m
after_listing (Ok digest) s m no_files = compare s m no_files
after_listing (Err fault) s m no_files = reject fault s m no_files

after_data : (listed : Bool) (s : State) (m : Snapshot) → s.due ≡ fsm.CheckData → NoRecord m
    → Lacks (fsm.after_data listed s).due m
after_data true s m due_is no_record = no_record
after_data false s m due_is no_record = rw due_is tt

after_digest : (accepted : Bool) (s : State) (m : Snapshot) → HasNoFiles m
    → Lacks (fsm.after_digest accepted s).due m
after_digest accepted s m no_files =
    both_branches (not accepted && fsm.is_rolling_back s) (fsm.install s)
    (record s { due = fsm.ReadTarget; is_recorded = accepted }) m (install s m no_files) no_files

after_target : (accepted : Bool) (s : State) (m : Snapshot) → HasNoFiles m
    → Lacks (fsm.after_target accepted s).due m
after_target true s m no_files =
    both_op_branches s.options.check fsm.AlreadyInstalled fsm.SyncTarget m no_files no_files
after_target false s m no_files =
    both_branches (s.is_recorded || s.options.again) (fsm.install s) (fsm.reject SameNumber s) m
    (install s m no_files)
    (reject SameNumber s m no_files)

after_piece : (k : ℕ) (left : Option ℕ) (s : State) (m : Snapshot) → s.due ≡ fsm.CopyData → NoRecord m
    → Lacks (fsm.after_piece k left s).due m
after_piece k None s m due_is no_record = rw due_is no_record
after_piece k (Some left) s m due_is no_record =
    both_branches (nat_le k left) (record s { left = Some (left - k) }) (fsm.reject OtherSize s) m
    (rw due_is no_record)
    (rw due_is tt)

after_copy : (left : Option ℕ) (s : State) (m : Snapshot) → s.due ≡ fsm.CopyData → NoRecord m
    → Lacks (fsm.after_copy left s).due m
after_copy None s m due_is no_record = no_record
after_copy (Some left) s m due_is no_record =
    both_branches (left == 0) (fsm.go fsm.ReadBack s) (fsm.reject OtherSize s) m no_record (rw due_is tt)

unchanged_has_no_files : (old new : Snapshot) → new ≡ old → HasNoFiles old → HasNoFiles new
unchanged_has_no_files old new same no_files = rw same no_files

unchanged_has_no_record : (old new : Snapshot) → new ≡ old → NoRecord old → NoRecord new
unchanged_has_no_record old new same no_record = rw same no_record

-- If Lacks holds before an operation that succeeds, it holds afterwards for the next operation.
op_keeps : (w : World) (op : Operation) (e : Event) (s : State) (old new : Snapshot) → s.due ≡ op
    → Lacks op old
    → Performs w s op e old new → Succeeds e → IfSome (after op e s) (λ t. Lacks t.due new)
op_keeps w op (Failed f) s old new due_is lacked effect succeeds = absurd succeeds
op_keeps w op InUse s old new due_is lacked effect succeeds = absurd succeeds
op_keeps w fsm.Lock Done s old new due_is lacked effect succeeds = rw effect.1 lacked
op_keeps w fsm.ReadRecord (RecordRead found) s old new due_is lacked effect succeeds =
    after_record (judge_record s.options found) s new (unchanged_has_no_files old new effect.2 lacked)
op_keeps w fsm.ReadSignature (SignatureRead text time) s old new due_is lacked effect succeeds =
    after_signature (judge_text s.options text) time s new (unchanged_has_no_files old new effect.1 lacked)
op_keeps w fsm.CheckComment (Answered true) s old new due_is lacked effect succeeds =
    after_comment s.fault (record s { is_signed = true }) new (unchanged_has_no_files old new effect.1 lacked)
op_keeps w fsm.CheckComment (Answered false) s old new due_is lacked effect succeeds =
    next_key s.signers s new due_is (unchanged_has_no_files old new effect.1 lacked)
op_keeps w fsm.ReadList (ListRead list name) s old new due_is lacked effect succeeds =
    unchanged_has_no_files old new effect.2 lacked
op_keeps w fsm.CheckList (Answered true) s old new due_is lacked effect succeeds =
    after_listing s.listing.listed (record s { is_list_signed = true }) new
    (unchanged_has_no_files old new effect.1 lacked)
op_keeps w fsm.CheckList (Answered false) s old new due_is lacked effect succeeds =
    reject (Library (Named named.SignatureRefused)) s new (unchanged_has_no_files old new effect.1 lacked)
op_keeps w fsm.CheckRecord (Answered accepted) s old new due_is lacked effect succeeds =
    after_digest accepted s new (unchanged_has_no_files old new effect.1 lacked)
op_keeps w fsm.ReadTarget (PieceRead bytes) s old new due_is lacked effect succeeds =
    rw due_is (unchanged_has_no_files old new effect.2 lacked)
op_keeps w fsm.ReadTarget Done s old new due_is lacked (file, present, holds, effect) succeeds =
    rw effect lacked
op_keeps w fsm.ReadTarget TargetMissing s old new due_is lacked effect succeeds =
    install s new (unchanged_has_no_files old new effect.1 lacked)
op_keeps w fsm.CheckTarget (Answered accepted) s old new due_is lacked effect succeeds =
    after_target (accepted && fsm.is_listed s) s new (unchanged_has_no_files old new effect.1 lacked)
op_keeps w fsm.SyncTarget Done s old new due_is lacked effect succeeds = rw effect lacked
op_keeps w fsm.SyncTargetName Done s old new due_is lacked effect succeeds = rw effect lacked
op_keeps w fsm.RemoveLeftovers Done s old new due_is lacked effect succeeds = rw effect lacked
op_keeps w fsm.CreateFile Done s old new due_is lacked (number, effect) succeeds = rw effect lacked.1
op_keeps w fsm.CopyData (PieceCopied k) s old new due_is lacked (some, (piece, rest, long, part, effect))
    succeeds =
    after_piece k s.left s new due_is (rw effect lacked)
op_keeps w fsm.CopyData Done s old new due_is lacked effect succeeds =
    after_copy s.left s new due_is (unchanged_has_no_record old new effect.1 lacked)
op_keeps w fsm.ReadBack (PieceRead bytes) s old new due_is lacked effect succeeds =
    rw due_is (unchanged_has_no_record old new effect.2 lacked)
op_keeps w fsm.ReadBack Done s old new due_is lacked effect succeeds =
    unchanged_has_no_record old new effect.1 lacked
op_keeps w fsm.CheckData (Answered true) s old new due_is lacked effect succeeds =
    after_data (fsm.is_listed s) s new due_is (unchanged_has_no_record old new effect.1 lacked)
op_keeps w fsm.CheckData (Answered false) s old new due_is lacked effect succeeds = rw due_is tt
op_keeps w fsm.SetPermissions Done s old new due_is lacked effect succeeds = rw effect lacked
op_keeps w fsm.SyncFile Done s old new due_is lacked effect succeeds = rw effect lacked
op_keeps w fsm.CreateRecord Done s old new due_is lacked effect succeeds = tt
op_keeps w fsm.WriteRecord Done s old new due_is lacked effect succeeds = tt
op_keeps w fsm.SyncRecord Done s old new due_is lacked effect succeeds = tt
op_keeps w fsm.RenameRecord Done s old new due_is lacked effect succeeds = rw effect refl
op_keeps w fsm.SyncRecordName Done s old new due_is lacked effect succeeds = rw effect lacked
op_keeps w fsm.RenameFile Done s old new due_is lacked effect succeeds = rw effect (refl, lacked)
op_keeps w fsm.SyncFileName Done s old new due_is lacked effect succeeds = rw effect lacked
op_keeps w fsm.RemoveFiles Done s old new due_is lacked effect succeeds = rw effect (refl, refl)
op_keeps w fsm.Nothing e s old new due_is lacked effect succeeds = tt
op_keeps w fsm.Installed e s old new due_is lacked effect succeeds = tt
op_keeps w fsm.AlreadyInstalled e s old new due_is lacked effect succeeds = tt
op_keeps w fsm.WouldInstall e s old new due_is lacked effect succeeds = tt
op_keeps w fsm.Rejected e s old new due_is lacked effect succeeds = tt
op_keeps w op e s old new due_is lacked effect succeeds = tt

-- The same for the state that `step` returns, if the installer accepts the event.
answer_keeps : (s : State) (new : Snapshot) (next : Option State) → is_some next ≡ true
    → IfSome next (λ t. Lacks t.due new) → Lacks (answer s next).1.due new
answer_keeps s new (Some t) fits holds = holds
answer_keeps s new None fits holds = absurd (true≢false (sym fits))

-- Lacks still holds after changes by other processes.
kept_by_others : (op : Operation) (old new : Snapshot) → Others old new → Lacks op old → Lacks op new
kept_by_others fsm.CopyData old new others lacked = others.record_stays ∙ lacked
kept_by_others fsm.ReadBack old new others lacked = others.record_stays ∙ lacked
kept_by_others fsm.CheckData old new others lacked = others.record_stays ∙ lacked
kept_by_others fsm.SetPermissions old new others lacked = others.record_stays ∙ lacked
kept_by_others fsm.SyncFile old new others lacked = others.record_stays ∙ lacked
kept_by_others fsm.CreateRecord old new others lacked = others.record_stays ∙ lacked
kept_by_others fsm.WriteRecord old new others lacked = tt
kept_by_others fsm.SyncRecord old new others lacked = tt
kept_by_others fsm.RenameRecord old new others lacked = tt
kept_by_others fsm.SyncRecordName old new others lacked = others.record_stays ∙ lacked
kept_by_others fsm.RenameFile old new others lacked = others.record_stays ∙ lacked
kept_by_others fsm.RemoveFiles old new others lacked = tt
kept_by_others op old new others lacked = (others.data_stays ∙ lacked.0, others.record_stays ∙ lacked.1)

-- Lacks still holds after a run in which no operation failed and the lock was free.
lacks_after : (w : World) (s : State) (m : Snapshot) (calls : List Call) (t : State) (end : Snapshot)
    → Lacks s.due m → Applies w s m calls t end → AllEvents Succeeds calls → Lacks t.due end
lacks_after w s m [] t end lacked (same_state, same_files) succeeds = rw (same_state, same_files) lacked
lacks_after w s m (c ∷ more) t end lacked (others, fits, effect, run) (succeeds, rest) =
    lacks_after w (step s c.event).1 c.after more t end
    (answer_keeps s c.after (after s.due c.event s) fits
    (op_keeps w s.due c.event s c.before c.after refl (kept_by_others s.due m c.before others lacked) effect
    succeeds)) run rest

-- If the run has ended, Lacks says that it has no temporary files.
no_files_at_end : (op : Operation) (m : Snapshot) → has_ended op ≡ true → Lacks op m → HasNoFiles m
no_files_at_end fsm.Installed m ended no_files = no_files
no_files_at_end fsm.AlreadyInstalled m ended no_files = no_files
no_files_at_end fsm.WouldInstall m ended no_files = no_files
no_files_at_end fsm.Rejected m ended no_files = no_files
no_files_at_end op m ended no_files = absurd (true≢false (sym ended))

-- If a run begins without temporary files, no operation fails and the lock is free, then a run that has ended
-- leaves no temporary files.
pub no_files_left : (w : World) (o : Options) (m : Snapshot) (calls : List Call) (t : State) (end : Snapshot)
    → IsBeforeRun m → Applies w (begin o) m calls t end → AllEvents Succeeds calls → has_ended t.due ≡ true
    → HasNoFiles end
no_files_left w o m calls t end before_run run succeeds ended =
    no_files_at_end t.due end ended
    (lacks_after w (begin o) m calls t end
    (both_op_branches o.check fsm.ReadRecord fsm.Lock m (before_run.no_data, before_run.no_record)
    (before_run.no_data, before_run.no_record)) run succeeds)
