-- Proves that a run leaves the target and the record unchanged if it is rejected because of an input, and not
-- because an operation failed.
use Rattle.std.specs.Prelude.{◌≡◌, ⊤, ℕ, Bool, true, false, not, nat_le, if◌then◌else◌, List, [], ◌∷◌}
use Rattle.std.specs.Prelude.{◌==◌, ◌&&◌, ◌||◌, Option, Some, None, Result, Ok, Err, is_some, IfSome}
use Rattle.std.proofs.Common.{refl, sym, ◌∙◌, true≢false}
use Rattle.minisign.specs.SignatureText.{SignatureTextRecord}
use Rattle.minisign_base.specs.declared.faults.NamedFault.TheVariants as named
use Rattle.minisign_external.specs.declared.public_keys.PublicKeyValue.{PublicKeyValue}
use Rattle.minisign_install.specs.Decisions.{Options, Recorded, judge_record, judge_text}
use Rattle.minisign_install.specs.Faults.{Fault, InstallFault, Library, Named, OtherSize, SameNumber}
use Rattle.minisign_install.specs.Step as fsm
use Rattle.minisign_install.specs.Step.{Answered, Done, Event, Failed, InUse, Operation, PieceCopied}
use Rattle.minisign_install.specs.Step.{PieceRead, RecordRead, SignatureRead, State, TargetMissing, after}
use Rattle.minisign_install.specs.Step.{answer, begin, step}
use Rattle.minisign_install.specs.StepRuns.{AllSucceed, Changes, Disk, Runs, Succeeds, World, count}
use Rattle.minisign_lists.specs.declared.digests.ListedDigest.{ListedDigest}
use Rattle.minisign_install.specs.Faults.{DigestMismatch}
use Rattle.minisign_install.specs.Step.{ListRead}

module _ (old : Disk) where
  -- Until the record is renamed, the target and the record are unchanged. After that, only a failure can
  -- reject the run.
  abbrev InvariantAt : Operation → Disk → Type 0
  InvariantAt fsm.SyncRecordName d = ⊤
  InvariantAt fsm.RenameFile d = ⊤
  InvariantAt fsm.SyncFileName d = ⊤
  InvariantAt fsm.Installed d = ⊤
  InvariantAt op d = d ≡ old

  -- InvariantAt holds for a conditional if it holds for both branches, which are states here and operations
  -- in both_op_branches.
  both_branches : (b : Bool) (s t : State) (d : Disk) → InvariantAt s.due d → InvariantAt t.due d
      → InvariantAt (if b then s else t).due d
  both_branches true s t d one other = one
  both_branches false s t d one other = other

  both_op_branches : (b : Bool) (x y : Operation) (d : Disk) → InvariantAt x d → InvariantAt y d
      → InvariantAt (if b then x else y) d
  both_op_branches true x y d one other = one
  both_op_branches false x y d one other = other

  -- If the files are unchanged, InvariantAt holds after each function that chooses the next operation, up to
  -- after_copy. The lemmas have the names of these functions.
  reject : (fault : InstallFault) (s : State) (d : Disk) → d ≡ old → InvariantAt (fsm.reject fault s).due d
  reject fault s d is = both_op_branches (fsm.has_files s.due) fsm.RemoveFiles fsm.Rejected d is is

  install : (s : State) (d : Disk) → d ≡ old → InvariantAt (fsm.install s).due d
  install s d is = both_op_branches s.options.check fsm.WouldInstall fsm.RemoveLeftovers d is is

  compare : (s : State) (d : Disk) → d ≡ old → InvariantAt (fsm.compare s).due d
  compare s d is =
      both_branches (fsm.is_newer s) (fsm.install s) _ d (install s d is)
      (both_branches (is_some s.recorded.digest) (fsm.go fsm.CheckRecord s) _ d is
      (both_branches (fsm.is_rolling_back s) (fsm.install s) (fsm.go fsm.ReadTarget s) d (install s d is) is))

  after_record : (s : State) (d : Disk) (judged : Result Recorded InstallFault) → d ≡ old
      → InvariantAt (fsm.after_record judged s).due d
  after_record s d (Ok recorded) is = is
  after_record s d (Err fault) is = reject fault s d is

  after_signature : (s : State) (d : Disk) (judged : Result (SignatureTextRecord × List PublicKeyValue) Fault)
      (time : Option ℕ) → d ≡ old → InvariantAt (fsm.after_signature judged time s).due d
  after_signature s d (Ok (t, signers)) time is = is
  after_signature s d (Err fault) time is = reject (Library fault) s d is

  after_comment : (s : State) (d : Disk) (fault : Option InstallFault) → d ≡ old
      → InvariantAt (fsm.after_comment fault s).due d
  after_comment s d None is =
      both_branches (is_some s.options.list) (fsm.go fsm.ReadList s) _ d is (compare s d is)
  after_comment s d (Some fault) is = reject fault s d is

  next_key : (s : State) (d : Disk) (signers : List PublicKeyValue) → s.due ≡ fsm.CheckComment → d ≡ old
      → InvariantAt (fsm.next_key signers s).due d
  next_key s d [] same is = reject (Library (Named named.CommentSignatureRefused)) s d is
  next_key s d (v ∷ []) same is = reject (Library (Named named.CommentSignatureRefused)) s d is
  next_key s d (v ∷ w ∷ more) same is = rw same is

  after_listing : (s : State) (d : Disk) (listed : Result ListedDigest InstallFault) → d ≡ old
      → InvariantAt (fsm.after_listing listed s).due d
  after_listing s d (Ok digest) is = compare s d is
  after_listing s d (Err fault) is = reject fault s d is

  after_data : (s : State) (d : Disk) (listed : Bool) → d ≡ old → InvariantAt (fsm.after_data listed s).due d
  after_data s d true is = is
  after_data s d false is = reject DigestMismatch s d is

  after_digest : (s : State) (d : Disk) (accepted : Bool) → d ≡ old
      → InvariantAt (fsm.after_digest accepted s).due d
  after_digest s d accepted is =
      both_branches (not accepted && fsm.is_rolling_back s) (fsm.install s) _ d (install s d is) is

  after_target : (s : State) (d : Disk) (accepted : Bool) → d ≡ old
      → InvariantAt (fsm.after_target accepted s).due d
  after_target s d true is = both_op_branches s.options.check fsm.AlreadyInstalled fsm.SyncTarget d is is
  after_target s d false is =
      both_branches (s.is_recorded || s.options.again) (fsm.install s) (fsm.reject SameNumber s) d
      (install s d is)
      (reject SameNumber s d is)

  after_piece : (n : ℕ) (s : State) (d : Disk) (left : Option ℕ) → s.due ≡ fsm.CopyData → d ≡ old
      → InvariantAt (fsm.after_piece n left s).due d
  after_piece n s d None same is = rw same is
  after_piece n s d (Some left) same is =
      both_branches (nat_le n left) _ (fsm.reject OtherSize s) d (rw same is) (reject OtherSize s d is)

  after_copy : (s : State) (d : Disk) (left : Option ℕ) → d ≡ old → InvariantAt (fsm.after_copy left s).due d
  after_copy s d None is = is
  after_copy s d (Some left) is =
      both_branches (left == 0) (fsm.go fsm.ReadBack s) (fsm.reject OtherSize s) d is
      (reject OtherSize s d is)

  -- If InvariantAt holds before an operation that succeeds, it holds afterwards for the next operation.
  op_keeps : (op : Operation) (e : Event) (s : State) (mid new : Disk) → s.due ≡ op → InvariantAt op mid
      → Changes op s e mid new → Succeeds e → IfSome (after op e s) (λ t. InvariantAt t.due new)
  op_keeps op (Failed f) s mid new at holds change fine = absurd fine
  op_keeps op InUse s mid new at holds change fine = absurd fine
  op_keeps fsm.ReadRecord (RecordRead found) s mid new at same change fine =
      after_record s new (judge_record s.options found) (change ∙ same)
  op_keeps fsm.ReadSignature (SignatureRead text time) s mid new at same change fine =
      after_signature s new (judge_text s.options text) time (change ∙ same)
  op_keeps fsm.CheckComment (Answered true) s mid new at same change fine =
      after_comment (record s { is_signed = true }) new s.fault (change ∙ same)
  op_keeps fsm.CheckComment (Answered false) s mid new at same change fine =
      next_key s new s.signers at (change ∙ same)
  op_keeps fsm.ReadList (ListRead list name) s mid new at same change fine = change ∙ same
  op_keeps fsm.CheckList (Answered true) s mid new at same change fine =
      after_listing (record s { is_list_signed = true }) new s.listing.listed (change ∙ same)
  op_keeps fsm.CheckList (Answered false) s mid new at same change fine =
      reject (Library (Named named.SignatureRefused)) s new (change ∙ same)
  op_keeps fsm.CheckRecord (Answered accepted) s mid new at same change fine =
      after_digest s new accepted (change ∙ same)
  op_keeps fsm.ReadTarget (PieceRead bytes) s mid new at same change fine = rw at (change ∙ same)
  op_keeps fsm.ReadTarget TargetMissing s mid new at same change fine = install s new (change ∙ same)
  op_keeps fsm.CheckTarget (Answered accepted) s mid new at same change fine =
      after_target s new (accepted && fsm.is_listed s) (change ∙ same)
  op_keeps fsm.CopyData (PieceCopied k) s mid new at same change fine =
      after_piece k s new s.left at (change ∙ same)
  op_keeps fsm.CopyData Done s mid new at same change fine = after_copy s new s.left (change ∙ same)
  op_keeps fsm.ReadBack (PieceRead bytes) s mid new at same change fine = rw at (change ∙ same)
  op_keeps fsm.CheckData (Answered true) s mid new at same change fine =
      after_data s new (fsm.is_listed s) (change ∙ same)
  op_keeps fsm.CheckData (Answered false) s mid new at same change fine =
      reject (Library (Named named.SignatureRefused)) s new (change ∙ same)
  op_keeps fsm.RenameRecord Done s mid new at same change fine = tt
  op_keeps fsm.SyncRecordName Done s mid new at holds change fine = tt
  op_keeps fsm.RenameFile Done s mid new at holds change fine = tt
  op_keeps fsm.SyncFileName Done s mid new at holds change fine = tt
  op_keeps fsm.Nothing Done s mid new at holds change fine = tt
  op_keeps fsm.Installed Done s mid new at holds change fine = tt
  op_keeps fsm.AlreadyInstalled Done s mid new at holds change fine = tt
  op_keeps fsm.WouldInstall Done s mid new at holds change fine = tt
  op_keeps fsm.Rejected Done s mid new at holds change fine = tt
  op_keeps fsm.ReadRecord Done s mid new at holds change fine = tt
  op_keeps fsm.ReadSignature Done s mid new at holds change fine = tt
  op_keeps fsm.CheckComment Done s mid new at holds change fine = tt
  op_keeps fsm.ReadList Done s mid new at holds change fine = tt
  op_keeps fsm.CheckList Done s mid new at holds change fine = tt
  op_keeps fsm.CheckRecord Done s mid new at holds change fine = tt
  op_keeps fsm.CheckTarget Done s mid new at holds change fine = tt
  op_keeps fsm.CheckData Done s mid new at holds change fine = tt
  op_keeps op Done s mid new at same change fine = change ∙ same
  op_keeps op e s mid new at holds change fine = tt

  -- The same for the state that `step` returns, if the installer accepts the event.
  answer_keeps : (s : State) (new : Disk) (next : Option State) → is_some next ≡ true
      → IfSome next (λ t. InvariantAt t.due new) → InvariantAt (answer s next).1.due new
  answer_keeps s new (Some t) fits holds = holds
  answer_keeps s new None fits holds = absurd (true≢false (sym fits))

  -- InvariantAt holds after a run in which no operation failed.
  run_holds : (w : World) (n : ℕ) (s : State) (mid : Disk) (events : List (Event × Disk)) (t : State)
      (new : Disk) → InvariantAt s.due mid → Runs w n s mid events t new → AllSucceed events
      → InvariantAt t.due new
  run_holds w n s mid [] t new holds (is, same) fine = rw (is, same) holds
  run_holds w n s mid ((e, disk) ∷ more) t new holds ((fits, is), change, rest) (fine, all) =
      run_holds w (count n e) (step s e).1 disk more t new
      (answer_keeps s disk (after s.due e s) fits
      (op_keeps s.due e s mid disk refl holds change fine)) rest all

  -- The invariant holds when a run begins.
  begins : (check : Bool) → InvariantAt (if check then fsm.ReadRecord else fsm.Lock) old
  begins true = refl
  begins false = refl

  at_end : (op : Operation) (new : Disk) → op ≡ fsm.Rejected → InvariantAt op new → new ≡ old
  at_end op new same holds = rw same at holds

-- If no operation fails and the lock is free, a run that is rejected leaves the target and the record
-- unchanged.
pub rejected_changes_nothing : (w : World) (o : Options) (old new : Disk) (events : List (Event × Disk))
    (t : State) → Runs w 0 (begin o) old events t new → AllSucceed events → t.due ≡ fsm.Rejected → new ≡ old
rejected_changes_nothing w o old new events t run fine rejected =
    at_end old t.due new rejected (run_holds old w 0 (begin o) old events t new (begins old o.check) run fine)
