-- Proves that each file is synced before it is renamed, and that a run succeeds only if all its files and
-- their names are synced.
use Rattle.std.specs.Prelude.{◌≡◌, ◌&&◌, ◌||◌, ◌==◌, ℕ, Bool, true, false, List, [], ◌∷◌, Option, Some}
use Rattle.std.specs.Prelude.{None, Result, Ok, Err, IfSome, is_some, if◌then◌else◌, nat_le, not}
use Rattle.std.proofs.Common.{refl, inl, inr, sym, true≢false}
use Rattle.minisign_external.specs.declared.public_keys.PublicKeyValue.{PublicKeyValue}
use Rattle.minisign_install.specs.Decisions.{Options, Recorded, judge_record, judge_text}
use Rattle.minisign_install.specs.Faults.{DigestMismatch, InstallFault, OtherSize, SameNumber}
use Rattle.minisign_install.specs.Step.{Event, Done, InUse, Failed, RecordRead, SignatureRead, Operation}
use Rattle.minisign_install.specs.Step.{Answered, PieceRead, TargetMissing, PieceCopied, State, after}
use Rattle.minisign_install.specs.Step.{answer, begin, has_files, step}
use Rattle.minisign_install.specs.Step as fsm
use Rattle.minisign_install.specs.StepRuns.{EventFits, IsRun, IsSynced, OnDisk, count, nothing_synced}
use Rattle.minisign_install.specs.StepRuns.{synced_by}
use Rattle.minisign_install.specs.StepRuns.{syncs}
use Rattle.minisign_install.proofs.StepSafety.{Passed}
use Rattle.minisign_lists.specs.declared.digests.ListedDigest.{ListedDigest}

-- The files that must be synced in this state are synced.
abbrev StateInvariant : OnDisk → State → Type 0
StateInvariant d s = IsSynced s.due s d

-- After an error, the run removes its temporary files, or it has ended.
after_rejection : (is : Bool) (s : State) (d : OnDisk)
    → IsSynced (if is then fsm.RemoveFiles else fsm.Rejected) s d
after_rejection true s d = tt
after_rejection false s d = tt

-- A lemma with the name of a function in Step.antt that chooses the next state, such as `reject`, proves the
-- invariant for the result of this function. The lemmas with other names are helpers.
reject : (fault : InstallFault) (s : State) (d : OnDisk) → StateInvariant d (fsm.reject fault s)
reject fault s d = after_rejection (has_files s.due) (fsm.reject fault s) d

-- The result of a conditional has the property if both branches have it.
both_branches : (is : Bool) (x y : State) (d : OnDisk) → StateInvariant d x → StateInvariant d y
    → StateInvariant d (if is then x else y)
both_branches true x y d one other = one
both_branches false x y d one other = other

-- The invariant holds for both operations that `install` can choose: WouldInstall with --check, and otherwise
-- RemoveLeftovers.
to_install : (check : Bool) (s : State) (d : OnDisk)
    → IsSynced (if check then fsm.WouldInstall else fsm.RemoveLeftovers) s d
to_install true s d = tt
to_install false s d = tt

install : (s : State) (d : OnDisk) → StateInvariant d (fsm.install s)
install s d = to_install s.options.check (fsm.install s) d

compare : (s : State) (d : OnDisk) → StateInvariant d (fsm.compare s)
compare s d =
    both_branches (fsm.is_newer s) _ _ d (install s d)
    (both_branches (is_some s.recorded.digest) _ _ d tt
    (both_branches (fsm.is_rolling_back s) _ _ d (install s d) tt))

after_record : (s : State) (r : Result Recorded InstallFault) (d : OnDisk)
    → StateInvariant d (fsm.after_record r s)
after_record s (Ok recorded) d = tt
after_record s (Err fault) d = reject fault s d

after_signature : (s : State) (r : Passed) (time : Option ℕ) (d : OnDisk)
    → StateInvariant d (fsm.after_signature r time s)
after_signature s (Ok (t, signers)) time d = tt
after_signature s (Err fault) time d = reject _ s d

after_comment : (s : State) (fault : Option InstallFault) (d : OnDisk)
    → StateInvariant d (fsm.after_comment fault (record s { is_signed = true }))
after_comment s None d =
    both_branches (is_some s.options.list) _ _ d tt (compare (record s { is_signed = true }) d)
after_comment s (Some fault) d = reject fault (record s { is_signed = true }) d

next_key : (s : State) (signers : List PublicKeyValue) (d : OnDisk) → s.due ≡ fsm.CheckComment
    → StateInvariant d (fsm.next_key signers s)
next_key s [] d at = reject _ s d
next_key s (v ∷ []) d at = reject _ s d
next_key s (v ∷ u ∷ more) d at = rw at tt

after_listing : (s : State) (listed : Result ListedDigest InstallFault) (d : OnDisk)
    → StateInvariant d (fsm.after_listing listed s)
after_listing s (Ok digest) d = compare s d
after_listing s (Err fault) d = reject fault s d

after_data : (s : State) (listed : Bool) (d : OnDisk) → StateInvariant d (fsm.after_data listed s)
after_data s true d = tt
after_data s false d = reject DigestMismatch s d

after_digest : (s : State) (accepted : Bool) (d : OnDisk) → StateInvariant d (fsm.after_digest accepted s)
after_digest s accepted d = both_branches (not accepted && fsm.is_rolling_back s) _ _ d (install s d) tt

target_is_update : (check : Bool) (s : State) (d : OnDisk) → s.options.check ≡ check
    → IsSynced (if check then fsm.AlreadyInstalled else fsm.SyncTarget) s d
target_is_update true s d is = inl is
target_is_update false s d is = tt

after_target : (s : State) (accepted : Bool) (d : OnDisk) → StateInvariant d (fsm.after_target accepted s)
after_target s true d = target_is_update s.options.check (fsm.after_target true s) d refl
after_target s false d =
    both_branches (s.is_recorded || s.options.again) _ _ d (install s d) (reject SameNumber s d)

after_piece : (k : ℕ) (s : State) (left : Option ℕ) (d : OnDisk) → s.due ≡ fsm.CopyData
    → StateInvariant d (fsm.after_piece k left s)
after_piece k s None d at = rw at tt
after_piece k s (Some left) d at = both_branches (nat_le k left) _ _ d (rw at tt) (reject OtherSize s d)

after_copy : (s : State) (left : Option ℕ) (d : OnDisk) → StateInvariant d (fsm.after_copy left s)
after_copy s None d = tt
after_copy s (Some left) d = both_branches (left == 0) _ _ d tt (reject OtherSize s d)

-- Nothing has to be proved if the event does not fit.
holds_if_some : (is : Bool) (t : State) (d : OnDisk) → StateInvariant d t
    → IfSome (if is then Some t else None) (StateInvariant d)
holds_if_some true t d holds = holds
holds_if_some false t d holds = tt

-- An operation keeps the invariant.
op_keeps : (op : Operation) (e : Event) (s : State) (d : OnDisk) → s.due ≡ op → IsSynced op s d
    → IfSome (after op e s) (StateInvariant (syncs op e d))
op_keeps fsm.Nothing (Failed f) s d at is = tt
op_keeps fsm.Installed (Failed f) s d at is = tt
op_keeps fsm.AlreadyInstalled (Failed f) s d at is = tt
op_keeps fsm.WouldInstall (Failed f) s d at is = tt
op_keeps fsm.Rejected (Failed f) s d at is = tt
op_keeps fsm.RemoveFiles (Failed f) s d at is = holds_if_some (fsm.is_failure f) (fsm.go fsm.Rejected s) d tt
op_keeps op (Failed f) s d at is =
    holds_if_some (fsm.is_failure f) (fsm.reject (fsm.failure s.due f) s) _ (reject (fsm.failure s.due f) s _)
op_keeps fsm.Lock InUse s d at is = reject _ s d
op_keeps fsm.ReadRecord (RecordRead found) s d at is = after_record s (judge_record s.options found) d
op_keeps fsm.ReadSignature (SignatureRead text time) s d at is =
    after_signature s (judge_text s.options text) time d
op_keeps fsm.CheckComment (Answered true) s d at is = after_comment s s.fault d
op_keeps fsm.CheckComment (Answered false) s d at is = next_key s s.signers d at
op_keeps fsm.CheckList (Answered true) s d at is =
    after_listing (record s { is_list_signed = true }) s.listing.listed d
op_keeps fsm.CheckList (Answered false) s d at is = reject _ s d
op_keeps fsm.CheckRecord (Answered accepted) s d at is = after_digest s accepted d
op_keeps fsm.ReadTarget (PieceRead bytes) s d at is = rw at tt
op_keeps fsm.ReadTarget TargetMissing s d at is = install s d
op_keeps fsm.CheckTarget (Answered accepted) s d at is = after_target s (accepted && fsm.is_listed s) d
op_keeps fsm.CopyData (PieceCopied k) s d at is = after_piece k s s.left _ at
op_keeps fsm.CopyData Done s d at is = after_copy s s.left d
op_keeps fsm.ReadBack (PieceRead bytes) s d at is = rw at tt
op_keeps fsm.CheckData (Answered true) s d at is = after_data s (fsm.is_listed s) d
op_keeps fsm.CheckData (Answered false) s d at is = reject _ s d
op_keeps fsm.SyncFile Done s d at is = refl
op_keeps fsm.SyncTarget Done s d at is = refl
op_keeps fsm.SyncTargetName Done s d at is = inr (is, refl)
op_keeps fsm.CreateRecord Done s d at is = is
op_keeps fsm.WriteRecord Done s d at is = is
op_keeps fsm.SyncRecord Done s d at is = (is, refl)
op_keeps fsm.RenameRecord Done s d at is = is
op_keeps fsm.SyncRecordName Done s d at (whole, file) = (whole, file, refl)
op_keeps fsm.RenameFile Done s d at is = is
op_keeps fsm.SyncFileName Done s d at (whole, file, name) = (whole, file, name, refl)
op_keeps op Done s d at is = tt
op_keeps op e s d at is = tt

-- The invariant holds for the state that `step` returns, if the event fits.
answer_keeps : (s : State) (next : Option State) (d : OnDisk) → is_some next ≡ true
    → IfSome next (StateInvariant d)
    → StateInvariant d (answer s next).1
answer_keeps s (Some t) d fits holds = holds
answer_keeps s None d fits holds = absurd (true≢false (sym fits))

run_synced : (n : ℕ) (s : State) (events : List Event) (t : State) (d : OnDisk) → StateInvariant d s
    → IsRun (λ n s e. EventFits s e) n s events t → StateInvariant (synced_by s events d) t
run_synced n s [] t d holds is = rw is holds
run_synced n s (e ∷ more) t d holds (fits, run) =
    run_synced (count n e) (step s e).1 more t (syncs s.due e d)
    (answer_keeps s (after s.due e s) (syncs s.due e d) fits (op_keeps s.due e s d refl holds)) run

-- The invariant holds when a run begins.
begins : (check : Bool) (o : Options)
    → IsSynced (if check then fsm.ReadRecord else fsm.Lock) (begin o) nothing_synced
begins true o = tt
begins false o = tt

-- IsSynced holds after every list of events that fit.
pub synced_first : (o : Options) (events : List Event) (t : State)
    → IsRun (λ n s e. EventFits s e) 0 (begin o) events t
    → IsSynced t.due t (synced_by (begin o) events nothing_synced)
synced_first o events t run = run_synced 0 (begin o) events t nothing_synced (begins o.check o) run
