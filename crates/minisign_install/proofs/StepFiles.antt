-- Proves that a run that has ended has renamed each of its temporary files, or tried to remove it.
use Rattle.std.specs.Prelude.{◌≡◌, ◌&&◌, ◌||◌, ◌==◌, ⊤, ℕ, Bool, true, false, List, [], ◌∷◌, Option, Some}
use Rattle.std.specs.Prelude.{None, Result, Ok, Err, IfSome, is_some, if◌then◌else◌, nat_le, not}
use Rattle.std.proofs.Common.{refl, sym, true≢false}
use Rattle.minisign_external.specs.declared.public_keys.PublicKeyValue.{PublicKeyValue}
use Rattle.minisign_install.specs.Decisions.{Options, Recorded, judge_record, judge_text}
use Rattle.minisign_install.specs.Faults.{InstallFault, Library, Named, OtherSize, SameNumber, TargetInUse}
use Rattle.minisign_base.specs.declared.faults.NamedFault.TheVariants as named
use Rattle.minisign_install.specs.Step.{Event, Done, InUse, Failed, RecordRead, SignatureRead, Operation}
use Rattle.minisign_install.specs.Step.{Answered, PieceRead, TargetMissing, PieceCopied, State, after}
use Rattle.minisign_install.specs.Step.{answer, begin, has_ended, has_files, step}
use Rattle.minisign_install.specs.Step as fsm
use Rattle.minisign_install.specs.StepRuns.{EventFits, IsRun, Owned, count, nothing_owned, owned_by, owns}
use Rattle.minisign_install.proofs.StepSafety.{Passed}
use Rattle.minisign_lists.specs.declared.digests.ListedDigest.{ListedDigest}
use Rattle.minisign_install.specs.Faults.{DigestMismatch}
use Rattle.minisign_install.specs.Step.{ListRead}

-- The run owns no temporary file.
abbrev OwnsNone : Owned → Type 0
OwnsNone d = (d.data_file ≡ false) × (d.record_file ≡ false)

-- The temporary files that a run may own at each operation.
abbrev MayOwn : Operation → Owned → Type 0
MayOwn fsm.CopyData d = d.record_file ≡ false
MayOwn fsm.ReadBack d = d.record_file ≡ false
MayOwn fsm.CheckData d = d.record_file ≡ false
MayOwn fsm.SetPermissions d = d.record_file ≡ false
MayOwn fsm.SyncFile d = d.record_file ≡ false
MayOwn fsm.CreateRecord d = d.record_file ≡ false
MayOwn fsm.WriteRecord d = ⊤
MayOwn fsm.SyncRecord d = ⊤
MayOwn fsm.RenameRecord d = ⊤
MayOwn fsm.SyncRecordName d = d.record_file ≡ false
MayOwn fsm.RenameFile d = d.record_file ≡ false
MayOwn fsm.RemoveFiles d = ⊤
MayOwn op d = OwnsNone d

-- The run owns only temporary files that it may own in this state.
abbrev StateInvariant : Owned → State → Type 0
StateInvariant d s = MayOwn s.due d

-- If a run is rejected, it removes the temporary files that it has.
after_rejection : (op : Operation) (d : Owned) → (op ≡ fsm.RemoveFiles → ⊥) → MayOwn op d
    → MayOwn (if has_files op then fsm.RemoveFiles else fsm.Rejected) d
after_rejection fsm.CopyData d other is = tt
after_rejection fsm.ReadBack d other is = tt
after_rejection fsm.CheckData d other is = tt
after_rejection fsm.SetPermissions d other is = tt
after_rejection fsm.SyncFile d other is = tt
after_rejection fsm.CreateRecord d other is = tt
after_rejection fsm.WriteRecord d other is = tt
after_rejection fsm.SyncRecord d other is = tt
after_rejection fsm.RenameRecord d other is = tt
after_rejection fsm.SyncRecordName d other is = tt
after_rejection fsm.RenameFile d other is = tt
after_rejection fsm.RemoveFiles d other is = absurd (other refl)
after_rejection op d other is = is

-- The next lemmas have the names of the functions in Step.antt that choose the next state. Each proves the
-- invariant after its function.
reject : (op : Operation) (fault : InstallFault) (s : State) (d : Owned) → s.due ≡ op
    → (op ≡ fsm.RemoveFiles → ⊥) → MayOwn op d → StateInvariant d (fsm.reject fault s)
reject op fault s d at other is = rw at (after_rejection op d other is)

-- The result of a conditional has the property if both branches have it.
both_branches : (is : Bool) (x y : State) (d : Owned) → StateInvariant d x → StateInvariant d y
    → StateInvariant d (if is then x else y)
both_branches true x y d one other = one
both_branches false x y d one other = other

-- The operation after `install`, in a check and in an installation.
to_install : (check : Bool) (d : Owned) → OwnsNone d
    → MayOwn (if check then fsm.WouldInstall else fsm.RemoveLeftovers) d
to_install true d is = is
to_install false d is = is

install : (s : State) (d : Owned) → OwnsNone d → StateInvariant d (fsm.install s)
install s d is = to_install s.options.check d is

compare : (s : State) (d : Owned) → OwnsNone d → StateInvariant d (fsm.compare s)
compare s d is =
    both_branches (fsm.is_newer s) _ _ d (install s d is)
    (both_branches (is_some s.recorded.digest) _ _ d is
    (both_branches (fsm.is_rolling_back s) _ _ d (install s d is) is))

after_record : (s : State) (r : Result Recorded InstallFault) (d : Owned) → s.due ≡ fsm.ReadRecord
    → OwnsNone d → StateInvariant d (fsm.after_record r s)
after_record s (Ok recorded) d at is = is
after_record s (Err fault) d at is = reject fsm.ReadRecord fault s d at (λ same. cc same) is

after_signature : (s : State) (r : Passed) (time : Option ℕ) (d : Owned) → s.due ≡ fsm.ReadSignature
    → OwnsNone d → StateInvariant d (fsm.after_signature r time s)
after_signature s (Ok (t, signers)) time d at is = is
after_signature s (Err fault) time d at is = reject fsm.ReadSignature (Library fault) s d at
    (λ same. cc same) is

after_comment : (s : State) (fault : Option InstallFault) (d : Owned) → s.due ≡ fsm.CheckComment
    → OwnsNone d → StateInvariant d (fsm.after_comment fault (record s { is_signed = true }))
after_comment s None d at is =
    both_branches (is_some s.options.list) _ _ d is (compare (record s { is_signed = true }) d is)
after_comment s (Some fault) d at is =
    reject fsm.CheckComment fault (record s { is_signed = true }) d at (λ same. cc same) is

next_key : (s : State) (signers : List PublicKeyValue) (d : Owned) → s.due ≡ fsm.CheckComment
    → OwnsNone d → StateInvariant d (fsm.next_key signers s)
next_key s [] d at is = reject fsm.CheckComment (Library (Named named.CommentSignatureRefused)) s d at
    (λ same. cc same) is
next_key s (v ∷ []) d at is = reject fsm.CheckComment (Library
    (Named named.CommentSignatureRefused)) s d at (λ same. cc same) is
next_key s (v ∷ u ∷ more) d at is = rw at is

after_listing : (s : State) (listed : Result ListedDigest InstallFault) (d : Owned) → s.due ≡ fsm.CheckList
    → OwnsNone d → StateInvariant d (fsm.after_listing listed s)
after_listing s (Ok digest) d at is = compare s d is
after_listing s (Err fault) d at is = reject fsm.CheckList fault s d at (λ same. cc same) is

after_data : (s : State) (listed : Bool) (d : Owned) → s.due ≡ fsm.CheckData → d.record_file ≡ false
    → StateInvariant d (fsm.after_data listed s)
after_data s true d at is = is
after_data s false d at is = reject fsm.CheckData DigestMismatch s d at (λ same. cc same) is

after_digest : (s : State) (accepted : Bool) (d : Owned) → OwnsNone d
    → StateInvariant d (fsm.after_digest accepted s)
after_digest s accepted d is =
    both_branches (not accepted && fsm.is_rolling_back s) _ _ d (install s d is) is

target_is_update : (check : Bool) (d : Owned) → OwnsNone d
    → MayOwn (if check then fsm.AlreadyInstalled else fsm.SyncTarget) d
target_is_update true d is = is
target_is_update false d is = is

after_target : (s : State) (accepted : Bool) (d : Owned) → s.due ≡ fsm.CheckTarget → OwnsNone d
    → StateInvariant d (fsm.after_target accepted s)
after_target s true d at is = target_is_update s.options.check d is
after_target s false d at is =
    both_branches (s.is_recorded || s.options.again) _ _ d (install s d is)
    (reject fsm.CheckTarget SameNumber s d at (λ same. cc same) is)

after_piece : (k : ℕ) (s : State) (left : Option ℕ) (d : Owned) → s.due ≡ fsm.CopyData
    → d.record_file ≡ false → StateInvariant d (fsm.after_piece k left s)
after_piece k s None d at is = rw at is
after_piece k s (Some left) d at is =
    both_branches (nat_le k left) _ _ d (rw at is) (reject fsm.CopyData OtherSize s d at (λ same. cc same) is)

after_copy : (s : State) (left : Option ℕ) (d : Owned) → s.due ≡ fsm.CopyData → d.record_file ≡ false
    → StateInvariant d (fsm.after_copy left s)
after_copy s None d at is = is
after_copy s (Some left) d at is =
    both_branches (left == 0) _ _ d is (reject fsm.CopyData OtherSize s d at (λ same. cc same) is)

-- Nothing has to be proved if the event does not fit.
holds_if_some : (is : Bool) (t : State) (d : Owned) → StateInvariant d t
    → IfSome (if is then Some t else None) (StateInvariant d)
holds_if_some true t d holds = holds
holds_if_some false t d holds = tt

-- An operation keeps the invariant.
op_keeps : (op : Operation) (e : Event) (s : State) (d : Owned) → s.due ≡ op → MayOwn op d
    → IfSome (after op e s) (StateInvariant (owns op e d))
op_keeps fsm.Nothing (Failed f) s d at is = tt
op_keeps fsm.Installed (Failed f) s d at is = tt
op_keeps fsm.AlreadyInstalled (Failed f) s d at is = tt
op_keeps fsm.WouldInstall (Failed f) s d at is = tt
op_keeps fsm.Rejected (Failed f) s d at is = tt
op_keeps fsm.RemoveFiles (Failed f) s d at is =
    holds_if_some (fsm.is_failure f) (fsm.go fsm.Rejected s) nothing_owned (refl, refl)
op_keeps op (Failed f) s d at is =
    holds_if_some (fsm.is_failure f) (fsm.reject (fsm.failure s.due f) s) _
    (reject op (fsm.failure s.due f) s d at (λ same. cc same) is)
op_keeps fsm.Lock InUse s d at is = reject fsm.Lock TargetInUse s d at (λ same. cc same) is
op_keeps fsm.ReadRecord (RecordRead found) s d at is = after_record s (judge_record s.options found) d at is
op_keeps fsm.ReadSignature (SignatureRead text time) s d at is =
    after_signature s (judge_text s.options text) time d at is
op_keeps fsm.CheckComment (Answered true) s d at is = after_comment s s.fault d at is
op_keeps fsm.CheckComment (Answered false) s d at is = next_key s s.signers d at is
op_keeps fsm.ReadList (ListRead list name) s d at is = is
op_keeps fsm.CheckList (Answered true) s d at is =
    after_listing (record s { is_list_signed = true }) s.listing.listed d at is
op_keeps fsm.CheckList (Answered false) s d at is = reject fsm.CheckList (Library
    (Named named.SignatureRefused)) s d at (λ same. cc same) is
op_keeps fsm.CheckRecord (Answered accepted) s d at is = after_digest s accepted d is
op_keeps fsm.ReadTarget (PieceRead bytes) s d at is = rw at is
op_keeps fsm.ReadTarget TargetMissing s d at is = install s d is
op_keeps fsm.CheckTarget (Answered accepted) s d at is = after_target s (accepted && fsm.is_listed s) d at is
op_keeps fsm.CopyData (PieceCopied k) s d at is = after_piece k s s.left d at is
op_keeps fsm.CopyData Done s d at is = after_copy s s.left d at is
op_keeps fsm.ReadBack (PieceRead bytes) s d at is = rw at is
op_keeps fsm.CheckData (Answered true) s d at is = after_data s (fsm.is_listed s) d at is
op_keeps fsm.CheckData (Answered false) s d at is = reject fsm.CheckData (Library
    (Named named.SignatureRefused)) s d at (λ same. cc same) is
op_keeps fsm.CreateFile Done s d at is = is.1
op_keeps fsm.CreateRecord Done s d at is = tt
op_keeps fsm.WriteRecord Done s d at is = tt
op_keeps fsm.SyncRecord Done s d at is = tt
op_keeps fsm.RenameRecord Done s d at is = refl
op_keeps fsm.RenameFile Done s d at is = (refl, is)
op_keeps fsm.RemoveFiles Done s d at is = (refl, refl)
op_keeps fsm.Nothing Done s d at is = tt
op_keeps fsm.Installed Done s d at is = tt
op_keeps fsm.AlreadyInstalled Done s d at is = tt
op_keeps fsm.WouldInstall Done s d at is = tt
op_keeps fsm.Rejected Done s d at is = tt
op_keeps fsm.ReadRecord Done s d at is = tt
op_keeps fsm.ReadList Done s d at is = tt
op_keeps fsm.CheckList Done s d at is = tt
op_keeps fsm.ReadSignature Done s d at is = tt
op_keeps fsm.CheckComment Done s d at is = tt
op_keeps fsm.CheckRecord Done s d at is = tt
op_keeps fsm.CheckTarget Done s d at is = tt
op_keeps fsm.CheckData Done s d at is = tt
op_keeps op Done s d at is = is
op_keeps op e s d at is = tt

-- The invariant holds for the state that `step` returns, if the event fits.
answer_keeps : (s : State) (next : Option State) (d : Owned) → is_some next ≡ true
    → IfSome next (StateInvariant d)
    → StateInvariant d (answer s next).1
answer_keeps s (Some t) d fits holds = holds
answer_keeps s None d fits holds = absurd (true≢false (sym fits))

run_owns : (n : ℕ) (s : State) (events : List Event) (t : State) (d : Owned) → StateInvariant d s
    → IsRun (λ n s e. EventFits s e) n s events t → StateInvariant (owned_by s events d) t
run_owns n s [] t d holds is = rw is holds
run_owns n s (e ∷ more) t d holds (fits, run) =
    run_owns (count n e) (step s e).1 more t (owns s.due e d)
    (answer_keeps s (after s.due e s) (owns s.due e d) fits (op_keeps s.due e s d refl holds)) run

-- The invariant holds when a run begins.
begins : (check : Bool) (o : Options)
    → MayOwn (if check then fsm.ReadRecord else fsm.Lock) nothing_owned
begins true o = (refl, refl)
begins false o = (refl, refl)

ended : (op : Operation) (d : Owned) → MayOwn op d → has_ended op ≡ true → OwnsNone d
ended fsm.Installed d is over = is
ended fsm.AlreadyInstalled d is over = is
ended fsm.WouldInstall d is over = is
ended fsm.Rejected d is over = is
ended op d is over = absurd (true≢false (sym over))

none_left : (d : Owned) → d.data_file ≡ false → d.record_file ≡ false → d ≡ nothing_owned
none_left d one other = rw (one, other) refl

-- After every list of events that fit, a run that has ended owns no temporary files.
pub files_are_gone : (o : Options) (events : List Event) (t : State)
    → IsRun (λ n s e. EventFits s e) 0 (begin o) events t → has_ended t.due ≡ true
    → owned_by (begin o) events nothing_owned ≡ nothing_owned
files_are_gone o events t run over =
    let none = ended t.due _ (run_owns 0 (begin o) events t nothing_owned (begins o.check o) run) over in
    none_left _ none.0 none.1
