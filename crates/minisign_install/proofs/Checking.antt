-- Proves that a check changes nothing and takes no lock.
use Rattle.std.specs.Prelude.{◌≡◌, ◌&&◌, ◌||◌, ℕ, Bool, true, false, List, [], ◌∷◌, Option, Some, None}
use Rattle.std.specs.Prelude.{Result, Ok, Err, IfSome, is_some, if◌then◌else◌, not}
use Rattle.std.proofs.Common.{refl, sym, true≢false}
use Rattle.minisign_external.specs.declared.public_keys.PublicKeyValue.{PublicKeyValue}
use Rattle.minisign_install.specs.Applications.{Applies, Call, LeavesAll, Snapshot, Performs}
use Rattle.minisign_install.specs.Decisions.{Options, Recorded, judge_record, judge_text}
use Rattle.minisign_install.specs.Faults.{InstallFault, SameNumber}
use Rattle.minisign_install.specs.Histories.{AllCalls}
use Rattle.minisign_install.specs.Step.{Event, Done, InUse, Failed, RecordRead, SignatureRead, Operation}
use Rattle.minisign_install.specs.Step.{Answered, PieceRead, TargetMissing, State, after, answer, begin}
use Rattle.minisign_install.specs.Step.{step}
use Rattle.minisign_install.specs.Step as fsm
use Rattle.minisign_install.specs.StepRuns.{World}
use Rattle.minisign_install.proofs.StepSafety.{Passed}
use Rattle.minisign_lists.specs.declared.digests.ListedDigest.{ListedDigest}
use Rattle.minisign_install.specs.Step.{ListRead}

-- The run is a check, and this is one of its operations.
abbrev Reads : Operation → State → Type 0
Reads fsm.ReadRecord s = s.options.check ≡ true
Reads fsm.ReadSignature s = s.options.check ≡ true
Reads fsm.CheckComment s = s.options.check ≡ true
Reads fsm.ReadList s = s.options.check ≡ true
Reads fsm.CheckList s = s.options.check ≡ true
Reads fsm.CheckRecord s = s.options.check ≡ true
Reads fsm.ReadTarget s = s.options.check ≡ true
Reads fsm.CheckTarget s = s.options.check ≡ true
Reads fsm.AlreadyInstalled s = s.options.check ≡ true
Reads fsm.WouldInstall s = s.options.check ≡ true
Reads fsm.Rejected s = s.options.check ≡ true
Reads op s = ⊥

-- The invariant of a state, for the operation that is due in it.
abbrev StateInvariant : State → Type 0
StateInvariant s = Reads s.due s

-- A check that is rejected ends at once, because it has no temporary files.
reject : (op : Operation) (fault : InstallFault) (s : State) → s.due ≡ op → Reads op s
    → StateInvariant (fsm.reject fault s)
reject fsm.ReadRecord fault s at is = rw at is
reject fsm.ReadSignature fault s at is = rw at is
reject fsm.CheckComment fault s at is = rw at is
reject fsm.ReadList fault s at is = rw at is
reject fsm.CheckList fault s at is = rw at is
reject fsm.CheckRecord fault s at is = rw at is
reject fsm.ReadTarget fault s at is = rw at is
reject fsm.CheckTarget fault s at is = rw at is
reject fsm.AlreadyInstalled fault s at is = rw at is
reject fsm.WouldInstall fault s at is = rw at is
reject fsm.Rejected fault s at is = rw at is
reject op fault s at is = absurd is

-- The result of a conditional has the property if both branches have it.
both_branches : (is : Bool) (x y : State) → StateInvariant x → StateInvariant y
    → StateInvariant (if is then x else y)
both_branches true x y one other = one
both_branches false x y one other = other

install : (s : State) → s.options.check ≡ true → StateInvariant (fsm.install s)
install s is = rw is refl

compare : (s : State) → s.options.check ≡ true → StateInvariant (fsm.compare s)
compare s is =
    both_branches (fsm.is_newer s) _ _ (install s is)
    (both_branches (is_some s.recorded.digest) _ _ is
    (both_branches (fsm.is_rolling_back s) _ _ (install s is) is))

after_record : (s : State) (r : Result Recorded InstallFault) → s.due ≡ fsm.ReadRecord
    → s.options.check ≡ true → StateInvariant (fsm.after_record r s)
after_record s (Ok recorded) at is = is
after_record s (Err fault) at is = reject fsm.ReadRecord fault s at is

after_signature : (s : State) (r : Passed) (time : Option ℕ) → s.due ≡ fsm.ReadSignature
    → s.options.check ≡ true → StateInvariant (fsm.after_signature r time s)
after_signature s (Ok (t, signers)) time at is = is
after_signature s (Err fault) time at is = reject fsm.ReadSignature _ s at is

after_comment : (s : State) (fault : Option InstallFault) → s.due ≡ fsm.CheckComment
    → s.options.check ≡ true → StateInvariant (fsm.after_comment fault (record s { is_signed = true }))
after_comment s None at is =
    both_branches (is_some s.options.list) _ _ is (compare (record s { is_signed = true }) is)
after_comment s (Some fault) at is = reject fsm.CheckComment fault (record s { is_signed = true }) at is

next_key : (s : State) (signers : List PublicKeyValue) → s.due ≡ fsm.CheckComment
    → s.options.check ≡ true → StateInvariant (fsm.next_key signers s)
next_key s [] at is = reject fsm.CheckComment _ s at is
next_key s (v ∷ []) at is = reject fsm.CheckComment _ s at is
next_key s (v ∷ u ∷ more) at is = rw at is

after_listing : (s : State) (listed : Result ListedDigest InstallFault) → s.due ≡ fsm.CheckList
    → s.options.check ≡ true → StateInvariant (fsm.after_listing listed s)
after_listing s (Ok digest) at is = compare s is
after_listing s (Err fault) at is = reject fsm.CheckList fault s at is

after_digest : (s : State) (accepted : Bool) → s.options.check ≡ true
    → StateInvariant (fsm.after_digest accepted s)
after_digest s accepted is = both_branches (not accepted && fsm.is_rolling_back s) _ _ (install s is) is

after_target : (s : State) (accepted : Bool) → s.due ≡ fsm.CheckTarget → s.options.check ≡ true
    → StateInvariant (fsm.after_target accepted s)
after_target s true at is = rw is refl
after_target s false at is =
    both_branches (s.is_recorded || s.options.again) _ _ (install s is)
    (reject fsm.CheckTarget SameNumber s at is)

-- Nothing has to be proved if the event does not fit.
holds_if_some : (is : Bool) (t : State) → StateInvariant t
    → IfSome (if is then Some t else None) StateInvariant
holds_if_some true t holds = holds
holds_if_some false t holds = tt

-- An operation keeps the invariant.
op_keeps : (op : Operation) (e : Event) (s : State) → s.due ≡ op → Reads op s
    → IfSome (after op e s) StateInvariant
op_keeps fsm.ReadRecord (Failed f) s at is =
    holds_if_some (fsm.is_failure f) _ (reject fsm.ReadRecord _ s at is)
op_keeps fsm.ReadSignature (Failed f) s at is =
    holds_if_some (fsm.is_failure f) _ (reject fsm.ReadSignature _ s at is)
op_keeps fsm.CheckComment (Failed f) s at is =
    holds_if_some (fsm.is_failure f) _ (reject fsm.CheckComment _ s at is)
op_keeps fsm.ReadList (Failed f) s at is = holds_if_some (fsm.is_failure f) _ (reject fsm.ReadList _ s at is)
op_keeps fsm.CheckList (Failed f) s at is =
    holds_if_some (fsm.is_failure f) _ (reject fsm.CheckList _ s at is)
op_keeps fsm.CheckRecord (Failed f) s at is =
    holds_if_some (fsm.is_failure f) _ (reject fsm.CheckRecord _ s at is)
op_keeps fsm.ReadTarget (Failed f) s at is =
    holds_if_some (fsm.is_failure f) _ (reject fsm.ReadTarget _ s at is)
op_keeps fsm.CheckTarget (Failed f) s at is =
    holds_if_some (fsm.is_failure f) _ (reject fsm.CheckTarget _ s at is)
op_keeps fsm.AlreadyInstalled (Failed f) s at is = tt
op_keeps fsm.WouldInstall (Failed f) s at is = tt
op_keeps fsm.Rejected (Failed f) s at is = tt
op_keeps fsm.ReadRecord (RecordRead found) s at is = after_record s (judge_record s.options found) at is
op_keeps fsm.ReadSignature (SignatureRead text time) s at is =
    after_signature s (judge_text s.options text) time at is
op_keeps fsm.CheckComment (Answered true) s at is = after_comment s s.fault at is
op_keeps fsm.CheckComment (Answered false) s at is = next_key s s.signers at is
op_keeps fsm.ReadList (ListRead list name) s at is = is
op_keeps fsm.CheckList (Answered true) s at is =
    after_listing (record s { is_list_signed = true }) s.listing.listed at is
op_keeps fsm.CheckList (Answered false) s at is = reject fsm.CheckList _ s at is
op_keeps fsm.CheckRecord (Answered accepted) s at is = after_digest s accepted is
op_keeps fsm.ReadTarget (PieceRead bytes) s at is = rw at is
op_keeps fsm.ReadTarget TargetMissing s at is = install s is
op_keeps fsm.ReadTarget Done s at is = is
op_keeps fsm.CheckTarget (Answered accepted) s at is = after_target s (accepted && fsm.is_listed s) at is
op_keeps fsm.ReadRecord e s at is = tt
op_keeps fsm.ReadSignature e s at is = tt
op_keeps fsm.CheckComment e s at is = tt
op_keeps fsm.ReadList e s at is = tt
op_keeps fsm.CheckList e s at is = tt
op_keeps fsm.CheckRecord e s at is = tt
op_keeps fsm.ReadTarget e s at is = tt
op_keeps fsm.CheckTarget e s at is = tt
op_keeps fsm.AlreadyInstalled e s at is = tt
op_keeps fsm.WouldInstall e s at is = tt
op_keeps fsm.Rejected e s at is = tt
op_keeps op e s at is = absurd is

-- The invariant holds for the state that `step` returns, if the event fits.
answer_keeps : (s : State) (next : Option State) → is_some next ≡ true → IfSome next StateInvariant
    → StateInvariant (answer s next).1
answer_keeps s (Some t) fits holds = holds
answer_keeps s None fits holds = absurd (true≢false (sym fits))

leaves : (w : World) (op : Operation) (e : Event) (s : State) (old new : Snapshot) → Reads op s
    → Performs w s op e old new → LeavesAll old new
leaves w fsm.ReadRecord (RecordRead found) s old new reads is = rw is.2 refl
leaves w fsm.ReadSignature (SignatureRead text time) s old new reads is = rw is.1 refl
leaves w fsm.ReadList (ListRead list name) s old new reads is = rw is.2 refl
leaves w fsm.ReadTarget (PieceRead bytes) s old new reads is = rw is.2 refl
leaves w fsm.ReadTarget Done s old new reads is = rw is.3 refl
leaves w fsm.ReadTarget TargetMissing s old new reads is = rw is.1 refl
leaves w fsm.ReadRecord (Answered accepted) s old new reads is = rw is.1 refl
leaves w fsm.ReadSignature (Answered accepted) s old new reads is = rw is.1 refl
leaves w fsm.CheckComment (Answered accepted) s old new reads is = rw is.1 refl
leaves w fsm.ReadList (Answered accepted) s old new reads is = rw is.1 refl
leaves w fsm.CheckList (Answered accepted) s old new reads is = rw is.1 refl
leaves w fsm.CheckRecord (Answered accepted) s old new reads is = rw is.1 refl
leaves w fsm.ReadTarget (Answered accepted) s old new reads is = rw is.1 refl
leaves w fsm.CheckTarget (Answered accepted) s old new reads is = rw is.1 refl
leaves w fsm.AlreadyInstalled (Answered accepted) s old new reads is = rw is.1 refl
leaves w fsm.WouldInstall (Answered accepted) s old new reads is = rw is.1 refl
leaves w fsm.Rejected (Answered accepted) s old new reads is = rw is.1 refl
leaves w fsm.ReadRecord (Failed f) s old new reads is = rw is refl
leaves w fsm.ReadSignature (Failed f) s old new reads is = rw is refl
leaves w fsm.CheckComment (Failed f) s old new reads is = rw is refl
leaves w fsm.ReadList (Failed f) s old new reads is = rw is refl
leaves w fsm.CheckList (Failed f) s old new reads is = rw is refl
leaves w fsm.CheckRecord (Failed f) s old new reads is = rw is refl
leaves w fsm.ReadTarget (Failed f) s old new reads is = rw is refl
leaves w fsm.CheckTarget (Failed f) s old new reads is = rw is refl
leaves w fsm.AlreadyInstalled (Failed f) s old new reads is = rw is refl
leaves w fsm.WouldInstall (Failed f) s old new reads is = rw is refl
leaves w fsm.Rejected (Failed f) s old new reads is = rw is refl
leaves w fsm.ReadRecord e s old new reads is = absurd is
leaves w fsm.ReadSignature e s old new reads is = absurd is
leaves w fsm.CheckComment e s old new reads is = absurd is
leaves w fsm.ReadList e s old new reads is = absurd is
leaves w fsm.CheckList e s old new reads is = absurd is
leaves w fsm.CheckRecord e s old new reads is = absurd is
leaves w fsm.ReadTarget e s old new reads is = absurd is
leaves w fsm.CheckTarget e s old new reads is = absurd is
leaves w fsm.AlreadyInstalled e s old new reads is = absurd is
leaves w fsm.WouldInstall e s old new reads is = absurd is
leaves w fsm.Rejected e s old new reads is = absurd is
leaves w op e s old new reads is = absurd reads

all_left : (w : World) (s : State) (m : Snapshot) (calls : List Call) (t : State) (end : Snapshot)
    → StateInvariant s
    → Applies w s m calls t end → AllCalls LeavesAll calls
all_left w s m [] t end holds run = tt
all_left w s m (c ∷ more) t end holds (others, fits, is, run) = (
  leaves w s.due c.event s c.before c.after holds is,
  all_left w (step s c.event).1 c.after more t end
      (answer_keeps s (after s.due c.event s) fits (op_keeps s.due c.event s refl holds)) run,
)

-- The invariant holds when a run begins.
begins : (o : Options) → o.check ≡ true → StateInvariant (begin o)
begins o is = rw is refl

-- No operation of a check changes a file or a name, or takes the lock.
pub check_changes_nothing : (w : World) (o : Options) (m : Snapshot) (calls : List Call) (t : State)
    (end : Snapshot) → o.check ≡ true → Applies w (begin o) m calls t end → AllCalls LeavesAll calls
check_changes_nothing w o m calls t end check run =
    all_left w (begin o) m calls t end (begins o check) run
