-- Proves that no later run undoes a roll-back.
use Rattle.std.specs.Prelude.{◌≡◌, ◌<◌, ◌||◌, ⊤, ℕ, Bool, true, false, not, List, [], ◌∷◌, Option, ◌&&◌}
use Rattle.std.specs.Prelude.{Some, None, Result, Ok, Err, IfSome, is_some, nat_lt, if◌then◌else◌}
use Rattle.std.specs.Option.{unwrap_or}
use Rattle.std.proofs.Common.{refl, sym, ap, ◌∙◌, arith, true≢false}
use Rattle.std.proofs.lemmas.Grind.{common_steps}
use Rattle.minisign_external.specs.declared.public_keys.PublicKeyValue.{PublicKeyValue}
use Rattle.minisign_install.specs.Applications.{Applies, Call, Snapshot, Performs}
use Rattle.minisign_install.specs.Decisions.{Options, Recorded, judge_record, judge_text}
use Rattle.minisign_install.specs.Faults.{InstallFault, SameNumber}
use Rattle.minisign_install.specs.Histories.{AcceptsWholeKeys, IsLaterRun, IsOtherUpdate, OthersLeaveTarget}
use Rattle.minisign_install.specs.Histories.{leads_to_install}
use Rattle.minisign_install.specs.RecordTexts.{record_key}
use Rattle.minisign_install.specs.Step.{Event, Operation, State, after, answer, begin, new_record, step}
use Rattle.minisign_install.specs.Step as fsm
use Rattle.minisign_install.specs.StepRuns.{IsUpdate, World, count}
use Rattle.minisign_install.proofs.NewKeys.{version_is_kept}
use Rattle.minisign_install.proofs.SafeCalls.{Invariant, begins, state_invariant, next}
use Rattle.minisign_install.proofs.StepSafety.{IsJudged, InvariantAt, Passed}
use Rattle.minisign_install.proofs.Versions.{later_record}
use Rattle.minisign_lists.specs.declared.digests.ListedDigest.{ListedDigest}
use Rattle.minisign_install.specs.Step.{signed_digest}
use Rattle.minisign_install.proofs.StepSafety.{IsCommented}

abbrev pub ok : Recorded → Result Recorded InstallFault
ok r = Ok r

pub same_ok : (r u : Recorded) → ok r ≡ ok u → r ≡ u
same_ok r u is = cc is

not_less : (k : ℕ) → nat_lt k k ≡ false
not_less k = grind (arith, common_steps)

module _ (v : World) (p : Options) (k : ℕ) (digest : List ℕ) (r : Recorded)
    (record_applies : judge_record p v.found_record ≡ Ok r) (version : r.version ≡ Some k)
    (written : r.digest ≡ Some digest) (whole : AcceptsWholeKeys v.accepts)
    (update : IsOtherUpdate v p k digest) (not_again : p.again ≡ false) where
  -- == Facts about the later run ==

  -- The later run v reads the record of the roll-back: version k, and the digest of the installed data.
  recorded_is : (s : State) → IsJudged v p s → s.recorded ≡ r
  recorded_is s judged = same_ok s.recorded r (sym judged.5 ∙ record_applies)

  version_is : (s : State) → IsJudged v p s → s.version ≡ k
  version_is s judged = judged.10 ∙ ap (λ (x : Option ℕ). unwrap_or x 0) (update.numbered judged.0 judged.6)

  -- Its update also has version k, so it is neither newer nor older.
  pub not_newer : (s : State) → IsJudged v p s → fsm.is_newer s ≡ false
  not_newer s judged =
      rw (recorded_is s judged, version, version_is s judged, not_less k) refl

  pub not_older : (s : State) → IsJudged v p s → fsm.is_rolling_back s ≡ false
  not_older s judged =
      rw (recorded_is s judged, version, version_is s judged, not_less k) refl

  pub has_digest : (s : State) → IsJudged v p s → s.recorded.digest ≡ Some digest
  has_digest s judged = ap (λ (x : Recorded). x.digest) (recorded_is s judged) ∙ written

  -- The signature is not valid for the recorded digest under the first of the signers.
  pub not_signed : (s : State) (signers : List PublicKeyValue) → s.signers ≡ signers → IsCommented v p s
      → v.accepts digest (fsm.key_of signers) s.signature ≡ false
  not_signed s [] none (judged, fine, comment) =
      absurd (omega (arith, whole _ _ _ (rw none at comment)))
  not_signed s (x ∷ more) some (judged, fine, comment) =
      rw judged.11 (update.not_signed judged.0 judged.1 judged.2 more x
      (rw judged.6 judged.7) (rw some at judged.8))

  -- == From one operation to the next ==

  -- There is a file at the target.
  abbrev HasTarget : Snapshot → Type 0
  HasTarget m = is_some m.target ≡ true

  -- The invariant: the run does not install its update. Until the digest in the record is checked, there is a
  -- file at the target; after that, the update is not the recorded one.
  abbrev DoesNotInstall : Operation → State → Snapshot → Type 0
  DoesNotInstall fsm.Lock s m = HasTarget m
  DoesNotInstall fsm.ReadRecord s m = HasTarget m
  DoesNotInstall fsm.ReadSignature s m = HasTarget m
  DoesNotInstall fsm.CheckComment s m = HasTarget m
  DoesNotInstall fsm.ReadList s m = HasTarget m
  DoesNotInstall fsm.CheckList s m = HasTarget m
  DoesNotInstall fsm.CheckRecord s m = HasTarget m
  DoesNotInstall fsm.ReadTarget s m = HasTarget m × (s.is_recorded ≡ false)
  DoesNotInstall fsm.CheckTarget s m = s.is_recorded ≡ false
  DoesNotInstall fsm.SyncTarget s m = ⊤
  DoesNotInstall fsm.SyncTargetName s m = ⊤
  DoesNotInstall fsm.AlreadyInstalled s m = ⊤
  DoesNotInstall fsm.RemoveFiles s m = ⊤
  DoesNotInstall fsm.Rejected s m = ⊤
  DoesNotInstall fsm.Nothing s m = ⊤
  DoesNotInstall op s m = ⊥

  -- The invariant of a state, for the operation that is due in it.
  abbrev StateInvariant : Snapshot → State → Type 0
  StateInvariant m s = DoesNotInstall s.due s m

  -- The invariant says so at each operation.
  does_not_install : (op : Operation) (s : State) (m : Snapshot) → DoesNotInstall op s m
      → leads_to_install op ≡ false
  does_not_install fsm.Lock s m is = refl
  does_not_install fsm.ReadRecord s m is = refl
  does_not_install fsm.ReadSignature s m is = refl
  does_not_install fsm.CheckComment s m is = refl
  does_not_install fsm.ReadList s m is = refl
  does_not_install fsm.CheckList s m is = refl
  does_not_install fsm.CheckRecord s m is = refl
  does_not_install fsm.ReadTarget s m is = refl
  does_not_install fsm.CheckTarget s m is = refl
  does_not_install fsm.SyncTarget s m is = refl
  does_not_install fsm.SyncTargetName s m is = refl
  does_not_install fsm.AlreadyInstalled s m is = refl
  does_not_install fsm.RemoveFiles s m is = refl
  does_not_install fsm.Rejected s m is = refl
  does_not_install fsm.Nothing s m is = refl
  does_not_install op s m is = absurd is

  -- After an error, the run removes its temporary files, or it has ended.
  after_rejection : (is : Bool) (fault : InstallFault) (s : State) (m : Snapshot)
      → StateInvariant m (record s { due = if is then fsm.RemoveFiles else fsm.Rejected; error = Some fault })
  after_rejection true fault s m = tt
  after_rejection false fault s m = tt

  -- The next lemmas have the names of the functions in Step.antt that choose the next state. Each proves the
  -- invariant after its function.
  reject : (fault : InstallFault) (s : State) (m : Snapshot) → StateInvariant m (fsm.reject fault s)
  reject fault s m = after_rejection (fsm.has_files s.due) fault s m

  compare : (s : State) (m : Snapshot) → IsJudged v p s → HasTarget m → StateInvariant m (fsm.compare s)
  compare s m judged has_target = rw (not_newer s judged, has_digest s judged) has_target

  -- The result of a conditional has the property if both branches have it.
  both_branches : (is : Bool) (x y : State) (m : Snapshot) → StateInvariant m x → StateInvariant m y
      → StateInvariant m (if is then x else y)
  both_branches true x y m one other = one
  both_branches false x y m one other = other

  after_listing : (listed : Result ListedDigest InstallFault) (s : State) (m : Snapshot) → IsJudged v p s
      → HasTarget m → StateInvariant m (fsm.after_listing listed s)
  after_listing (Ok digest) s m judged has_target = compare s m judged has_target
  after_listing (Err fault) s m judged has_target = reject fault s m

  after_record : (found : Result Recorded InstallFault) (s : State) (m : Snapshot) → HasTarget m
      → StateInvariant m (fsm.after_record found s)
  after_record (Ok recorded) s m has_target = has_target
  after_record (Err fault) s m has_target = reject fault s m

  after_signature : (found : Passed) (time : Option ℕ) (s : State) (m : Snapshot) → HasTarget m
      → StateInvariant m (fsm.after_signature found time s)
  after_signature (Ok (t, keys)) time s m has_target = has_target
  after_signature (Err fault) time s m has_target = reject _ s m

  after_comment : (fault : Option InstallFault) (s : State) (m : Snapshot) → IsJudged v p s → HasTarget m
      → StateInvariant m (fsm.after_comment fault (record s { is_signed = true }))
  after_comment None s m judged has_target =
      both_branches (is_some s.options.list) (fsm.go fsm.ReadList (record s { is_signed = true })) _ m
      has_target
      (compare (record s { is_signed = true }) m judged has_target)
  after_comment (Some fault) s m judged has_target = reject fault (record s { is_signed = true }) m

  next_key : (signers : List PublicKeyValue) (s : State) (m : Snapshot) → s.due ≡ fsm.CheckComment
      → HasTarget m
      → StateInvariant m (fsm.next_key signers s)
  next_key [] s m at has_target = reject _ s m
  next_key (x ∷ []) s m at has_target = reject _ s m
  next_key (x ∷ y ∷ more) s m at has_target = rw at has_target

  after_digest : (accepted : Bool) (s : State) (m : Snapshot) → accepted ≡ false → IsJudged v p s
      → HasTarget m
      → StateInvariant m (fsm.after_digest accepted s)
  after_digest true s m is judged has_target = absurd (true≢false is)
  after_digest false s m is judged has_target = rw (not_older s judged) (has_target, refl)

  target_is_update : (check : Bool) (s : State) (m : Snapshot)
      → StateInvariant m (fsm.go (if check then fsm.AlreadyInstalled else fsm.SyncTarget) s)
  target_is_update true s m = tt
  target_is_update false s m = tt

  -- The installed file is not the update, so the run is rejected, because --again is not given.
  rejected_otherwise : (recorded again : Bool) (s : State) (m : Snapshot) → recorded ≡ false → again ≡ false
      → StateInvariant m (if recorded || again then fsm.install s else fsm.reject SameNumber s)
  rejected_otherwise true again s m none not = absurd (true≢false none)
  rejected_otherwise false true s m none not = absurd (true≢false not)
  rejected_otherwise false false s m none not = reject SameNumber s m

  after_target : (accepted : Bool) (s : State) (m : Snapshot) → s.is_recorded ≡ false → s.options ≡ p
      → StateInvariant m (fsm.after_target accepted s)
  after_target true s m is same = target_is_update s.options.check s m
  after_target false s m is same =
      rejected_otherwise s.is_recorded s.options.again s m is (ap (λ (x : Options). x.again) same ∙ not_again)

  -- Nothing has to be proved if the event does not fit.
  holds_if_some : (is : Bool) (t : State) (m : Snapshot) → StateInvariant m t
      → IfSome (if is then Some t else None) (StateInvariant m)
  holds_if_some true t m holds = holds
  holds_if_some false t m holds = tt

  failed : (s : State) (fault : InstallFault) (is : Bool) (m : Snapshot)
      → IfSome (if is then Some (fsm.reject fault s) else None) (StateInvariant m)
  failed s fault is m = holds_if_some is (fsm.reject fault s) m (reject fault s m)

  same_target : (old new : Snapshot) → new ≡ old → HasTarget old → HasTarget new
  same_target old new is has_target = rw is has_target

  -- An operation keeps the invariant.
  op_keeps : (op : Operation) (e : Event) (s : State) (old new : Snapshot) → s.due ≡ op → InvariantAt v p op s
      → DoesNotInstall op s old → Performs v s op e old new → IfSome (after op e s) (StateInvariant new)
  op_keeps fsm.Lock (fsm.Failed f) s old new at known kept is = failed s _ (fsm.is_failure f) new
  op_keeps fsm.ReadRecord (fsm.Failed f) s old new at known kept is = failed s _ (fsm.is_failure f) new
  op_keeps fsm.ReadSignature (fsm.Failed f) s old new at known kept is = failed s _ (fsm.is_failure f) new
  op_keeps fsm.CheckComment (fsm.Failed f) s old new at known kept is = failed s _ (fsm.is_failure f) new
  op_keeps fsm.ReadList (fsm.Failed f) s old new at known kept is = failed s _ (fsm.is_failure f) new
  op_keeps fsm.CheckList (fsm.Failed f) s old new at known kept is = failed s _ (fsm.is_failure f) new
  op_keeps fsm.CheckRecord (fsm.Failed f) s old new at known kept is = failed s _ (fsm.is_failure f) new
  op_keeps fsm.ReadTarget (fsm.Failed f) s old new at known kept is = failed s _ (fsm.is_failure f) new
  op_keeps fsm.CheckTarget (fsm.Failed f) s old new at known kept is = failed s _ (fsm.is_failure f) new
  op_keeps fsm.SyncTarget (fsm.Failed f) s old new at known kept is = failed s _ (fsm.is_failure f) new
  op_keeps fsm.SyncTargetName (fsm.Failed f) s old new at known kept is = failed s _ (fsm.is_failure f) new
  op_keeps fsm.RemoveFiles (fsm.Failed f) s old new at known kept is =
      holds_if_some (fsm.is_failure f) (fsm.go fsm.Rejected s) new tt
  op_keeps fsm.AlreadyInstalled (fsm.Failed f) s old new at known kept is = tt
  op_keeps fsm.Rejected (fsm.Failed f) s old new at known kept is = tt
  op_keeps fsm.Nothing (fsm.Failed f) s old new at known kept is = tt
  op_keeps fsm.Lock fsm.Done s old new at known kept is = rw is.1 kept
  op_keeps fsm.Lock fsm.InUse s old new at known kept is = reject _ s new
  op_keeps fsm.ReadRecord (fsm.RecordRead found) s old new at known kept is =
      after_record (judge_record s.options found) s new (same_target old new is.2 kept)
  op_keeps fsm.ReadSignature (fsm.SignatureRead text time) s old new at known kept is =
      after_signature (judge_text s.options text) time s new (same_target old new is.1 kept)
  op_keeps fsm.CheckComment (fsm.Answered true) s old new at known kept is =
      after_comment s.fault s new known (same_target old new is.1 kept)
  op_keeps fsm.CheckComment (fsm.Answered false) s old new at known kept is =
      next_key s.signers s new at (same_target old new is.1 kept)
  op_keeps fsm.ReadList (fsm.ListRead list name) s old new at known kept is = same_target old new is.2 kept
  op_keeps fsm.CheckList (fsm.Answered true) s old new at known kept is =
      after_listing s.listing.listed (record s { is_list_signed = true }) new known.0.0.0
      (same_target old new is.1 kept)
  op_keeps fsm.CheckList (fsm.Answered false) s old new at known kept is = reject _ s new
  op_keeps fsm.CheckRecord (fsm.Answered accepted) s old new at known kept is =
      let none = is.0 ∙ rw (has_digest s known.0.0) (not_signed s s.signers refl known.0) in
      after_digest accepted s new none known.0.0 (same_target old new is.1 kept)
  op_keeps fsm.ReadTarget (fsm.PieceRead bytes) s old new at known kept is =
      rw at (same_target old new is.2 kept.0, kept.1)
  op_keeps fsm.ReadTarget fsm.Done s old new at known kept is = kept.1
  op_keeps fsm.ReadTarget fsm.TargetMissing s old new at known kept is =
      absurd (true≢false (sym kept.0 ∙ ap is_some is.0))
  op_keeps fsm.CheckTarget (fsm.Answered accepted) s old new at known kept is =
      after_target (accepted && fsm.is_listed s) s new kept known.0.0.4
  op_keeps fsm.SyncTarget fsm.Done s old new at known kept is = tt
  op_keeps fsm.SyncTargetName fsm.Done s old new at known kept is = tt
  op_keeps fsm.RemoveFiles fsm.Done s old new at known kept is = tt
  op_keeps fsm.Lock e s old new at known kept is = tt
  op_keeps fsm.ReadRecord e s old new at known kept is = tt
  op_keeps fsm.ReadSignature e s old new at known kept is = tt
  op_keeps fsm.CheckComment e s old new at known kept is = tt
  op_keeps fsm.ReadList e s old new at known kept is = tt
  op_keeps fsm.CheckList e s old new at known kept is = tt
  op_keeps fsm.CheckRecord e s old new at known kept is = tt
  op_keeps fsm.ReadTarget e s old new at known kept is = tt
  op_keeps fsm.CheckTarget e s old new at known kept is = tt
  op_keeps fsm.SyncTarget e s old new at known kept is = tt
  op_keeps fsm.SyncTargetName e s old new at known kept is = tt
  op_keeps fsm.AlreadyInstalled e s old new at known kept is = tt
  op_keeps fsm.RemoveFiles e s old new at known kept is = tt
  op_keeps fsm.Rejected e s old new at known kept is = tt
  op_keeps fsm.Nothing e s old new at known kept is = tt
  op_keeps op e s old new at known kept is = absurd kept

  -- The invariant holds for the state that `step` returns, if the event fits.
  answer_keeps : (s : State) (next : Option State) (m : Snapshot) → is_some next ≡ true
      → IfSome next (StateInvariant m)
      → StateInvariant m (answer s next).1
  answer_keeps s (Some t) m is holds = holds
  answer_keeps s None m is holds = absurd (true≢false (sym is))

  -- The invariant still holds after changes by other processes, which leave the target alone.
  kept_if_target_same : (op : Operation) (s : State) (m new : Snapshot) → new.target ≡ m.target
      → DoesNotInstall op s m
      → DoesNotInstall op s new
  kept_if_target_same fsm.Lock s m new is kept = rw is kept
  kept_if_target_same fsm.ReadRecord s m new is kept = rw is kept
  kept_if_target_same fsm.ReadSignature s m new is kept = rw is kept
  kept_if_target_same fsm.CheckComment s m new is kept = rw is kept
  kept_if_target_same fsm.ReadList s m new is kept = rw is kept
  kept_if_target_same fsm.CheckList s m new is kept = rw is kept
  kept_if_target_same fsm.CheckRecord s m new is kept = rw is kept
  kept_if_target_same fsm.ReadTarget s m new is kept = (rw is kept.0, kept.1)
  kept_if_target_same fsm.CheckTarget s m new is kept = kept
  kept_if_target_same fsm.SyncTarget s m new is kept = tt
  kept_if_target_same fsm.SyncTargetName s m new is kept = tt
  kept_if_target_same fsm.AlreadyInstalled s m new is kept = tt
  kept_if_target_same fsm.RemoveFiles s m new is kept = tt
  kept_if_target_same fsm.Rejected s m new is kept = tt
  kept_if_target_same fsm.Nothing s m new is kept = tt
  kept_if_target_same op s m new is kept = absurd kept

  -- The invariant holds after a run that starts in a state in which it holds.
  invariant_after : (n : ℕ) (s : State) (m : Snapshot) (calls : List Call) (t : State) (end : Snapshot)
      → Invariant v p ⊤ ⊥ n s m → StateInvariant m s → Applies v s m calls t end → OthersLeaveTarget m calls
      → StateInvariant end t
  invariant_after n s m [] t end known kept (is, same) leaves = rw (is, same) kept
  invariant_after n s m (c ∷ more) t end known kept (others, fits, is, run) (leaves, rest) =
      let before = kept_if_target_same s.due s m c.before leaves.0 kept in
      invariant_after (count n c.event) (step s c.event).1 c.after more t end
      (next v p ⊤ ⊥ n s m c known others (λ q. absurd q) fits is (λ found. tt))
      (answer_keeps s (after s.due c.event s) c.after fits
      (op_keeps s.due c.event s c.before c.after refl (state_invariant v p ⊤ ⊥ n s m known) before is)) run
      rest

  -- The invariant holds when a run begins.
  invariant_at_begin : (check : Bool) (m : Snapshot) → HasTarget m
      → DoesNotInstall (if check then fsm.ReadRecord else fsm.Lock) (begin p) m
  invariant_at_begin true m has_target = has_target
  invariant_at_begin false m has_target = has_target

  -- The later run does not install its update.
  never_installs : (m : Snapshot) (calls : List Call) (t : State) (end : Snapshot)
      → Applies v (begin p) m calls t end
      → OthersLeaveTarget m calls → HasTarget m → leads_to_install t.due ≡ false
  never_installs m calls t end run leaves has_target =
      does_not_install t.due t end
      (invariant_after 0 (begin p) m calls t end (begins v p ⊤ ⊥ m) (invariant_at_begin p.check m has_target)
      run leaves)

-- A later run reads the version number that was recorded before the roll-back.
pub version_reads_back : (w : World) (o : Options) → AcceptsWholeKeys w.accepts → (s : State)
    → IsUpdate w o s → (k : ℕ) → s.recorded.version ≡ Some k → s.version < k → (v : World) (p : Options)
    → IsLaterRun v p o.numbering s
    → judge_record p v.found_record ≡ Ok (record {
      version = Some k;
      key = record_key (new_record s);
      digest = Some (signed_digest s);
    })
version_reads_back w o whole s update k is less v p later =
    ap (judge_record p) later.reads_record
    ∙ later_record w o whole p s update later.same_field later.not_first later.not_new_key
    ∙ ap (λ (n : ℕ). ok (record {
      version = Some n;
      key = record_key (new_record s);
      digest = Some (signed_digest s);
    })) (version_is_kept s k is less)

-- No later run installs other data of the version before the roll-back.
pub roll_back_stays : (w : World) (o : Options) → AcceptsWholeKeys w.accepts → (s : State) → IsUpdate w o s
    → (k : ℕ) → s.recorded.version ≡ Some k → s.version < k → (v : World) (p : Options)
    → AcceptsWholeKeys v.accepts → IsLaterRun v p o.numbering s
    → IsOtherUpdate v p k (signed_digest s) → (m : Snapshot) (calls : List Call) (t : State)
    (end : Snapshot) → Applies v (begin p) m calls t end → OthersLeaveTarget m calls
    → is_some m.target ≡ true → leads_to_install t.due ≡ false
roll_back_stays w o whole s update k is less v p whole_later later other m calls t end run leaves has_target =
    never_installs v p k (signed_digest s) _ (version_reads_back w o whole s update k is less v p later) refl
    refl whole_later other later.not_again m calls t end run leaves has_target
