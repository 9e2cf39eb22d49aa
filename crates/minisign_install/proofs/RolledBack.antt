-- Proves that a run which would undo a roll-back ends with the error SameNumber, unless its update is
-- installed already.
use Rattle.std.specs.Prelude.{◌≡◌, ◌<◌, ◌++◌, ◌||◌, ◌&&◌, ◌⊎◌, ⊤, ℕ, Bool, true, false, List, [], ◌∷◌}
use Rattle.std.specs.Prelude.{Option, take}
use Rattle.std.specs.Prelude.{Some, None, Ok, IfSome, is_some, if◌then◌else◌}
use Rattle.std.proofs.Common.{refl, sym, ap, inl, inr, ◌∙◌, true≢false}
use Rattle.std.proofs.lemmas.Option.{none-some}
use Rattle.minisign_external.specs.declared.public_keys.PublicKeyValue.{PublicKeyValue}
use Rattle.minisign_install.specs.Applications.{Applies, Call, Snapshot, Performs}
use Rattle.minisign_install.specs.Decisions.{Options, Recorded, comment_fault, judge_record, judge_text}
use Rattle.minisign_install.specs.Faults.{InstallFault, SameNumber}
use Rattle.minisign_install.specs.Histories.{AcceptsWholeKeys, AllEvents, IsAcceptableAt, IsLaterRun}
use Rattle.minisign_install.specs.Histories.{IsOtherUpdate}
use Rattle.minisign_install.specs.Histories.{OthersLeaveTarget}
use Rattle.minisign_install.specs.Step.{Event, Operation, State, after, answer, begin, has_ended, step}
use Rattle.minisign_install.specs.Step as fsm
use Rattle.minisign_install.specs.StepRuns.{IsSigned, IsUpdate, World, count, first_signer}
use Rattle.minisign_install.proofs.RollBacks.{has_digest, not_newer, not_older, not_signed, same_ok}
use Rattle.minisign_install.proofs.RollBacks.{version_reads_back}
use Rattle.minisign_install.proofs.SafeCalls.{Invariant, begins, state_invariant, next}
use Rattle.minisign_install.proofs.StepSafety.{IsJudged, InvariantAt, Passed, text_parsed}
use Rattle.minisign_install.specs.Step.{signed_digest}
use Rattle.minisign_install.specs.StepRuns.{HasListing, IsListAccepted}
use Rattle.minisign_install.proofs.Listings.{digest_is, listed_as, signer_is}
use Rattle.minisign_lists.specs.declared.lines.LongDigest.{LongDigest}
use Rattle.std.proofs.Common.{subst}

module _ (v : World) (p : Options) (k : ℕ) (digest : List ℕ) (r : Recorded)
    (record_applies : judge_record p v.found_record ≡ Ok r) (version : r.version ≡ Some k)
    (written : r.digest ≡ Some digest) (whole : AcceptsWholeKeys v.accepts)
    (update : IsOtherUpdate v p k digest) (not_again : p.again ≡ false) (g : IsSigned v p)
    (accepted_list : IsListAccepted g) where
  -- There is a file at the target.
  abbrev HasTarget : Snapshot → Type 0
  HasTarget m = is_some m.target ≡ true

  -- The comment is not rejected, and one of the signers has signed it.
  abbrev IsAcceptable : State → Type 0
  IsAcceptable s = (s.fault ≡ None) × (first_signer v g.text s.signers ≡ Some g.key)
      × (s.signature ≡ g.text.signature.signature)
      × (s.comment_signature ≡ take 64 g.text.comments.signature)

  -- The state has the signature of the update, and the key that signed it.
  abbrev IsByKey : State → Type 0
  IsByKey s = (s.signature ≡ g.text.signature.signature) × (fsm.key_of s.signers ≡ g.key)

  -- Invariant of a run that ends with this error or finds the update installed.
  abbrev OnTrack : Operation → State → Snapshot → Type 0
  OnTrack fsm.Lock s m = HasTarget m
  OnTrack fsm.ReadRecord s m = HasTarget m
  OnTrack fsm.ReadSignature s m = HasTarget m
  OnTrack fsm.CheckComment s m = HasTarget m × IsAcceptable s
  OnTrack fsm.ReadList s m = HasTarget m × IsByKey s
  OnTrack fsm.CheckList s m = HasTarget m × IsByKey s
  OnTrack fsm.CheckRecord s m = HasTarget m
  OnTrack fsm.ReadTarget s m = HasTarget m × (s.is_recorded ≡ false)
  OnTrack fsm.CheckTarget s m = s.is_recorded ≡ false
  OnTrack fsm.SyncTarget s m = ⊤
  OnTrack fsm.SyncTargetName s m = ⊤
  OnTrack fsm.AlreadyInstalled s m = ⊤
  OnTrack fsm.Rejected s m = s.error ≡ Some SameNumber
  OnTrack op s m = ⊥

  -- The invariant of a state, for the operation that is due in it.
  abbrev StateInvariant : Snapshot → State → Type 0
  StateInvariant m s = OnTrack s.due s m

  -- If the run has ended, the update is installed already, or the error is SameNumber.
  end_in_state : (op : Operation) (s : State) (m : Snapshot) → OnTrack op s m → has_ended op ≡ true
      → (op ≡ fsm.AlreadyInstalled) ⊎ ((op ≡ fsm.Rejected) × (s.error ≡ Some SameNumber))
  end_in_state fsm.AlreadyInstalled s m kept is = inl refl
  end_in_state fsm.Rejected s m kept is = inr (refl, kept)
  end_in_state fsm.Installed s m kept is = absurd kept
  end_in_state fsm.WouldInstall s m kept is = absurd kept
  end_in_state op s m kept is = absurd (true≢false (sym is))

  compare : (s : State) (m : Snapshot) → IsJudged v p s → HasTarget m → StateInvariant m (fsm.compare s)
  compare s m judged present = rw (
    not_newer v p k digest r record_applies version written whole update not_again s judged,
    has_digest v p k digest r record_applies version written whole update not_again s judged,
  ) present

  after_signature : (time : Option ℕ) (s : State) (m : Snapshot) → s.options ≡ p
      → judge_record p v.found_record ≡ Ok s.recorded
      → comment_fault p (Some k) time g.text.comments.trusted ≡ None → HasTarget m
      → StateInvariant m (fsm.after_signature (Ok (g.text, g.keys)) time s)
  after_signature time s m same judged fine present =
      let one = same_ok s.recorded r (sym judged ∙ record_applies) in
      (present, (rw (same, one, version) fine, g.signer, refl, refl))

  after_text : (found : Passed) (time : Option ℕ) (s : State) (m : Snapshot) → found ≡ Ok (g.text, g.keys)
      → s.options ≡ p → judge_record p v.found_record ≡ Ok s.recorded
      → comment_fault p (Some k) time g.text.comments.trusted ≡ None → HasTarget m
      → StateInvariant m (fsm.after_signature found time s)
  after_text found time s m is same judged fine present =
      rw is (after_signature time s m same judged fine present)

  -- The result of a conditional has the property if both branches have it.
  both_branches : (is : Bool) (x y : State) (m : Snapshot) → StateInvariant m x → StateInvariant m y
      → StateInvariant m (if is then x else y)
  both_branches true x y m one other = one
  both_branches false x y m one other = other

  after_comment : (fault : Option InstallFault) (s : State) (m : Snapshot) → fault ≡ None → IsJudged v p s
      → IsByKey s → HasTarget m → StateInvariant m (fsm.after_comment fault (record s { is_signed = true }))
  after_comment None s m none judged known present =
      both_branches (is_some s.options.list) (fsm.go fsm.ReadList (record s { is_signed = true })) _ m
      (present, known)
      (compare (record s { is_signed = true }) m judged present)
  after_comment (Some fault) s m none judged known present = absurd (none-some fault (sym none))

  -- The list is signed, and has the name.
  after_listing : (s : State) (m : Snapshot) (mode : Option LongDigest) → p.list ≡ mode → s.options ≡ p
      → HasListing v p s → IsJudged v p s → is_some mode ≡ true → HasTarget m
      → StateInvariant m (fsm.after_listing s.listing.listed s)
  after_listing s m None is same listing judged some present = absurd (true≢false (sym some))
  after_listing s m (Some long) is same listing judged some present =
      let (signed, (found, has)) = accepted_list long is in
      let listed : Ok found ≡ s.listing.listed = sym has ∙ listed_as v p s long is listing in
      subst (λ r. StateInvariant m (fsm.after_listing r s)) listed (compare s m judged present)

  not_refused : {P : Type 0} (s : State) (mode : Option LongDigest) → p.list ≡ mode → s.options ≡ p
      → HasListing v p s → IsByKey s → is_some mode ≡ true
      → false ≡ v.accepts (signed_digest s) (fsm.key_of s.signers) s.signature → P
  not_refused s None is same listing known some wrong = absurd (true≢false (sym some))
  not_refused s (Some long) is same listing (signature, key) some wrong =
      let (signed, found) = accepted_list long is in
      absurd (true≢false (sym signed ∙ sym (rw (digest_is v p s same listing, is, signature, key) at wrong)))

  next_key : (signers : List PublicKeyValue) (s : State) (m : Snapshot) → s.due ≡ fsm.CheckComment
      → s.signers ≡ signers → IsAcceptable s
      → false ≡ v.accepts (s.signature ++ g.text.comments.trusted) (fsm.key_of signers) s.comment_signature
      → HasTarget m → StateInvariant m (fsm.next_key signers s)
  next_key [] s m at is (fine, signer, one, two) wrong present = absurd (none-some g.key (rw is at signer))
  next_key (x ∷ []) s m at is (fine, signer, one, two) wrong present =
      let not = rw (one, two) at wrong in
      absurd (none-some g.key (rw (is, sym not) at signer))
  next_key (x ∷ y ∷ more) s m at is (fine, signer, one, two) wrong present =
      let not = rw (one, two) at wrong in
      rw at (present, (fine, rw (is, sym not) at signer, one, two))

  after_digest : (accepted : Bool) (s : State) (m : Snapshot) → accepted ≡ false → IsJudged v p s
      → HasTarget m
      → StateInvariant m (fsm.after_digest accepted s)
  after_digest true s m is judged present = absurd (true≢false is)
  after_digest false s m is judged present =
      rw (not_older v p k digest r record_applies version written whole update not_again s judged)
      (present, refl)

  target_is_update : (check : Bool) (s : State) (m : Snapshot)
      → StateInvariant m (fsm.go (if check then fsm.AlreadyInstalled else fsm.SyncTarget) s)
  target_is_update true s m = tt
  target_is_update false s m = tt

  -- The installed file is not the update, so the run is rejected, because --again is not given.
  rejected_otherwise : (recorded again : Bool) (s : State) (m : Snapshot) → s.due ≡ fsm.CheckTarget
      → recorded ≡ false
      → again ≡ false
      → StateInvariant m (if recorded || again then fsm.install s else fsm.reject SameNumber s)
  rejected_otherwise true again s m at none not = absurd (true≢false none)
  rejected_otherwise false true s m at none not = absurd (true≢false not)
  rejected_otherwise false false s m at none not = rw at refl

  after_target : (accepted : Bool) (s : State) (m : Snapshot) → s.due ≡ fsm.CheckTarget
      → s.is_recorded ≡ false → s.options ≡ p → StateInvariant m (fsm.after_target accepted s)
  after_target true s m at is same = target_is_update s.options.check s m
  after_target false s m at is same =
      rejected_otherwise s.is_recorded s.options.again s m at is
      (ap (λ (x : Options). x.again) same ∙ not_again)

  -- An operation that leaves the files alone leaves the installed file alone.
  same_target : (old new : Snapshot) → new ≡ old → HasTarget old → HasTarget new
  same_target old new is present = rw is present

  -- An operation keeps the invariant.
  op_keeps : (op : Operation) (e : Event) (s : State) (old new : Snapshot) → s.due ≡ op → InvariantAt v p op s
      → OnTrack op s old → Performs v s op e old new → IsAcceptableAt p k g.text e
      → IfSome (after op e s) (StateInvariant new)
  op_keeps op (fsm.Failed f) s old new at known kept is fine = absurd fine
  op_keeps fsm.Lock fsm.InUse s old new at known kept is fine = absurd fine
  op_keeps fsm.Lock fsm.Done s old new at known kept is fine = rw is.1 kept
  op_keeps fsm.ReadRecord (fsm.RecordRead found) s old new at known kept is fine =
      rw (known, is.0, record_applies) (same_target old new is.2 kept)
  op_keeps fsm.ReadSignature (fsm.SignatureRead text time) s old new at known kept is fine =
      after_text (judge_text s.options text) time s new (rw (known.0, is.0) g.passed) known.0 known.1 fine
      (same_target old new is.1 kept)
  op_keeps fsm.CheckComment (fsm.Answered true) s old new at known kept is fine =
      let (fine, signer, one, two) = kept.1 in
      let accepted = is.0 g.text (text_parsed v p v.text g.text g.keys g.passed) in
      let key = signer_is v g.text g.key s.signers (rw (one, two) at accepted) signer in
      after_comment s.fault s new fine known (one, key) (same_target old new is.1 kept.0)
  op_keeps fsm.CheckComment (fsm.Answered false) s old new at known kept is fine =
      next_key s.signers s new at refl kept.1 (is.0 g.text (text_parsed v p v.text g.text g.keys g.passed))
      (same_target old new is.1 kept.0)
  op_keeps fsm.ReadList (fsm.ListRead list name) s old new at known kept is fine =
      (same_target old new is.2 kept.0, kept.1)
  op_keeps fsm.CheckList (fsm.Answered true) s old new at ((known, listing), some) kept is fine =
      after_listing (record s { is_list_signed = true }) new p.list refl known.0.4 listing known.0 some
      (same_target old new is.1 kept.0)
  op_keeps fsm.CheckList (fsm.Answered false) s old new at ((known, listing), some) kept is fine =
      not_refused s p.list refl known.0.4 listing kept.1 some is.0
  op_keeps fsm.CheckRecord (fsm.Answered accepted) s old new at known kept is fine =
      let none =
      is.0 ∙ rw (has_digest v p k digest r record_applies version written whole update not_again s known.0.0)
      (not_signed v p k digest r record_applies version written whole update not_again s s.signers refl
      known.0) in
      after_digest accepted s new none known.0.0 (same_target old new is.1 kept)
  op_keeps fsm.ReadTarget (fsm.PieceRead bytes) s old new at known kept is fine =
      rw at (same_target old new is.2 kept.0, kept.1)
  op_keeps fsm.ReadTarget fsm.Done s old new at known kept is fine = kept.1
  op_keeps fsm.ReadTarget fsm.TargetMissing s old new at known kept is fine =
      absurd (true≢false (sym kept.0 ∙ ap is_some is.0))
  op_keeps fsm.CheckTarget (fsm.Answered accepted) s old new at known kept is fine =
      after_target (accepted && fsm.is_listed s) s new at kept known.0.0.4
  op_keeps fsm.SyncTarget fsm.Done s old new at known kept is fine = tt
  op_keeps fsm.SyncTargetName fsm.Done s old new at known kept is fine = tt
  op_keeps fsm.Lock e s old new at known kept is fine = tt
  op_keeps fsm.ReadRecord e s old new at known kept is fine = tt
  op_keeps fsm.ReadSignature e s old new at known kept is fine = tt
  op_keeps fsm.CheckComment e s old new at known kept is fine = tt
  op_keeps fsm.ReadList e s old new at known kept is fine = tt
  op_keeps fsm.CheckList e s old new at known kept is fine = tt
  op_keeps fsm.CheckRecord e s old new at known kept is fine = tt
  op_keeps fsm.ReadTarget e s old new at known kept is fine = tt
  op_keeps fsm.CheckTarget e s old new at known kept is fine = tt
  op_keeps fsm.SyncTarget e s old new at known kept is fine = tt
  op_keeps fsm.SyncTargetName e s old new at known kept is fine = tt
  op_keeps fsm.AlreadyInstalled e s old new at known kept is fine = tt
  op_keeps fsm.Rejected e s old new at known kept is fine = tt
  op_keeps op e s old new at known kept is fine = absurd kept

  -- The invariant holds for the state that `step` returns, if the event fits.
  answer_keeps : (s : State) (next : Option State) (m : Snapshot) → is_some next ≡ true
      → IfSome next (StateInvariant m)
      → StateInvariant m (answer s next).1
  answer_keeps s (Some t) m is holds = holds
  answer_keeps s None m is holds = absurd (true≢false (sym is))

  -- The invariant still holds after changes by other processes, which leave the target alone.
  kept_if_target_same : (op : Operation) (s : State) (m new : Snapshot) → new.target ≡ m.target
      → OnTrack op s m
      → OnTrack op s new
  kept_if_target_same fsm.Lock s m new is kept = rw is kept
  kept_if_target_same fsm.ReadRecord s m new is kept = rw is kept
  kept_if_target_same fsm.ReadSignature s m new is kept = rw is kept
  kept_if_target_same fsm.CheckComment s m new is kept = (rw is kept.0, kept.1)
  kept_if_target_same fsm.ReadList s m new is kept = (rw is kept.0, kept.1)
  kept_if_target_same fsm.CheckList s m new is kept = (rw is kept.0, kept.1)
  kept_if_target_same fsm.CheckRecord s m new is kept = rw is kept
  kept_if_target_same fsm.ReadTarget s m new is kept = (rw is kept.0, kept.1)
  kept_if_target_same fsm.CheckTarget s m new is kept = kept
  kept_if_target_same fsm.SyncTarget s m new is kept = tt
  kept_if_target_same fsm.SyncTargetName s m new is kept = tt
  kept_if_target_same fsm.AlreadyInstalled s m new is kept = tt
  kept_if_target_same fsm.Rejected s m new is kept = kept
  kept_if_target_same op s m new is kept = absurd kept

  -- The invariant holds after a run that starts in a state in which it holds.
  invariant_after : (n : ℕ) (s : State) (m : Snapshot) (calls : List Call) (t : State) (end : Snapshot)
      → Invariant v p ⊤ ⊥ n s m → StateInvariant m s → Applies v s m calls t end → OthersLeaveTarget m calls
      → AllEvents (IsAcceptableAt p k g.text) calls → StateInvariant end t
  invariant_after n s m [] t end known kept (is, same) leaves fine = rw (is, same) kept
  invariant_after n s m (c ∷ more) t end known kept (others, fits, is, run) (leaves, rest) (fine, later) =
      let before = kept_if_target_same s.due s m c.before leaves.0 kept in
      invariant_after (count n c.event) (step s c.event).1 c.after more t end
      (next v p ⊤ ⊥ n s m c known others (λ q. absurd q) fits is (λ found. tt))
      (answer_keeps s (after s.due c.event s) c.after fits
      (op_keeps s.due c.event s c.before c.after refl
      (state_invariant v p ⊤ ⊥ n s m known) before is fine)) run rest later

  -- The invariant holds when a run begins.
  invariant_at_begin : (check : Bool) (m : Snapshot) → HasTarget m
      → OnTrack (if check then fsm.ReadRecord else fsm.Lock) (begin p) m
  invariant_at_begin true m present = present
  invariant_at_begin false m present = present

  -- The run ends with the update installed, or with the error SameNumber.
  end_is_known : (m : Snapshot) (calls : List Call) (t : State) (end : Snapshot)
      → Applies v (begin p) m calls t end
      → OthersLeaveTarget m calls → HasTarget m → AllEvents (IsAcceptableAt p k g.text) calls
      → has_ended t.due ≡ true
      → (t.due ≡ fsm.AlreadyInstalled) ⊎ ((t.due ≡ fsm.Rejected) × (t.error ≡ Some SameNumber))
  end_is_known m calls t end run leaves present fine over =
      end_in_state t.due t end
      (invariant_after 0 (begin p) m calls t end (begins v p ⊤ ⊥ m) (invariant_at_begin p.check m present) run
      leaves fine) over

-- A later run with the version before the roll-back ends with this error, or finds the update installed.
pub roll_back_is_named : (w : World) (o : Options) → AcceptsWholeKeys w.accepts → (s : State)
    → IsUpdate w o s → (k : ℕ) → s.recorded.version ≡ Some k → s.version < k → (v : World) (p : Options)
    → AcceptsWholeKeys v.accepts → IsLaterRun v p o.numbering s
    → IsOtherUpdate v p k (signed_digest s) → (g : IsSigned v p) → IsListAccepted g → (m : Snapshot)
    (calls : List Call)
    (t : State) (end : Snapshot) → Applies v (begin p) m calls t end → OthersLeaveTarget m calls
    → is_some m.target ≡ true → AllEvents (IsAcceptableAt p k g.text) calls → has_ended t.due ≡ true
    → (t.due ≡ fsm.AlreadyInstalled) ⊎ ((t.due ≡ fsm.Rejected) × (t.error ≡ Some SameNumber))
roll_back_is_named w o whole s update k is less v p whole_later later other g listed m calls t end run leaves
    present fine over =
    end_is_known v p k (signed_digest s) _ (version_reads_back w o whole s update k is less v p later) refl
    refl whole_later other later.not_again g listed m calls t end run leaves present fine over
