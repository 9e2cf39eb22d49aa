-- Proves that a check decides as an installation with otherwise the same options and the same events does.
use Rattle.std.specs.Prelude.{◌≡◌, ◌&&◌, ℕ, Bool, true, false, List, [], ◌∷◌, Option, Some, None}
use Rattle.std.specs.Prelude.{Result, Ok, Err}
use Rattle.std.specs.Prelude.{◌||◌, is_some, if◌then◌else◌}
use Rattle.std.proofs.Common.{refl, sym, ap, ◌∙◌, true≢false, option_map}
use Rattle.minisign_base.specs.declared.faults.NamedFault.{NamedFault}
use Rattle.minisign_external.specs.declared.public_keys.PublicKeyValue.{PublicKeyValue}
use Rattle.minisign_install.specs.Decisions.{Recorded, judge_record, judge_text}
use Rattle.minisign_install.specs.Faults.{InstallFault, SameNumber}
use Rattle.minisign_install.specs.Step.{Event, Failed, RecordRead, SignatureRead, Operation, Answered}
use Rattle.minisign_install.specs.Step.{TargetMissing, State, after, answer, step}
use Rattle.minisign_install.specs.Step as fsm
use Rattle.minisign_install.specs.StepRuns.{as_check, check_due, decides}
use Rattle.minisign_install.proofs.StepSafety.{Passed}
use Rattle.minisign_lists.specs.declared.digests.ListedDigest.{ListedDigest}
use Rattle.minisign_install.specs.Step.{ListRead}

-- A check decides as an installation does in a conditional, if it does so in both branches.
both_branches : (is : Bool) (x y : State) (x' y' : State) → x' ≡ as_check x → y' ≡ as_check y
    → (if is then x' else y') ≡ as_check (if is then x else y)
both_branches true x y x' y' one other = one
both_branches false x y x' y' one other = other

-- The next lemmas say that the functions in Step.antt that choose the next state have the same result for a
-- check and for an installation.
record_same : (s : State) (r : Result Recorded InstallFault) → s.due ≡ fsm.ReadRecord
    → fsm.after_record r (as_check s) ≡ as_check (fsm.after_record r s)
record_same s (Ok recorded) at = refl
record_same s (Err fault) at = rw at refl

signature_same : (s : State) (r : Passed) (time : Option ℕ) → s.due ≡ fsm.ReadSignature
    → fsm.after_signature r time (as_check s) ≡ as_check (fsm.after_signature r time s)
signature_same s (Ok (t, signers)) time at = refl
signature_same s (Err fault) time at = rw at refl

install_same : (s : State) → s.options.check ≡ false → fsm.install (as_check s) ≡ as_check (fsm.install s)
install_same s installs = rw installs refl

compare_same : (s : State) → s.options.check ≡ false → fsm.compare (as_check s) ≡ as_check (fsm.compare s)
compare_same s installs =
    both_branches (fsm.is_newer s) _ _ _ _ (install_same s installs)
    (both_branches (is_some s.recorded.digest) _ _ _ _ refl
    (both_branches (fsm.is_rolling_back s) _ _ _ _ (install_same s installs) refl))

comment_same : (s : State) (fault : Option InstallFault) → s.due ≡ fsm.CheckComment → s.options.check ≡ false
    → fsm.after_comment fault (record (as_check s) { is_signed = true })
    ≡ as_check (fsm.after_comment fault (record s { is_signed = true }))
comment_same s None at installs =
    both_branches (is_some s.options.list) _ _ _ _ refl
    (compare_same (record s { is_signed = true }) installs)
comment_same s (Some fault) at installs = rw at refl

listing_same : (s : State) (listed : Result ListedDigest InstallFault) → s.due ≡ fsm.CheckList
    → s.options.check ≡ false
    → fsm.after_listing listed (as_check s) ≡ as_check (fsm.after_listing listed s)
listing_same s (Ok digest) at installs = compare_same s installs
listing_same s (Err fault) at installs = rw at refl

key_same : (s : State) (signers : List PublicKeyValue) → s.due ≡ fsm.CheckComment
    → fsm.next_key signers (as_check s) ≡ as_check (fsm.next_key signers s)
key_same s [] at = rw at refl
key_same s (v ∷ []) at = rw at refl
key_same s (v ∷ u ∷ more) at = refl

digest_same : (s : State) (accepted : Bool) → s.options.check ≡ false
    → fsm.after_digest accepted (as_check s) ≡ as_check (fsm.after_digest accepted s)
digest_same s true installs = refl
digest_same s false installs = both_branches (fsm.is_rolling_back s) _ _ _ _ (install_same s installs) refl

target_same : (s : State) (accepted : Bool) → s.due ≡ fsm.CheckTarget → s.options.check ≡ false
    → fsm.after_target accepted (as_check s) ≡ as_check (fsm.after_target accepted s)
target_same s true at installs = rw installs refl
target_same s false at installs =
    both_branches (s.is_recorded || s.options.again) (fsm.install s) (fsm.reject SameNumber s) _ _
    (install_same s installs) (rw at refl)

both_or_none : (is : Bool) (x y : State) → y ≡ as_check x
    → (if is then Some y else None) ≡ option_map as_check (if is then Some x else None)
both_or_none true x y same = ap (λ (t : State). Some t) same
both_or_none false x y same = refl

fail_same : (op : Operation) (f : NamedFault) (s : State) → s.due ≡ op → decides op ≡ true
    → fsm.fail f (as_check s) ≡ option_map as_check (fsm.fail f s)
fail_same fsm.ReadRecord f s at is = both_or_none (fsm.is_failure f) (fsm.reject (fsm.failure s.due f) s) _
    (rw at refl)
fail_same fsm.ReadSignature f s at is = both_or_none (fsm.is_failure f) (fsm.reject (fsm.failure s.due f) s) _
    (rw at refl)
fail_same fsm.CheckComment f s at is = both_or_none (fsm.is_failure f) (fsm.reject (fsm.failure s.due f) s) _
    (rw at refl)
fail_same fsm.ReadList f s at is = both_or_none (fsm.is_failure f) (fsm.reject (fsm.failure s.due f) s) _
    (rw at refl)
fail_same fsm.CheckList f s at is = both_or_none (fsm.is_failure f) (fsm.reject (fsm.failure s.due f) s) _
    (rw at refl)
fail_same fsm.CheckRecord f s at is = both_or_none (fsm.is_failure f) (fsm.reject (fsm.failure s.due f) s) _
    (rw at refl)
fail_same fsm.ReadTarget f s at is = both_or_none (fsm.is_failure f) (fsm.reject (fsm.failure s.due f) s) _
    (rw at refl)
fail_same fsm.CheckTarget f s at is = both_or_none (fsm.is_failure f) (fsm.reject (fsm.failure s.due f) s) _
    (rw at refl)
fail_same op f s at is = absurd (true≢false (sym is))

-- After each event, the check is in the state of the installation, as a check.
same_after : (op : Operation) (e : Event) (s : State) → s.due ≡ op → decides op ≡ true
    → s.options.check ≡ false → after op e (as_check s) ≡ option_map as_check (after op e s)
same_after fsm.ReadRecord (Failed f) s at is installs = fail_same fsm.ReadRecord f s at is
same_after fsm.ReadSignature (Failed f) s at is installs = fail_same fsm.ReadSignature f s at is
same_after fsm.CheckComment (Failed f) s at is installs = fail_same fsm.CheckComment f s at is
same_after fsm.ReadList (Failed f) s at is installs = fail_same fsm.ReadList f s at is
same_after fsm.CheckList (Failed f) s at is installs = fail_same fsm.CheckList f s at is
same_after fsm.CheckRecord (Failed f) s at is installs = fail_same fsm.CheckRecord f s at is
same_after fsm.ReadTarget (Failed f) s at is installs = fail_same fsm.ReadTarget f s at is
same_after fsm.CheckTarget (Failed f) s at is installs = fail_same fsm.CheckTarget f s at is
same_after fsm.ReadRecord (RecordRead found) s at is installs =
    ap (λ (t : State). Some t) (record_same s (judge_record s.options found) at)
same_after fsm.ReadSignature (SignatureRead text time) s at is installs =
    ap (λ (t : State). Some t) (signature_same s (judge_text s.options text) time at)
same_after fsm.CheckComment (Answered true) s at is installs =
    ap (λ (t : State). Some t) (comment_same s s.fault at installs)
same_after fsm.CheckComment (Answered false) s at is installs =
    ap (λ (t : State). Some t) (key_same s s.signers at)
same_after fsm.ReadList (ListRead list name) s at is installs = refl
same_after fsm.CheckList (Answered true) s at is installs =
    ap (λ (t : State). Some t)
    (listing_same (record s { is_list_signed = true }) s.listing.listed at installs)
same_after fsm.CheckList (Answered false) s at is installs =
    ap (λ (t : State). Some t) (rw at refl)
same_after fsm.CheckRecord (Answered accepted) s at is installs =
    ap (λ (t : State). Some t) (digest_same s accepted installs)
same_after fsm.ReadTarget TargetMissing s at is installs =
    ap (λ (t : State). Some t) (install_same s installs)
same_after fsm.CheckTarget (Answered accepted) s at is installs =
    ap (λ (t : State). Some t) (target_same s (accepted && fsm.is_listed s) at installs)
same_after fsm.ReadRecord e s at is installs = refl
same_after fsm.ReadSignature e s at is installs = refl
same_after fsm.CheckComment e s at is installs = refl
same_after fsm.ReadList e s at is installs = refl
same_after fsm.CheckList e s at is installs = refl
same_after fsm.CheckRecord e s at is installs = refl
same_after fsm.ReadTarget e s at is installs = refl
same_after fsm.CheckTarget e s at is installs = refl
same_after op e s at is installs = absurd (true≢false (sym is))

same_due : (op : Operation) → decides op ≡ true → check_due op ≡ op
same_due fsm.RemoveLeftovers is = absurd (true≢false (sym is))
same_due fsm.SyncTarget is = absurd (true≢false (sym is))
same_due op is = refl

same_answer : (s : State) (next : Option State)
    → answer (as_check s) (option_map as_check next) ≡ ((answer s next).0, as_check (answer s next).1)
same_answer s (Some t) = refl
same_answer s None = refl

-- Before anything is written, a check and an installation return the same result for each event. When the
-- installation starts to remove leftovers, the check ends with WouldInstall. When the installation starts to
-- sync the target, the check ends with AlreadyInstalled. Both are rejected with the same errors.
pub check_decides_alike : (s : State) (e : Event) → decides s.due ≡ true → s.options.check ≡ false
    → step (as_check s) e ≡ ((step s e).0, as_check (step s e).1)
check_decides_alike s e is installs =
    ap (λ (op : Operation). answer (as_check s) (after op e (as_check s))) (same_due s.due is)
    ∙ ap (answer (as_check s)) (same_after s.due e s refl is installs) ∙ same_answer s (after s.due e s)
