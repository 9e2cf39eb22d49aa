-- Proves the laws about runs whose signature is that of a list: the installed data has the digest that the
-- signed list has for its name, and a reported line is the line at fault.
use Rattle.std.specs.Prelude.{◌≡◌, ◌⊎◌, ◌&&◌, ◌||◌, ◌==◌, Bool, true, false, not, nat_le, if◌then◌else◌}
use Rattle.std.specs.Prelude.{List, [], ◌∷◌, ℕ, is_some, IfSome, Option, Some, None, Result, Ok, Err}
use Rattle.std.specs.Str.{is_utf8}
use Rattle.std.proofs.Common.{refl, inl, inr, sym, ap, ◌∙◌, true≢false}
use Rattle.minisign_base.specs.declared.faults.NamedFault.TheVariants as named
use Rattle.minisign_external.specs.declared.public_keys.PublicKeyValue.{PublicKeyValue}
use Rattle.minisign_hash.specs.Blake2b.{blake2b_digest}
use Rattle.minisign_install.proofs.Listings.{digest_is, list_digest}
use Rattle.minisign_install.proofs.SafeCalls.{begins, state_invariant}
use Rattle.minisign_install.proofs.StepSafety.{InvariantAt, Passed}
use Rattle.minisign_install.proofs.Tracing.{known_from}
use Rattle.minisign_install.specs.Applications.{Applies, Call, Snapshot}
use Rattle.minisign_install.specs.Histories.{is_for_list}
use Rattle.minisign_install.specs.Decisions.{Options, Recorded, judge_record, judge_text}
use Rattle.minisign_install.specs.Faults.{InstallFault, Named, OtherSize}
use Rattle.minisign_install.specs.Faults.{SameNumber}
use Rattle.minisign_install.specs.Listings.{digest_found, entry_in, fits_list, has_listed}
use Rattle.minisign_install.specs.Step.{Answered, Event, Operation, State, after, answer, begin, key_of}
use Rattle.minisign_install.specs.Step.{step}
use Rattle.minisign_install.specs.Step as fsm
use Rattle.minisign_install.specs.StepRuns.{IsUpdate, World}
use Rattle.minisign_lists.specs.Digests.{has_digest}
use Rattle.minisign_lists.specs.declared.faults.ListFault.{ListFault}
use Rattle.minisign_lists.specs.Lines.{Entry}
use Rattle.minisign_lists.specs.declared.lines.LongDigest.{LongDigest}
use Rattle.minisign_lists.specs.Lists.{listed_entry}
use Rattle.minisign_lists.specs.declared.faults.ListFault.TheVariants as lists
use Rattle.std.specs.Prelude.{⊤}

-- == The installed data ==

-- If data has the digest that looking up the name gives, then the list has an entry for the name, and the
-- data has its digest.
entry_of : (r : Result Entry ListFault) (m : List ℕ) → has_listed (digest_found r) m ≡ true
    → (entry : Entry) × (r ≡ Ok entry) × (has_digest entry.digest m ≡ true)
entry_of (Ok entry) m is = (entry, refl, is)
entry_of (Err fault) m is = absurd (true≢false (sym is))

abbrev found : Result Entry ListFault → Bool
found (Ok entry) = true
found (Err fault) = false

-- If looking up a name finds an entry, the texts are UTF-8, and the entry is that of the list.
looked_up : (utf8 : Bool) (r : Result Entry ListFault) (fault : ListFault) (entry : Entry)
    → (if utf8 then r else Err fault) ≡ Ok entry → r ≡ Ok entry
looked_up true r fault entry is = is
looked_up false r fault entry is = absurd (true≢false (sym (ap found is)))

-- If the data is accepted with a list, the list has an entry for the name, with the digest of the data.
listed_with : (mode : Option LongDigest) (list name m : List ℕ) (long : LongDigest) → mode ≡ Some long
    → fits_list mode list name m ≡ true
    → (entry : Entry) × (listed_entry long list name ≡ Ok entry) × (has_digest entry.digest m ≡ true)
listed_with mode list name m long is fits =
    let (entry, there, has) = entry_of (entry_in long list name) m (rw is at fits) in
    (entry, looked_up (is_utf8 list && is_utf8 name) _ (lists.Library (Named named.NotUtf8)) entry there, has)

-- The installed data is listed in the signed list.
pub update_is_listed : (w : World) (o : Options) (s : State) → IsUpdate w o s → (long : LongDigest)
    → o.list ≡ Some long
    → (entry : Entry) × (listed_entry long w.list w.name ≡ Ok entry)
    × (has_digest entry.digest s.read ≡ true)
    × (w.accepts (blake2b_digest 64 w.list) (key_of s.signers) s.signature ≡ true)
update_is_listed w o s update long is =
    let (entry, there, has) = listed_with o.list w.list w.name s.read long is update.listed in
    let digest = digest_is w o s update.same_options update.listing
    ∙ list_digest o.list w.list s.read long is in (
      entry,
      there,
      has,
      sym (ap (λ d. w.accepts d (key_of s.signers) s.signature) digest) ∙ update.signed_data,
    )

-- == The signature of the list ==

-- The result of a conditional has the property if both branches have it.
both_branches : (is : Bool) (b : Bool) (x y : State) → x.is_list_signed ≡ b → y.is_list_signed ≡ b
    → (if is then x else y).is_list_signed ≡ b
both_branches true b x y one other = one
both_branches false b x y one other = other

compare : (s : State) → (fsm.compare s).is_list_signed ≡ s.is_list_signed
compare s =
    both_branches (fsm.is_newer s) s.is_list_signed (fsm.install s) _ refl
    (both_branches (is_some s.recorded.digest) s.is_list_signed (fsm.go fsm.CheckRecord s) _ refl
    (both_branches (fsm.is_rolling_back s) s.is_list_signed (fsm.install s) (fsm.go fsm.ReadTarget s) refl
    refl))

after_record : (r : Result Recorded InstallFault) (s : State)
    → (fsm.after_record r s).is_list_signed ≡ s.is_list_signed
after_record (Ok r) s = refl
after_record (Err fault) s = refl

after_signature : (r : Passed) (time : Option ℕ) (s : State)
    → (fsm.after_signature r time s).is_list_signed ≡ s.is_list_signed
after_signature (Ok (t, keys)) time s = refl
after_signature (Err fault) time s = refl

after_comment : (fault : Option InstallFault) (s : State)
    → (fsm.after_comment fault s).is_list_signed ≡ s.is_list_signed
after_comment None s =
    both_branches (is_some s.options.list) s.is_list_signed (fsm.go fsm.ReadList s) _ refl (compare s)
after_comment (Some fault) s = refl

next_key : (signers : List PublicKeyValue) (s : State)
    → (fsm.next_key signers s).is_list_signed ≡ s.is_list_signed
next_key [] s = refl
next_key (v ∷ []) s = refl
next_key (v ∷ u ∷ more) s = refl

after_digest : (accepted : Bool) (s : State) → (fsm.after_digest accepted s).is_list_signed ≡ s.is_list_signed
after_digest accepted s =
    both_branches (not accepted && fsm.is_rolling_back s) s.is_list_signed (fsm.install s)
    (record s { due = fsm.ReadTarget; is_recorded = accepted }) refl refl

after_target : (accepted : Bool) (s : State) → (fsm.after_target accepted s).is_list_signed ≡ s.is_list_signed
after_target true s = refl
after_target false s =
    both_branches (s.is_recorded || s.options.again) s.is_list_signed (fsm.install s)
    (fsm.reject SameNumber s)
    refl refl

after_data : (listed : Bool) (s : State) → (fsm.after_data listed s).is_list_signed ≡ s.is_list_signed
after_data true s = refl
after_data false s = refl

after_piece : (n : ℕ) (left : Option ℕ) (s : State)
    → (fsm.after_piece n left s).is_list_signed ≡ s.is_list_signed
after_piece n None s = refl
after_piece n (Some left) s =
    both_branches (nat_le n left) s.is_list_signed _ (fsm.reject OtherSize s) refl refl

after_copy : (left : Option ℕ) (s : State) → (fsm.after_copy left s).is_list_signed ≡ s.is_list_signed
after_copy None s = refl
after_copy (Some left) s =
    both_branches (left == 0) s.is_list_signed (fsm.go fsm.ReadBack s) (fsm.reject OtherSize s) refl refl

-- The event does not change `is_list_signed`, or it is the event that Ed25519 has accepted the signature of
-- the list.
abbrev KeepsListStatus : State → Event → Option State → Type 0
KeepsListStatus s e next =
    IfSome next (λ t. (t.is_list_signed ≡ s.is_list_signed) ⊎ ((s.due ≡ fsm.CheckList) × (e ≡ Answered true)))

-- Nothing has to be proved if the event does not fit.
holds_if_some : (is : Bool) (s t : State) (e : Event) → t.is_list_signed ≡ s.is_list_signed
    → KeepsListStatus s e (if is then Some t else None)
holds_if_some true s t e same = inl same
holds_if_some false s t e same = tt

-- An operation changes `is_list_signed` only at CheckList, if Ed25519 accepts.
op_keeps : (op : Operation) (e : Event) (s : State) → s.due ≡ op → KeepsListStatus s e (after op e s)
op_keeps fsm.Nothing (fsm.Failed f) s at = tt
op_keeps fsm.Installed (fsm.Failed f) s at = tt
op_keeps fsm.AlreadyInstalled (fsm.Failed f) s at = tt
op_keeps fsm.WouldInstall (fsm.Failed f) s at = tt
op_keeps fsm.Rejected (fsm.Failed f) s at = tt
op_keeps fsm.RemoveFiles (fsm.Failed f) s at =
    holds_if_some (fsm.is_failure f) s (fsm.go fsm.Rejected s) (fsm.Failed f) refl
op_keeps op (fsm.Failed f) s at =
    holds_if_some (fsm.is_failure f) s (fsm.reject (fsm.failure s.due f) s) (fsm.Failed f) refl
op_keeps fsm.Lock fsm.InUse s at = inl refl
op_keeps fsm.ReadRecord (fsm.RecordRead bytes) s at = inl (after_record (judge_record s.options bytes) s)
op_keeps fsm.ReadSignature (fsm.SignatureRead text time) s at =
    inl (after_signature (judge_text s.options text) time s)
op_keeps fsm.CheckComment (Answered true) s at = inl (after_comment s.fault (record s { is_signed = true }))
op_keeps fsm.CheckComment (Answered false) s at = inl (next_key s.signers s)
op_keeps fsm.ReadList (fsm.ListRead list name) s at = inl refl
op_keeps fsm.CheckList (Answered true) s at = inr (at, refl)
op_keeps fsm.CheckList (Answered false) s at = inl refl
op_keeps fsm.CheckRecord (Answered accepted) s at = inl (after_digest accepted s)
op_keeps fsm.ReadTarget (fsm.PieceRead bytes) s at = inl refl
op_keeps fsm.ReadTarget fsm.TargetMissing s at = inl refl
op_keeps fsm.CheckTarget (Answered accepted) s at = inl (after_target (accepted && fsm.is_listed s) s)
op_keeps fsm.CopyData (fsm.PieceCopied n) s at = inl (after_piece n s.left s)
op_keeps fsm.CopyData fsm.Done s at = inl (after_copy s.left s)
op_keeps fsm.ReadBack (fsm.PieceRead bytes) s at = inl refl
op_keeps fsm.CheckData (Answered true) s at = inl (after_data (fsm.is_listed s) s)
op_keeps fsm.CheckData (Answered false) s at = inl refl
op_keeps fsm.Lock fsm.Done s at = inl refl
op_keeps fsm.ReadTarget fsm.Done s at = inl refl
op_keeps fsm.SyncTarget fsm.Done s at = inl refl
op_keeps fsm.SyncTargetName fsm.Done s at = inl refl
op_keeps fsm.RemoveLeftovers fsm.Done s at = inl refl
op_keeps fsm.CreateFile fsm.Done s at = inl refl
op_keeps fsm.ReadBack fsm.Done s at = inl refl
op_keeps fsm.SetPermissions fsm.Done s at = inl refl
op_keeps fsm.SyncFile fsm.Done s at = inl refl
op_keeps fsm.CreateRecord fsm.Done s at = inl refl
op_keeps fsm.WriteRecord fsm.Done s at = inl refl
op_keeps fsm.SyncRecord fsm.Done s at = inl refl
op_keeps fsm.RenameRecord fsm.Done s at = inl refl
op_keeps fsm.SyncRecordName fsm.Done s at = inl refl
op_keeps fsm.RenameFile fsm.Done s at = inl refl
op_keeps fsm.SyncFileName fsm.Done s at = inl refl
op_keeps fsm.RemoveFiles fsm.Done s at = inl refl
op_keeps op e s at = tt

-- The same for the state that `step` returns.
answer_keeps : (s : State) (e : Event) (next : Option State) → KeepsListStatus s e next
    → ((answer s next).1.is_list_signed ≡ s.is_list_signed)
    ⊎ ((s.due ≡ fsm.CheckList) × (e ≡ Answered true))
answer_keeps s e (Some t) kept = kept
answer_keeps s e None kept = inl refl

-- If `is_list_signed` becomes true, CheckList was due, and Ed25519 has accepted.
becomes_signed : (s t : State) (e : Event)
    → (t.is_list_signed ≡ s.is_list_signed) ⊎ ((s.due ≡ fsm.CheckList) × (e ≡ Answered true))
    → s.is_list_signed ≡ false → t.is_list_signed ≡ true → (s.due ≡ fsm.CheckList) × (e ≡ Answered true)
becomes_signed s t e (inl same) not is = absurd (true≢false (sym is ∙ same ∙ not))
becomes_signed s t e (inr why) not is = why

-- `is_list_signed` becomes true only if Ed25519 accepts the signature in the question about the digest of
-- the list.
pub list_is_signed : (s : State) (e : Event) → s.is_list_signed ≡ false → (step s e).1.is_list_signed ≡ true
    → (s.due ≡ fsm.CheckList) × (e ≡ Answered true)
list_is_signed s e not is =
    becomes_signed s (step s e).1 e (answer_keeps s e (after s.due e s) (op_keeps s.due e s refl)) not is

-- Until the list is found to be signed, no line is at fault.
pub no_line : (s : State) → s.is_list_signed ≡ false → fsm.line_at_fault s ≡ 0
no_line s not = rw not refl

-- == Without a list ==

no_list_at : (w : World) (o : Options) (op : Operation) (s : State) → InvariantAt w o op s → o.list ≡ None
    → is_for_list op ≡ false
no_list_at w o fsm.ReadList s known none = absurd (true≢false (sym known.1 ∙ ap is_some none))
no_list_at w o fsm.CheckList s known none = absurd (true≢false (sym known.1 ∙ ap is_some none))
no_list_at w o op s known none = refl

-- If the signature is that of the data, reading a list or checking its signature never becomes due.
pub no_list_read : (w : World) (o : Options) (m : Snapshot) (calls : List Call) (t : State) (end : Snapshot)
    → o.list ≡ None → Applies w (begin o) m calls t end → is_for_list t.due ≡ false
no_list_read w o m calls t end none run =
    let (k, invariant) = known_from w o 0 (begin o) m calls t end (begins w o ⊤ ⊥ m) run in
    no_list_at w o t.due t (state_invariant w o ⊤ ⊥ k t end invariant) none
