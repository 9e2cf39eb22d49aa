-- Proves that a run finishes the installation of an earlier run that was interrupted, and that a roll-back
-- installs the older update.
use Rattle.std.specs.Prelude.{◌≡◌, ◌<◌, ◌≤◌, ◌+◌, ◌⊎◌, ⊤, ℕ, Bool, true, false, List, [], ◌∷◌, length}
use Rattle.std.specs.Prelude.{Option}
use Rattle.std.specs.Prelude.{Some, None, Result, IfSome, ◌++◌, ◌||◌, ◌&&◌, not, is_some, take, if◌then◌else◌}
use Rattle.std.proofs.Common.{refl, subst, sym, inl, inr, ap, ◌∙◌, arith, lt-ltb, ⊎_elim}
use Rattle.std.proofs.lemmas.Bool.{le-ltb}
use Rattle.std.proofs.Common.{le-leb, eq-eqb, true≢false, unwrap_or}
use Rattle.std.proofs.lemmas.Option.{none-some, same_Some}
use Rattle.minisign.specs.SignatureText.{SignatureTextRecord}
use Rattle.minisign_external.specs.declared.public_keys.PublicKeyValue.{PublicKeyValue}
use Rattle.minisign_install.specs.Decisions.{Options, Recorded, is_below, signed_size}
use Rattle.minisign_install.specs.Faults.{Fault}
use Rattle.minisign_install.specs.Step.{Event, Done, InUse, Failed, RecordRead, SignatureRead, Answered}
use Rattle.minisign_install.specs.Step.{PieceRead, PieceCopied, State, begin, step, Operation, after}
use Rattle.minisign_install.specs.Step.{answer, has_ended, key_of}
use Rattle.minisign_install.specs.Step as fsm
use Rattle.minisign_install.specs.Applications.{Applies, Call, Snapshot}
use Rattle.minisign_install.specs.Histories.{AllEvents, IsAcceptableFor, IsOldUpdate, IsInstalled}
use Rattle.minisign_install.specs.StepRuns.{IsTrueEvent, World, count}
use Rattle.minisign_install.specs.StepRuns.{first_signer}
use Rattle.minisign_install.proofs.SafeCalls.{Invariant, next, true_event}
use Rattle.minisign_install.proofs.SafeCalls as safe_calls
use Rattle.minisign_install.specs.Step.{ListRead, signed_digest}
use Rattle.minisign_install.specs.StepRuns.{HasListing}
use Rattle.minisign_install.specs.Listings.{digest_to_sign, fits_list}
use Rattle.minisign_install.proofs.Listings.{digest_is, listed_digest_of, listed_is, same_digest, signer_is}

module _ (w : World) (o : Options) (g : IsOldUpdate w o) where
  -- After n bytes were copied, the rest of the signed size is the length of the data that is left.
  abbrev IsRest : ℕ → Option ℕ → Type 0
  IsRest n None = ⊤
  IsRest n (Some left) = left + n ≡ length w.update

  -- The state has the signature of the update, the key that signed it, and the listing of the update.
  abbrev IsOfUpdate : State → Type 0
  IsOfUpdate s =
      (s.signature ≡ g.text.signature.signature) × (key_of s.signers ≡ g.key) × (s.options ≡ o)
      × HasListing w o s

  -- The comment was accepted.
  abbrev IsAccepted : ℕ → State → Type 0
  IsAccepted n s =
      (s.options ≡ o) × (n ≡ 0) × (s.recorded ≡ g.recorded) × (s.version ≡ g.version)
      × (s.signature ≡ g.text.signature.signature) × (key_of s.signers ≡ g.key)
      × (s.left ≡ signed_size o.list g.text.comments.trusted)

  -- The data is being copied, and n bytes of it were copied.
  abbrev IsReady : ℕ → State → Type 0
  IsReady n s = IsOfUpdate s × IsRest n s.left × (s.read ≡ []) × (n ≤ length w.update)

  -- No bytes were copied yet, and the run is not a check, so the update can be installed.
  abbrev CanInstall : ℕ → State → Type 0
  CanInstall n s = IsOfUpdate s × IsRest n s.left × (n ≡ 0) × (s.options.check ≡ false)

  -- The installed file is compared with the update, and the record is that of the update.
  abbrev Compares : ℕ → State → Type 0
  Compares n s = CanInstall n s × (s.is_recorded ≡ true)

  -- Invariant of a run on its way to the installation of the update.
  abbrev OnTrack : ℕ → Operation → State → Type 0
  OnTrack n fsm.Lock s = (s.options ≡ o) × (n ≡ 0)
  OnTrack n fsm.ReadRecord s = (s.options ≡ o) × (n ≡ 0)
  OnTrack n fsm.ReadSignature s = (s.options ≡ o) × (n ≡ 0) × (s.recorded ≡ g.recorded)
  OnTrack n fsm.CheckComment s =
      (s.options ≡ o) × (n ≡ 0) × (s.recorded ≡ g.recorded) × (s.fault ≡ None) × (s.version ≡ g.version)
      × (s.signature ≡ g.text.signature.signature)
      × (s.comment_signature ≡ take 64 g.text.comments.signature)
      × (s.left ≡ signed_size o.list g.text.comments.trusted)
      × (first_signer w g.text s.signers ≡ Some g.key)
  OnTrack n fsm.ReadList s = IsAccepted n s × (is_some o.list ≡ true)
  OnTrack n fsm.CheckList s = IsAccepted n s × (is_some o.list ≡ true) × HasListing w o s
  OnTrack n fsm.CheckRecord s =
      CanInstall n s
      × ((s.recorded.digest ≡ Some (digest_to_sign o.list w.list w.update)) ⊎ (fsm.is_rolling_back s ≡ true))
  OnTrack n fsm.ReadTarget s = Compares n s
  OnTrack n fsm.CheckTarget s = Compares n s
  OnTrack n fsm.SyncTarget s = ⊤
  OnTrack n fsm.SyncTargetName s = ⊤
  OnTrack n fsm.AlreadyInstalled s = ⊤
  OnTrack n fsm.RemoveLeftovers s = IsReady n s
  OnTrack n fsm.CreateFile s = IsReady n s
  OnTrack n fsm.CopyData s = IsReady n s
  OnTrack n fsm.ReadBack s = IsOfUpdate s × ((rest : List ℕ) × (s.read ++ rest ≡ w.update))
  OnTrack n fsm.CheckData s = IsOfUpdate s × (s.read ≡ w.update)
  OnTrack n fsm.SetPermissions s = ⊤
  OnTrack n fsm.SyncFile s = ⊤
  OnTrack n fsm.CreateRecord s = ⊤
  OnTrack n fsm.WriteRecord s = ⊤
  OnTrack n fsm.SyncRecord s = ⊤
  OnTrack n fsm.RenameRecord s = ⊤
  OnTrack n fsm.SyncRecordName s = ⊤
  OnTrack n fsm.RenameFile s = ⊤
  OnTrack n fsm.SyncFileName s = ⊤
  OnTrack n fsm.Installed s = ⊤
  OnTrack n op s = ⊥

  -- The invariant holds after this event, if the event fits.
  abbrev Stays : ℕ → Operation → Event → State → Type 0
  Stays n op e s = IfSome (after op e s) (λ t. OnTrack (count n e) t.due t)

  rest_at_start : (n : ℕ) (size : Option ℕ) → n ≡ 0 → ((k : ℕ) → size ≡ Some k → length w.update ≡ k)
      → IsRest n size
  rest_at_start n None none is = tt
  rest_at_start n (Some k) none is = omega (arith, none, is k refl)

  -- If the version is at most the recorded one, the update is not newer.
  is_not_newer : (r : Option ℕ) (v last : ℕ) → r ≡ Some last → v ≤ last
      → (not (is_some r) || is_below r (Some v)) ≡ false
  is_not_newer None v last is most = cc is
  is_not_newer (Some k) v last is most = le-ltb k v (omega (arith, same_Some k last is, most))

  -- A conditional whose condition is true takes its first branch.
  takes_first : (n : ℕ) (b : Bool) (x y : State) → b ≡ true → OnTrack n x.due x
      → OnTrack n (if b then x else y).due (if b then x else y)
  takes_first n true x y is on = on
  takes_first n false x y is on = absurd (true≢false (sym is))

  -- A conditional with two conditions takes its second branch if only the second condition is true.
  takes_second : (n : ℕ) (b c : Bool) (x y z : State) → b ≡ false → c ≡ true → OnTrack n y.due y
      → OnTrack n (if b then x else if c then y else z).due (if b then x else if c then y else z)
  takes_second n true c x y z is some on = absurd (true≢false is)
  takes_second n false true x y z is some on = on
  takes_second n false false x y z is some on = absurd (true≢false (sym some))

  -- A conditional with three conditions of which the first is false and the last is true: the property must
  -- hold in the second and the third branch.
  takes_last_two : (n : ℕ) (b c d : Bool) (x y z u : State) → b ≡ false → d ≡ true → OnTrack n y.due y
      → OnTrack n z.due z → OnTrack n (if b then x else if c then y else if d then z else u).due
      (if b then x else if c then y else if d then z else u)
  takes_last_two n true c d x y z u is back one other = absurd (true≢false is)
  takes_last_two n false true d x y z u is back one other = one
  takes_last_two n false false true x y z u is back one other = other
  takes_last_two n false false false x y z u is back one other = absurd (true≢false (sym back))

  -- If the version is below the recorded one, the update is older.
  rolls_back : (r : Option ℕ) (v last : ℕ) → r ≡ Some last → v < last → is_below (Some v) r ≡ true
  rolls_back None v last is less = cc is
  rolls_back (Some k) v last is less = lt-ltb v k (omega (arith, same_Some k last is, less))

  -- The operation after `install`, in a check and in an installation.
  to_install : (n : ℕ) (check : Bool) (s : State) → check ≡ false → IsReady n (fsm.install s)
      → OnTrack n (if check then fsm.WouldInstall else fsm.RemoveLeftovers) (fsm.install s)
  to_install n true s is ready = absurd (true≢false is)
  to_install n false s is ready = ready

  install : (n : ℕ) (s : State) → CanInstall n s → OnTrack n (fsm.install s).due (fsm.install s)
  install n s (knows, left, none, installs) =
      to_install n s.options.check s installs (knows, left, refl, omega (arith, none))

  after_record : (n : ℕ) (s : State) (found : Option (List ℕ)) → (s.options ≡ o) × (n ≡ 0)
      → found ≡ w.found_record
      → Stays n fsm.ReadRecord (RecordRead found) s
  after_record n s found (is_o, none) is = rw (is_o, is, g.record_applies) (refl, none, refl)

  after_signature : (n : ℕ) (s : State) (text : Result SignatureTextRecord Fault) (time : Option ℕ)
      → OnTrack n fsm.ReadSignature s → IsAcceptableFor g (SignatureRead text time) → text ≡ w.text
      → Stays n fsm.ReadSignature (SignatureRead text time) s
  after_signature n s text time (is_o, none, recorded) fine is =
      rw (is_o, is ∙ g.parsed, g.passed, recorded)
      (refl, none, refl, fine, ap (λ v. unwrap_or v 0) g.numbered, refl, refl, refl, g.signed_comment)

  compare : (n : ℕ) (s : State) → IsAccepted n s → HasListing w o s
      → OnTrack n (fsm.compare s).due (fsm.compare s)
  compare n s (is_o, none, recorded, version, signature, key, left) listing =
      let older = is_not_newer s.recorded.version s.version g.last_version
      (ap (λ (r : Recorded). r.version) recorded ∙ g.last_recorded) (omega (arith, version, g.not_newer)) in
      let installs : s.options.check ≡ false = ap (λ (x : Options). x.check) is_o ∙ g.installs in
      let ready : IsRest n s.left =
      rw left (rest_at_start n (signed_size o.list g.text.comments.trusted) none g.sized) in
      let knows : IsOfUpdate s = (signature, key, is_o, listing) in
      let can : CanInstall n s = (knows, ready, none, installs) in
      ⊎_elim
      (λ own.
      let has : s.recorded.digest ≡ Some (digest_to_sign o.list w.list w.update) =
      ap (λ (r : Recorded). r.digest) recorded ∙ own in
      takes_second n (fsm.is_newer s) (is_some s.recorded.digest) (fsm.install s)
      (fsm.go fsm.CheckRecord s)
      (if fsm.is_rolling_back s then fsm.install s else fsm.go fsm.ReadTarget s)
      older (ap is_some has) (can, inl has))
      (λ less.
      let back : fsm.is_rolling_back s ≡ true =
      rolls_back s.recorded.version s.version g.last_version
      (ap (λ (r : Recorded). r.version) recorded ∙ g.last_recorded) (omega (arith, version, less)) in
      takes_last_two n (fsm.is_newer s) (is_some s.recorded.digest) (fsm.is_rolling_back s)
      (fsm.install s) (fsm.go fsm.CheckRecord s) (fsm.install s)
      (fsm.go fsm.ReadTarget s) older back (can, inr back) (install n s can)) g.recorded_or_older

  -- The comment is accepted. The list is due next, if there is one.
  list_or_compare : (listed : Bool) (n : ℕ) (s : State) → is_some o.list ≡ listed → IsAccepted n s
      → OnTrack n (if listed then fsm.go fsm.ReadList s else fsm.compare s).due
      (if listed then fsm.go fsm.ReadList s else fsm.compare s)
  list_or_compare true n s some known = (known, some)
  list_or_compare false n s none known = compare n s known (λ some. absurd (true≢false (sym some ∙ none)))

  after_comment : (n : ℕ) (s : State) → OnTrack n fsm.CheckComment s
      → IsTrueEvent w n s fsm.CheckComment (Answered true) → Stays n fsm.CheckComment (Answered true) s
  after_comment n s (is_o, none, recorded, fault, version, signature, also, left, signer) is =
      let accepted = is g.text g.parsed in
      let key = signer_is w g.text g.key s.signers (rw (signature, also) at accepted) signer in
      let signed : State = record s { is_signed = true } in
      subst (λ f. OnTrack n (fsm.after_comment f signed).due (fsm.after_comment f signed)) (sym fault)
      (list_or_compare (is_some s.options.list) n signed (ap (λ (x : Options). is_some x.list) (sym is_o))
      (is_o, none, recorded, version, signature, key, left))

  after_listing : (n : ℕ) (s : State) → OnTrack n fsm.CheckList s
      → OnTrack n (fsm.after_listing s.listing.listed (record s { is_list_signed = true })).due
      (fsm.after_listing s.listing.listed (record s { is_list_signed = true }))
  after_listing n s (known, some, listing) =
      let (digest, found) = listed_digest_of w o s w.update some listing g.listed in
      let signed : State = record s { is_list_signed = true } in
      subst (λ r. OnTrack n (fsm.after_listing r signed).due (fsm.after_listing r signed)) (sym found)
      (compare n signed known listing)

  next_key : (n : ℕ) (s : State) (signers : List PublicKeyValue) → s.due ≡ fsm.CheckComment
      → OnTrack n fsm.CheckComment (record s { signers = signers })
      → false ≡ w.accepts (g.text.signature.signature ++ g.text.comments.trusted) (key_of signers)
      (take 64 g.text.comments.signature)
      → OnTrack n (fsm.next_key signers s).due (fsm.next_key signers s)
  next_key n s [] at (is_o, none, recorded, fault, version, signature, also, left, signer) rejected =
      absurd (none-some g.key signer)
  next_key n s (v ∷ []) at (is_o, none, recorded, fault, version, signature, also, left, signer) rejected =
      absurd (none-some g.key (rw (sym rejected) at signer))
  next_key n s (v ∷ u ∷ more) at
      (is_o, none, recorded, fault, version, signature, also, left, signer) rejected =
      let found = rw (sym rejected) at signer in
      rw at (is_o, none, recorded, fault, version, signature, also, left, found)

  after_piece : (n k : ℕ) (s : State) (left : Option ℕ) → s.due ≡ fsm.CopyData → IsOfUpdate s → IsRest n left
      → s.left ≡ left → s.read ≡ [] → n + k ≤ length w.update
      → OnTrack (n + k) (fsm.after_piece k left s).due (fsm.after_piece k left s)
  after_piece n k s None at knows is none read more = rw (at, none) (knows, tt, read, more)
  after_piece n k s (Some left) at knows is none read more =
      rw (le-leb k left (omega (arith, is, more)), at) (knows, omega (arith, is, more), read, more)

  after_copy : (n : ℕ) (s : State) (left : Option ℕ) → IsOfUpdate s → IsRest n left → s.read ≡ []
      → n ≡ length w.update
      → OnTrack n (fsm.after_copy left s).due (fsm.after_copy left s)
  after_copy n s None knows is read all = (knows, (w.update, rw read refl))
  after_copy n s (Some left) knows is read all =
      rw (eq-eqb left 0 (omega (arith, is, all))) (knows, (w.update, rw read refl))

  -- Ed25519 does not reject the signature for the data, because the update is signed.
  data_not_rejected : {P : Type 0} (s : State) → IsOfUpdate s × (s.read ≡ w.update)
      → false ≡ w.accepts (signed_digest s) (key_of s.signers) s.signature → P
  data_not_rejected s ((signature, key, same, listing), read) rejected =
      let wrong = rw (digest_is w o s same listing, key, signature) at rejected in
      absurd (true≢false (sym g.signed_data ∙ sym (rw read at wrong)))

  after_data : (n : ℕ) (s : State) → IsOfUpdate s × (s.read ≡ w.update)
      → OnTrack n (fsm.after_data (fsm.is_listed s) s).due (fsm.after_data (fsm.is_listed s) s)
  after_data n s ((signature, key, same, listing), read) =
      let fits : fsm.is_listed s ≡ true =
      listed_is w o s same listing ∙ ap (fits_list o.list w.list w.name) read ∙ g.listed in
      rw fits tt

  list_not_rejected : {P : Type 0} (n : ℕ) (s : State) → OnTrack n fsm.CheckList s
      → false ≡ w.accepts (signed_digest s) (key_of s.signers) s.signature → P
  list_not_rejected n s ((same, none, recorded, version, signature, key, left), some, listing) rejected =
      let wrong = rw (
        digest_is w o s same listing,
        same_digest o.list w.list s.read w.update some,
        key,
        signature,
      )
      at rejected in
      absurd (true≢false (sym g.signed_data ∙ sym wrong))

  -- The digest in the record is that of the update, or the update is older.
  after_known_digest : (n : ℕ) (s : State) (accepted : Bool) → OnTrack n fsm.CheckRecord s
      → accepted ≡ w.accepts (unwrap_or s.recorded.digest []) (key_of s.signers) s.signature
      → OnTrack n (fsm.after_digest accepted s).due (fsm.after_digest accepted s)
  after_known_digest n s true (can, own) is = (can, refl)
  after_known_digest n s false (((signature, key, same, listing), left, none, installs), inl own) is =
      absurd (true≢false (sym g.signed_data ∙ sym (rw (own, key, signature) at is)))
  after_known_digest n s false (can, inr back) is =
      takes_first n (fsm.is_rolling_back s) (fsm.install s) _ back (install n s can)

  -- The record is that of the update, so it is installed over any other file.
  after_known_target : (n : ℕ) (s : State) (accepted : Bool) → Compares n s
      → OnTrack n (fsm.after_target accepted s).due (fsm.after_target accepted s)
  after_known_target n s true ((knows, left, none, installs), own) = rw installs tt
  after_known_target n s false (can, own) =
      takes_first n (s.is_recorded || s.options.again) (fsm.install s) _ (ap (λ b. b || s.options.again) own)
      (install n s can)

  -- An operation keeps the invariant.
  op_keeps : (n : ℕ) (op : Operation) (e : Event) (s : State) → s.due ≡ op → OnTrack n op s
      → IsAcceptableFor g e
      → IsTrueEvent w n s op e → Stays n op e s
  op_keeps n op (Failed f) s at on fine is = absurd fine
  op_keeps n op InUse s at on fine is = absurd fine
  op_keeps n fsm.Nothing e s at on fine is = absurd on
  op_keeps n fsm.RemoveFiles e s at on fine is = absurd on
  op_keeps n fsm.WouldInstall e s at on fine is = absurd on
  op_keeps n fsm.Rejected e s at on fine is = absurd on
  op_keeps n fsm.ReadRecord (RecordRead found) s at on fine is = after_record n s found on is
  op_keeps n fsm.ReadSignature (SignatureRead text time) s at on fine is =
      after_signature n s text time on fine is
  op_keeps n fsm.CheckComment (Answered true) s at on fine is = after_comment n s on is
  op_keeps n fsm.CheckComment (Answered false) s at on fine is =
      next_key n s s.signers at on (rw (on.5, on.6) at (is g.text g.parsed))
  op_keeps n fsm.ReadList (ListRead list name) s at (known, some) fine is =
      (known, some, λ listed. rw (ap (λ (x : Options). x.list) known.0, is.0, is.1) refl)
  op_keeps n fsm.CheckList (Answered true) s at on fine is = after_listing n s on
  op_keeps n fsm.CheckList (Answered false) s at on fine is = list_not_rejected n s on is
  op_keeps n fsm.ReadList e s at on fine is = tt
  op_keeps n fsm.CheckList e s at on fine is = tt
  op_keeps n fsm.CheckRecord (Answered accepted) s at on fine is = after_known_digest n s accepted on is
  op_keeps n fsm.ReadTarget (PieceRead bytes) s at on fine is = rw at on
  op_keeps n fsm.ReadTarget fsm.TargetMissing s at on fine is = install n s on.0
  op_keeps n fsm.ReadTarget Done s at on fine is = on
  op_keeps n fsm.CheckTarget (Answered accepted) s at on fine is =
      after_known_target n s (accepted && fsm.is_listed s) on
  op_keeps n fsm.AlreadyInstalled e s at on fine is = tt
  op_keeps n fsm.CopyData (PieceCopied k) s at (knows, left, read, more) fine is =
      after_piece n k s s.left at knows left refl read is.1
  op_keeps n fsm.CopyData Done s at (knows, left, read, more) fine is =
      after_copy n s s.left knows left read is
  op_keeps n fsm.ReadBack (PieceRead bytes) s at (knows, rest) fine is = rw at (knows, is.1)
  op_keeps n fsm.ReadBack Done s at (knows, rest) fine is = (knows, is)
  op_keeps n fsm.CheckData (Answered true) s at on fine is = after_data n s on
  op_keeps n fsm.CheckData (Answered false) s at on fine is = data_not_rejected s on is
  op_keeps n fsm.Lock Done s at on fine is = on
  op_keeps n fsm.RemoveLeftovers Done s at on fine is = on
  op_keeps n fsm.CreateFile Done s at on fine is = on
  op_keeps n op Done s at on fine is = tt
  op_keeps n op e s at on fine is = tt

  -- The invariant holds for the state that `step` returns, if the event fits.
  answer_keeps : (n : ℕ) (e : Event) (s : State) (next : Option State) → is_some next ≡ true
      → IfSome next (λ t. OnTrack (count n e) t.due t)
      → OnTrack (count n e) (answer s next).1.due (answer s next).1
  answer_keeps n e s (Some t) fits stays = stays
  answer_keeps n e s None fits stays = absurd (true≢false (sym fits))

  -- The invariant holds when a run begins.
  begins : (check : Bool) → OnTrack 0 (if check then fsm.ReadRecord else fsm.Lock) (begin o)
  begins true = (refl, refl)
  begins false = (refl, refl)

  -- The invariant holds at the end of a run of an application.
  invariant_after : (n : ℕ) (s : State) (m : Snapshot) (calls : List Call) (t : State) (end : Snapshot)
      → OnTrack n s.due s → Invariant w o ⊤ ⊥ n s m → Applies w s m calls t end
      → AllEvents (IsAcceptableFor g) calls → (k : ℕ) × OnTrack k t.due t
  invariant_after n s m [] t end on known (is, same) fine = (n, rw is on)
  invariant_after n s m (c ∷ more) t end on known (others, fits, is, run) (fine, rest) =
      invariant_after (count n c.event) (step s c.event).1 c.after more t end
      (answer_keeps n c.event s (after s.due c.event s) fits
      (op_keeps n s.due c.event s refl on fine
      (true_event w o ⊤ ⊥ n s m c known others (λ q. absurd q) fits is).1))
      (next w o ⊤ ⊥ n s m c known others (λ q. absurd q) fits is (λ found. tt)) run rest

  -- A run on its way to the installation ends with it.
  installed_at_end : (n : ℕ) (op : Operation) (s : State) → OnTrack n op s → has_ended op ≡ true
      → IsInstalled op
  installed_at_end n fsm.Installed s on ended = inl refl
  installed_at_end n fsm.AlreadyInstalled s on ended = inr refl
  installed_at_end n fsm.WouldInstall s on ended = absurd on
  installed_at_end n fsm.Rejected s on ended = absurd on
  installed_at_end n op s on ended = absurd (true≢false (sym ended))

-- If nothing fails, and the record was written for this update or the update is older, then a run that has
-- ended has installed the update or found it installed.
pub interrupted_run_is_finished : (w : World) (o : Options) (g : IsOldUpdate w o) (m : Snapshot)
    (calls : List Call) (t : State) (end : Snapshot) → Applies w (begin o) m calls t end
    → AllEvents (IsAcceptableFor g) calls → has_ended t.due ≡ true → IsInstalled t.due
interrupted_run_is_finished w o g m calls t end run fine ended =
    let (n, on) = invariant_after w o g 0 (begin o) m calls t end (begins w o g o.check)
    (safe_calls.begins w o ⊤ ⊥ m) run fine in
    installed_at_end w o g n t.due t on ended
