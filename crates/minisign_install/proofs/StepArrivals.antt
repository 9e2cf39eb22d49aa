-- Proves that a good update is installed if nothing fails.
use Rattle.std.specs.Prelude.{◌≡◌, ◌<◌, ◌≤◌, ◌+◌, ⊤, ℕ, Bool, true, false, List, [], ◌∷◌, length, Option}
use Rattle.std.specs.Prelude.{Some, None, Result, IfSome, ◌++◌, ◌||◌, not, is_some, take, if◌then◌else◌}
use Rattle.std.specs.Prelude.{◌⊎◌, ◌-◌, Ok}
use Rattle.std.proofs.Common.{refl, subst, sym, inl, inr, zero, suc, append-nil, eq-or-lt_of_le, ap}
use Rattle.std.proofs.Common.{◌∙◌, arith}
use Rattle.std.proofs.Common.{le-leb, lt-ltb, eq-eqb, true≢false, unwrap_or}
use Rattle.std.proofs.lemmas.Option.{none-some}
use Rattle.minisign.specs.SignatureText.{SignatureTextRecord}
use Rattle.minisign_external.specs.declared.public_keys.PublicKeyValue.{PublicKeyValue}
use Rattle.minisign_install.specs.Decisions.{Options, comment_fault, is_below, signed_size}
use Rattle.minisign_install.specs.Faults.{Fault}
use Rattle.minisign_install.specs.Step.{Event, Done, InUse, Failed, RecordRead, SignatureRead, Answered}
use Rattle.minisign_install.specs.Step.{PieceRead, PieceCopied, State, begin, step, Operation, after}
use Rattle.minisign_install.specs.Step.{answer, has_ended, key_of, comment_question, data_question}
use Rattle.minisign_install.specs.Step as fsm
use Rattle.minisign_install.specs.StepRuns.{IsAcceptable, IsGoodUpdate, IsRun, IsLawfulEvent, IsTrueEvent}
use Rattle.minisign_install.specs.StepRuns.{World, count}
use Rattle.minisign_install.specs.StepRuns.{IsGoodRun, accepts_question, first_signer}
use Rattle.minisign_install.proofs.StepEnds.{left, step_less}
use Rattle.minisign_install.specs.Step.{ListRead, signed_digest}
use Rattle.minisign_install.specs.StepRuns.{HasListing}
use Rattle.minisign_install.specs.Listings.{fits_list}
use Rattle.minisign_install.proofs.Listings.{digest_is, listed_digest_of, listed_is, same_digest, signer_is}

module _ (w : World) (o : Options) (g : IsGoodUpdate w o) where
  -- After n bytes were copied, the rest of the signed size is the length of the data that is left.
  abbrev IsRest : ℕ → Option ℕ → Type 0
  IsRest n None = ⊤
  IsRest n (Some left) = left + n ≡ length w.update

  -- The state has the signature of the update, the key that signed it, and the listing of the update.
  abbrev IsOfUpdate : State → Type 0
  IsOfUpdate s =
      (s.signature ≡ g.text.signature.signature) × (key_of s.signers ≡ g.key) × (s.options ≡ o)
      × HasListing w o s

  -- The comment was accepted.
  abbrev IsAccepted : ℕ → State → Type 0
  IsAccepted n s =
      (s.options ≡ o) × (n ≡ 0) × (s.recorded ≡ g.recorded) × (s.version ≡ g.version)
      × (s.signature ≡ g.text.signature.signature) × (key_of s.signers ≡ g.key)
      × (s.left ≡ signed_size o.list g.text.comments.trusted)

  -- The data is being copied, and n bytes of it were copied.
  abbrev IsReady : ℕ → State → Type 0
  IsReady n s = IsOfUpdate s × IsRest n s.left × (s.read ≡ []) × (n ≤ length w.update)

  -- Invariant of a run on its way to the installation of the update.
  abbrev OnTrack : ℕ → Operation → State → Type 0
  OnTrack n fsm.Lock s = (s.options ≡ o) × (n ≡ 0)
  OnTrack n fsm.ReadRecord s = (s.options ≡ o) × (n ≡ 0)
  OnTrack n fsm.ReadSignature s = (s.options ≡ o) × (n ≡ 0) × (s.recorded ≡ g.recorded)
  OnTrack n fsm.CheckComment s =
      (s.options ≡ o) × (n ≡ 0) × (s.recorded ≡ g.recorded) × (s.fault ≡ None) × (s.version ≡ g.version)
      × (s.signature ≡ g.text.signature.signature)
      × (s.comment_signature ≡ take 64 g.text.comments.signature)
      × (s.left ≡ signed_size o.list g.text.comments.trusted)
      × (first_signer w g.text s.signers ≡ Some g.key)
  OnTrack n fsm.ReadList s = IsAccepted n s × (is_some o.list ≡ true)
  OnTrack n fsm.CheckList s = IsAccepted n s × (is_some o.list ≡ true) × HasListing w o s
  OnTrack n fsm.RemoveLeftovers s = IsReady n s
  OnTrack n fsm.CreateFile s = IsReady n s
  OnTrack n fsm.CopyData s = IsReady n s
  OnTrack n fsm.ReadBack s = IsOfUpdate s × ((rest : List ℕ) × (s.read ++ rest ≡ w.update))
  OnTrack n fsm.CheckData s = IsOfUpdate s × (s.read ≡ w.update)
  OnTrack n fsm.SetPermissions s = ⊤
  OnTrack n fsm.SyncFile s = ⊤
  OnTrack n fsm.CreateRecord s = ⊤
  OnTrack n fsm.WriteRecord s = ⊤
  OnTrack n fsm.SyncRecord s = ⊤
  OnTrack n fsm.RenameRecord s = ⊤
  OnTrack n fsm.SyncRecordName s = ⊤
  OnTrack n fsm.RenameFile s = ⊤
  OnTrack n fsm.SyncFileName s = ⊤
  OnTrack n fsm.Installed s = ⊤
  OnTrack n op s = ⊥

  -- The invariant holds after this event, if the event fits.
  abbrev Stays : ℕ → Operation → Event → State → Type 0
  Stays n op e s = IfSome (after op e s) (λ t. OnTrack (count n e) t.due t)

  rest_at_start : (n : ℕ) (size : Option ℕ) → n ≡ 0 → ((k : ℕ) → size ≡ Some k → length w.update ≡ k)
      → IsRest n size
  rest_at_start n None none is = tt
  rest_at_start n (Some k) none is = omega (arith, none, is k refl)

  is_newer : (r : Option ℕ) (v : ℕ) → ((k : ℕ) → r ≡ Some k → k < v)
      → (not (is_some r) || is_below r (Some v)) ≡ true
  is_newer None v newer = refl
  is_newer (Some k) v newer = lt-ltb k v (newer k refl)

  after_record : (n : ℕ) (s : State) (found : Option (List ℕ)) → (s.options ≡ o) × (n ≡ 0)
      → found ≡ w.found_record
      → Stays n fsm.ReadRecord (RecordRead found) s
  after_record n s found (is_o, none) is = rw (is_o, is, g.record_applies) (refl, none, refl)

  after_signature : (n : ℕ) (s : State) (text : Result SignatureTextRecord Fault) (time : Option ℕ)
      → OnTrack n fsm.ReadSignature s → IsAcceptable g (SignatureRead text time) → text ≡ w.text
      → Stays n fsm.ReadSignature (SignatureRead text time) s
  after_signature n s text time (is_o, none, recorded) fine is =
      rw (is_o, is ∙ g.parsed, g.passed, recorded)
      (refl, none, refl, fine, ap (λ v. unwrap_or v 0) g.numbered, refl, refl, refl, g.signed_comment)

  -- A conditional whose condition is true takes its first branch.
  takes_first : (n : ℕ) (b : Bool) (x y : State) → b ≡ true → OnTrack n x.due x
      → OnTrack n (if b then x else y).due (if b then x else y)
  takes_first n true x y is on = on
  takes_first n false x y is on = absurd (true≢false (sym is))

  -- The operation after `install`, in a check and in an installation.
  to_install : (n : ℕ) (check : Bool) (s : State) → check ≡ false → IsReady n (fsm.install s)
      → OnTrack n (if check then fsm.WouldInstall else fsm.RemoveLeftovers) (fsm.install s)
  to_install n true s is ready = absurd (true≢false is)
  to_install n false s is ready = ready

  compare : (n : ℕ) (s : State) → IsAccepted n s → HasListing w o s
      → OnTrack n (fsm.compare s).due (fsm.compare s)
  compare n s (is_o, none, recorded, version, signature, key, left) listing =
      let newer : fsm.is_newer s ≡ true =
      rw (recorded, version) (is_newer g.recorded.version g.version g.newer) in
      let installs : s.options.check ≡ false = ap (λ (x : Options). x.check) is_o ∙ g.installs in
      takes_first n (fsm.is_newer s) (fsm.install s) _ newer
      (to_install n s.options.check s installs (
        (signature, key, is_o, listing),
        rw left (rest_at_start n (signed_size o.list g.text.comments.trusted) none g.sized),
        refl,
        omega (arith, none),
      ))

  -- The comment is accepted. The list is due next, if there is one.
  list_or_compare : (listed : Bool) (n : ℕ) (s : State) → is_some o.list ≡ listed → IsAccepted n s
      → OnTrack n (if listed then fsm.go fsm.ReadList s else fsm.compare s).due
      (if listed then fsm.go fsm.ReadList s else fsm.compare s)
  list_or_compare true n s some known = (known, some)
  list_or_compare false n s none known = compare n s known (λ some. absurd (true≢false (sym some ∙ none)))

  after_comment : (n : ℕ) (s : State) → OnTrack n fsm.CheckComment s
      → IsTrueEvent w n s fsm.CheckComment (Answered true) → Stays n fsm.CheckComment (Answered true) s
  after_comment n s (is_o, none, recorded, fault, version, signature, second, left, signer) is =
      let accepted = is g.text g.parsed in
      let key = signer_is w g.text g.key s.signers (rw (signature, second) at accepted) signer in
      let signed : State = record s { is_signed = true } in
      subst (λ f. OnTrack n (fsm.after_comment f signed).due (fsm.after_comment f signed)) (sym fault)
      (list_or_compare (is_some s.options.list) n signed (ap (λ (x : Options). is_some x.list) (sym is_o))
      (is_o, none, recorded, version, signature, key, left))

  after_listing : (n : ℕ) (s : State) → OnTrack n fsm.CheckList s
      → OnTrack n (fsm.after_listing s.listing.listed (record s { is_list_signed = true })).due
      (fsm.after_listing s.listing.listed (record s { is_list_signed = true }))
  after_listing n s (known, some, listing) =
      let (digest, found) = listed_digest_of w o s w.update some listing g.listed in
      let signed : State = record s { is_list_signed = true } in
      subst (λ r. OnTrack n (fsm.after_listing r signed).due (fsm.after_listing r signed)) (sym found)
      (compare n signed known listing)

  next_key : (n : ℕ) (s : State) (signers : List PublicKeyValue) → s.due ≡ fsm.CheckComment
      → OnTrack n fsm.CheckComment (record s { signers = signers })
      → false ≡ w.accepts (g.text.signature.signature ++ g.text.comments.trusted) (key_of signers)
      (take 64 g.text.comments.signature)
      → OnTrack n (fsm.next_key signers s).due (fsm.next_key signers s)
  next_key n s [] at (is_o, none, recorded, fault, version, signature, second, left, signer) rejected =
      absurd (none-some g.key signer)
  next_key n s (v ∷ []) at (is_o, none, recorded, fault, version, signature, second, left, signer) rejected =
      absurd (none-some g.key (rw (sym rejected) at signer))
  next_key n s (v ∷ u ∷ more) at
      (is_o, none, recorded, fault, version, signature, second, left, signer) rejected =
      let found = rw (sym rejected) at signer in
      rw at (is_o, none, recorded, fault, version, signature, second, left, found)

  after_piece : (n k : ℕ) (s : State) (left : Option ℕ) → s.due ≡ fsm.CopyData → IsOfUpdate s → IsRest n left
      → s.left ≡ left → s.read ≡ [] → n + k ≤ length w.update
      → OnTrack (n + k) (fsm.after_piece k left s).due (fsm.after_piece k left s)
  after_piece n k s None at knows is none read more = rw (at, none) (knows, tt, read, more)
  after_piece n k s (Some left) at knows is none read more =
      rw (le-leb k left (omega (arith, is, more)), at) (knows, omega (arith, is, more), read, more)

  after_copy : (n : ℕ) (s : State) (left : Option ℕ) → IsOfUpdate s → IsRest n left → s.read ≡ []
      → n ≡ length w.update
      → OnTrack n (fsm.after_copy left s).due (fsm.after_copy left s)
  after_copy n s None knows is read all = (knows, (w.update, rw read refl))
  after_copy n s (Some left) knows is read all =
      rw (eq-eqb left 0 (omega (arith, is, all))) (knows, (w.update, rw read refl))

  -- Ed25519 does not reject the signature for the data, because the update is signed.
  data_not_rejected : {P : Type 0} (s : State) → IsOfUpdate s × (s.read ≡ w.update)
      → false ≡ w.accepts (signed_digest s) (key_of s.signers) s.signature → P
  data_not_rejected s ((signature, key, same, listing), read) rejected =
      let wrong = rw (digest_is w o s same listing, key, signature) at rejected in
      absurd (true≢false (sym g.signed_data ∙ sym (rw read at wrong)))

  after_data : (n : ℕ) (s : State) → IsOfUpdate s × (s.read ≡ w.update)
      → OnTrack n (fsm.after_data (fsm.is_listed s) s).due (fsm.after_data (fsm.is_listed s) s)
  after_data n s ((signature, key, same, listing), read) =
      let fits : fsm.is_listed s ≡ true =
      listed_is w o s same listing ∙ ap (fits_list o.list w.list w.name) read ∙ g.listed in
      rw fits tt

  list_not_rejected : {P : Type 0} (n : ℕ) (s : State) → OnTrack n fsm.CheckList s
      → false ≡ w.accepts (signed_digest s) (key_of s.signers) s.signature → P
  list_not_rejected n s ((same, none, recorded, version, signature, key, left), some, listing) rejected =
      let wrong = rw (
        digest_is w o s same listing,
        same_digest o.list w.list s.read w.update some,
        key,
        signature,
      )
      at rejected in
      absurd (true≢false (sym g.signed_data ∙ sym wrong))

  -- An operation keeps the invariant.
  op_keeps : (n : ℕ) (op : Operation) (e : Event) (s : State) → s.due ≡ op → OnTrack n op s → IsAcceptable g e
      → IsTrueEvent w n s op e → Stays n op e s
  op_keeps n op (Failed f) s at on fine is = absurd fine
  op_keeps n op InUse s at on fine is = absurd fine
  op_keeps n fsm.Nothing e s at on fine is = absurd on
  op_keeps n fsm.CheckRecord e s at on fine is = absurd on
  op_keeps n fsm.ReadTarget e s at on fine is = absurd on
  op_keeps n fsm.CheckTarget e s at on fine is = absurd on
  op_keeps n fsm.SyncTarget e s at on fine is = absurd on
  op_keeps n fsm.SyncTargetName e s at on fine is = absurd on
  op_keeps n fsm.RemoveFiles e s at on fine is = absurd on
  op_keeps n fsm.WouldInstall e s at on fine is = absurd on
  op_keeps n fsm.AlreadyInstalled e s at on fine is = absurd on
  op_keeps n fsm.Rejected e s at on fine is = absurd on
  op_keeps n fsm.ReadRecord (RecordRead found) s at on fine is = after_record n s found on is
  op_keeps n fsm.ReadSignature (SignatureRead text time) s at on fine is =
      after_signature n s text time on fine is
  op_keeps n fsm.CheckComment (Answered true) s at on fine is = after_comment n s on is
  op_keeps n fsm.CheckComment (Answered false) s at on fine is =
      next_key n s s.signers at on (rw (on.5, on.6) at (is g.text g.parsed))
  op_keeps n fsm.ReadList (ListRead list name) s at (known, some) fine is =
      (known, some, λ listed. rw (ap (λ (x : Options). x.list) known.0, is.0, is.1) refl)
  op_keeps n fsm.CheckList (Answered true) s at on fine is = after_listing n s on
  op_keeps n fsm.CheckList (Answered false) s at on fine is = list_not_rejected n s on is
  op_keeps n fsm.ReadList e s at on fine is = tt
  op_keeps n fsm.CheckList e s at on fine is = tt
  op_keeps n fsm.CopyData (PieceCopied k) s at (knows, left, read, more) fine is =
      after_piece n k s s.left at knows left refl read is.1
  op_keeps n fsm.CopyData Done s at (knows, left, read, more) fine is =
      after_copy n s s.left knows left read is
  op_keeps n fsm.ReadBack (PieceRead bytes) s at (knows, rest) fine is = rw at (knows, is.1)
  op_keeps n fsm.ReadBack Done s at (knows, rest) fine is = (knows, is)
  op_keeps n fsm.CheckData (Answered true) s at on fine is = after_data n s on
  op_keeps n fsm.CheckData (Answered false) s at on fine is = data_not_rejected s on is
  op_keeps n fsm.Lock Done s at on fine is = on
  op_keeps n fsm.RemoveLeftovers Done s at on fine is = on
  op_keeps n fsm.CreateFile Done s at on fine is = on
  op_keeps n op Done s at on fine is = tt
  op_keeps n op e s at on fine is = tt

  -- The invariant holds for the state that `step` returns, if the event fits.
  answer_keeps : (n : ℕ) (e : Event) (s : State) (next : Option State) → is_some next ≡ true
      → IfSome next (λ t. OnTrack (count n e) t.due t)
      → OnTrack (count n e) (answer s next).1.due (answer s next).1
  answer_keeps n e s (Some t) fits stays = stays
  answer_keeps n e s None fits stays = absurd (true≢false (sym fits))

  -- The invariant holds when a run begins.
  begins : (check : Bool) → OnTrack 0 (if check then fsm.ReadRecord else fsm.Lock) (begin o)
  begins true = (refl, refl)
  begins false = (refl, refl)

  -- The invariant holds after a run that starts in a state in which it holds.
  invariant_after : (n : ℕ) (s : State) (events : List Event) (t : State) → OnTrack n s.due s
      → IsRun (λ n s e. IsLawfulEvent w n s e × IsAcceptable g e) n s events t → (m : ℕ) × OnTrack m t.due t
  invariant_after n s [] t on is = (n, rw is on)
  invariant_after n s (e ∷ more) t on (((fits, is), fine), rest) =
      invariant_after (count n e) (step s e).1 more t
      (answer_keeps n e s (after s.due e s) fits (op_keeps n s.due e s refl on fine is)) rest

  -- A run on its way to the installation ends with it.
  ends_installed : (n : ℕ) (op : Operation) (s : State) → OnTrack n op s → has_ended op ≡ true
      → op ≡ fsm.Installed
  ends_installed n fsm.Installed s on ended = refl
  ends_installed n fsm.WouldInstall s on ended = absurd on
  ends_installed n fsm.AlreadyInstalled s on ended = absurd on
  ends_installed n fsm.Rejected s on ended = absurd on
  ends_installed n op s on ended = absurd (true≢false (sym ended))

  -- Both results of Ed25519 fit the question about the comment.
  fits_comment : (s : State) (accepted : Bool)
      → is_some (after fsm.CheckComment (Answered accepted) s) ≡ true
  fits_comment s true = refl
  fits_comment s false = refl

  fits_listing : (s : State) (accepted : Bool)
      → is_some (after fsm.CheckList (Answered accepted) s) ≡ true
  fits_listing s true = refl
  fits_listing s false = refl

  fits_data : (s : State) (accepted : Bool) → is_some (after fsm.CheckData (Answered accepted) s) ≡ true
  fits_data s true = refl
  fits_data s false = refl

  -- There is an event that the application may report at this operation, and that is not a failure.
  abbrev HasEvent : ℕ → Operation → State → Type 0
  HasEvent n op s =
      (e : Event) × (is_some (after op e s) ≡ true) × IsTrueEvent w n s op e × IsAcceptable g e

  -- While data is copied, there is a lawful event: the next piece, or the end of the data.
  next_piece : (n : ℕ) (s : State) → n ≤ length w.update → HasEvent n fsm.CopyData s
  next_piece n s more = elim (eq-or-lt_of_le more) [
    | inl all ↦ (Done, refl, all, tt)
    | inr less ↦ (PieceCopied (length w.update - n), refl, (omega (arith, less), omega (arith, less)), tt)
  ]

  next_bytes : (n : ℕ) (s : State) (rest : List ℕ) → s.read ++ rest ≡ w.update → HasEvent n fsm.ReadBack s
  next_bytes n s [] whole = (Done, refl, sym (append-nil s.read) ∙ whole, tt)
  next_bytes n s (b ∷ rest) whole =
      (PieceRead (b ∷ rest), refl, (omega arith, ([], append-nil (s.read ++ b ∷ rest) ∙ whole)), tt)

  same_text : (t : SignatureTextRecord) → w.text ≡ Ok t → g.text ≡ t
  same_text t parsed = let both : Ok g.text ≡ Ok t = sym g.parsed ∙ parsed in cc both

  module _ (time : Option ℕ)
      (fresh : comment_fault o g.recorded.version time g.text.comments.trusted ≡ None) where
    has_event : (n : ℕ) (op : Operation) (s : State) → OnTrack n op s
        → (op ≡ fsm.Installed) ⊎ HasEvent n op s
    has_event n fsm.Lock s on = inr (Done, refl, tt, tt)
    has_event n fsm.ReadRecord s on = inr (RecordRead w.found_record, refl, refl, tt)
    has_event n fsm.ReadSignature s on = inr (SignatureRead w.text time, refl, refl, fresh)
    has_event n fsm.CheckComment s on =
        inr (
          Answered (accepts_question w (comment_question s g.text.comments.trusted)),
          fits_comment s _,
          λ t parsed. ap (λ x. accepts_question w (comment_question s x.comments.trusted))
              (same_text t parsed),
          tt,
        )
    has_event n fsm.ReadList s on = inr (ListRead w.list w.name, refl, (refl, refl), tt)
    has_event n fsm.CheckList s on =
        inr (Answered (accepts_question w (data_question fsm.CheckList s)), fits_listing s _, refl, tt)
    has_event n fsm.RemoveLeftovers s on = inr (Done, refl, tt, tt)
    has_event n fsm.CreateFile s on = inr (Done, refl, tt, tt)
    has_event n fsm.CopyData s (knows, left, read, more) = inr (next_piece n s more)
    has_event n fsm.ReadBack s (knows, (rest, whole)) = inr (next_bytes n s rest whole)
    has_event n fsm.CheckData s on =
        inr (Answered (accepts_question w (data_question fsm.CheckData s)), fits_data s _, refl, tt)
    has_event n fsm.SetPermissions s on = inr (Done, refl, tt, tt)
    has_event n fsm.SyncFile s on = inr (Done, refl, tt, tt)
    has_event n fsm.CreateRecord s on = inr (Done, refl, tt, tt)
    has_event n fsm.WriteRecord s on = inr (Done, refl, tt, tt)
    has_event n fsm.SyncRecord s on = inr (Done, refl, tt, tt)
    has_event n fsm.RenameRecord s on = inr (Done, refl, tt, tt)
    has_event n fsm.SyncRecordName s on = inr (Done, refl, tt, tt)
    has_event n fsm.RenameFile s on = inr (Done, refl, tt, tt)
    has_event n fsm.SyncFileName s on = inr (Done, refl, tt, tt)
    has_event n fsm.Installed s on = inl refl
    has_event n op s on = absurd on

    -- If at most `most` steps are left, there is a run from this state that installs the update.
    arrives : (most n : ℕ) (s : State) → left w n s.due s ≤ most → OnTrack n s.due s
        → (events : List Event) × (t : State)
        × IsRun (λ n s e. IsLawfulEvent w n s e × IsAcceptable g e) n s events t × (t.due ≡ fsm.Installed)
    arrives zero n s few on = elim (has_event n s.due s on) [
      | inl done ↦ ([], s, refl, done)
      | inr (e, fits, is, fine) ↦ let less = step_less w n e s (fits, is) in absurd (omega
          (arith, few, less))
    ]
    arrives (suc most) n s few on = elim (has_event n s.due s on) [
      | inl done ↦ ([], s, refl, done)
      | inr (e, fits, is, fine) ↦
          let less = step_less w n e s (fits, is) in
          let (more, t, run, done) = arrives most (count n e) (step s e).1 (omega (arith, few, less))
          (answer_keeps n e s (after s.due e s) fits (op_keeps n s.due e s refl on fine is)) in
          (e ∷ more, t, (((fits, is), fine), run), done)
    ]

-- If nothing fails and the update is good, a run that has ended has installed the update.
pub good_update_gets_installed : (w : World) (o : Options) (g : IsGoodUpdate w o) (events : List Event)
    (t : State)
    → IsGoodRun g events t → has_ended t.due ≡ true → t.due ≡ fsm.Installed
good_update_gets_installed w o g events t run ended =
    let (n, on) = invariant_after w o g 0 (begin o) events t (begins w o g o.check) run in
    ends_installed w o g n t.due t on ended

-- If the comment is not rejected at some time, there is a run without failures that installs the good update.
pub good_update_has_run : (w : World) (o : Options) (g : IsGoodUpdate w o) (time : Option ℕ)
    → comment_fault o g.recorded.version time g.text.comments.trusted ≡ None
    → (events : List Event) × (t : State) × IsGoodRun g events t × (t.due ≡ fsm.Installed)
good_update_has_run w o g time fresh =
    arrives w o g time fresh (left w 0 (begin o).due (begin o)) 0 (begin o) (omega arith)
    (begins w o g o.check)
