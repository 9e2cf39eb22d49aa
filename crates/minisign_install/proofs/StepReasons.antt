-- Proves two laws about the runs of a lawful application. errors_are_true: each error has a cause, which
-- IsReason names. ends_are_true: if a run has ended with Installed, AlreadyInstalled or WouldInstall, then
-- IsEnd holds; for example, after Installed, a given key has signed the trusted comment and the data. Both
-- follow from an invariant (InvariantAt) that each step keeps (op_keeps).
use Rattle.std.specs.Prelude.{◌≡◌, ◌≢◌, ◌<◌, ◌≤◌, ◌+◌, ◌-◌, ⊤, ℕ, Bool, true, false, List, [], ◌∷◌, length}
use Rattle.std.specs.Prelude.{Option, Some, None, Result, Ok, Err, IfSome, ◌++◌, ◌||◌, ◌&&◌, ◌==◌}
use Rattle.std.specs.Prelude.{nat_le, not}
use Rattle.std.specs.Prelude.{is_some, if◌then◌else◌, take}
use Rattle.std.proofs.Common.{refl, inl, inr, sym, ap, ◌∙◌, arith, ltb-false, leb-false, eq-eqb, true≢false}
use Rattle.std.proofs.Common.{unwrap_or, subst, leb-true}
use Rattle.std.proofs.lemmas.Option.{none-some, same_Some}
use Rattle.minisign.specs.SignatureText.{SignatureTextRecord}
use Rattle.minisign_external.specs.declared.public_keys.PublicKeyValue.{PublicKeyValue}
use Rattle.minisign_external.specs.declared.state.Refusal.{Refusal}
use Rattle.minisign_external.specs.declared.state.Refusal.TheVariants.{Refused}
use Rattle.minisign_install.specs.Decisions.{Options, Recorded, comment_fault, is_below, judge_record}
use Rattle.minisign_install.specs.Decisions.{judge_keys, judge_text, signed_size, version_in}
use Rattle.minisign_install.specs.Faults.{Fault, InstallFault, Library, OtherSize, SameNumber}
use Rattle.minisign_install.specs.Step.{Event, Done, InUse, Failed, RecordRead, SignatureRead, Answered}
use Rattle.minisign_install.specs.Step.{PieceRead, TargetMissing, PieceCopied, State, begin, step}
use Rattle.minisign_install.specs.Step.{Operation, after, answer, has_files, key_of}
use Rattle.minisign_install.specs.Step as fsm
use Rattle.minisign_install.specs.StepRuns.{IsAtTimeIn, TimeIn}
use Rattle.minisign_install.specs.StepRuns.{IsEnd, IsSameVersion, IsReason, IsRun, IsSigned, IsLawfulEvent}
use Rattle.minisign_install.specs.StepRuns.{IsTrueEvent, World, accepts_digest, count, first_signer, total}
use Rattle.minisign_install.proofs.StepSafety.{Passed, no_pass, pass, required, text_parsed}
use Rattle.minisign_base.specs.declared.faults.NamedFault.TheVariants as named
use Rattle.minisign_install.specs.Faults.{Named}
use Rattle.minisign_install.specs.Listings.{digest_to_sign, fits_list}
use Rattle.minisign_install.specs.Step.{ListRead, signed_digest}
use Rattle.minisign_install.specs.StepRuns.{HasListing, IsListAccepted, accepts_data}
use Rattle.minisign_install.proofs.Listings.{and_true, digest_is, list_digest, listed_as, listed_is}
use Rattle.minisign_install.proofs.Listings.{same_digest, value_if_some}
use Rattle.minisign_lists.specs.declared.digests.ListedDigest.{ListedDigest}

-- The number of keys in a result of judge_text. It is not 0 if the checks succeed.
abbrev key_count : Passed → ℕ
key_count (Ok (t, signers)) = length signers
key_count (Err e) = 0

-- If the signature file passes the checks, at least one given key has its key ID.
one_key : (v : PublicKeyValue) (more keys : List PublicKeyValue) (t u : SignatureTextRecord)
    → pass t (v ∷ more) ≡ pass u keys → 0 < length keys
one_key v more keys t u is =
    let same : length (v ∷ more) ≡ length keys = ap key_count is in omega (arith, same)

some_keys : (o : Options) (signers : List PublicKeyValue) (t u : SignatureTextRecord)
    (keys : List PublicKeyValue) → judge_keys o signers t ≡ Ok (u, keys) → 0 < length keys
some_keys o [] t u keys is = no_pass _ u keys is
some_keys o (v ∷ more) t u keys is =
    one_key v more keys t u (required _ _ _ (u, keys) (required _ _ _ (u, keys) is))

some_signers : (o : Options) (text : Result SignatureTextRecord Fault) (t : SignatureTextRecord)
    (keys : List PublicKeyValue) → judge_text o text ≡ Ok (t, keys) → 0 < length keys
some_signers o (Err e) t keys is = no_pass e t keys (required _ _ _ (t, keys) is)
some_signers o (Ok u) t keys is = some_keys o _ u t keys (required _ _ _ (t, keys) is)

neither : (a b : Bool) → (a || b) ≡ false → (a ≡ false) × (b ≡ false)
neither true b is = absurd (true≢false is)
neither false b is = (refl, is)

-- The error of a result.
abbrev fault_of : Result Unit (Refusal InstallFault) → Option InstallFault
fault_of (Err (Refused fault)) = Some fault
fault_of result = None

-- The run has the inputs w and the options o, and the clock shows a time in the set `times`. Throughout, n is
-- the number of bytes that were copied so far, and `inl` and `inr` select one of the causes in IsInputFault:
-- `inl` is the first cause, `inr (inl ..)` the second, and so on.
module _ (w : World) (o : Options) (times : Option ℕ → Bool) where
  -- `size` is the signed size. After n bytes were copied, this number of bytes of it is left. Nothing is said
  -- if there is no such number, as without a signed size.
  abbrev IsRest : ℕ → Option ℕ → Option ℕ → Type 0
  IsRest n size None = ⊤
  IsRest n size (Some left) = size ≡ Some (left + n)

  -- The invariant at CheckComment. The record was accepted, and the signature file passed the checks that
  -- need no Ed25519. `signers` are the keys with its key ID that were not tried yet; there is at least one.
  -- The keys that were tried have not signed the comment. The parts of this tuple are:
  --
  --   0, 1: the parsed signature file, and all given keys with its key ID
  --   2: the time that was passed in
  --   3: the options are those of the run
  --   4: the record was accepted, and `recorded` is the part of it that applies
  --   5, 6: the signature file was parsed, and passed the checks
  --   7: the first key that has signed the comment was not tried yet
  --   8, 9: the error and the version number are those of the comment
  --   10, 11: the two signatures are those of the signature file
  --   12, 13: no bytes were copied, so all of the signed size is left
  --   14: there is a key that was not tried yet
  abbrev IsJudged : ℕ → State → Type 0
  IsJudged n s =
      (text : SignatureTextRecord) × (keys : List PublicKeyValue) × (time : TimeIn times) × (s.options ≡ o)
      × (judge_record o w.found_record ≡ Ok s.recorded) × (w.text ≡ Ok text)
      × (judge_text o w.text ≡ Ok (text, keys))
      × (first_signer w text keys ≡ first_signer w text s.signers)
      × (s.fault ≡ comment_fault o s.recorded.version time.0 text.comments.trusted)
      × (s.version ≡ unwrap_or (version_in o.numbering text.comments.trusted) 0)
      × (s.signature ≡ text.signature.signature)
      × (s.comment_signature ≡ take 64 text.comments.signature)
      × (s.left ≡ signed_size o.list text.comments.trusted) × (n ≡ 0)
      × (0 < length s.signers)

  -- The comment is signed, and not rejected. The parts of this tuple are:
  --
  --   0: the record, the signature file and the key that has signed its comment
  --   1: the time that was passed in
  --   2: the options are those of the run
  --   3: `recorded` is that of part 0
  --   4: the comment is not rejected at this time
  --   5: the version number is that of the comment
  --   6, 7: the signature and the key are those of part 0
  abbrev IsCommented : State → Type 0
  IsCommented s =
      (g : IsSigned w o) × (time : TimeIn times) × (s.options ≡ o) × (s.recorded ≡ g.recorded)
      × (comment_fault o g.recorded.version time.0 g.text.comments.trusted ≡ None)
      × (s.version ≡ unwrap_or (version_in o.numbering g.text.comments.trusted) 0)
      × (s.signature ≡ g.text.signature.signature) × (key_of s.signers ≡ g.key)

  -- In addition, if there is a list, it was read (part 8), and it is signed and has an entry for the name
  -- (part 9). Parts 0 to 7 are those of IsCommented.
  abbrev IsAccepted : State → Type 0
  IsAccepted s =
      (g : IsSigned w o) × (time : TimeIn times) × (s.options ≡ o) × (s.recorded ≡ g.recorded)
      × (comment_fault o g.recorded.version time.0 g.text.comments.trusted ≡ None)
      × (s.version ≡ unwrap_or (version_in o.numbering g.text.comments.trusted) 0)
      × (s.signature ≡ g.text.signature.signature) × (key_of s.signers ≡ g.key)
      × HasListing w o s × IsListAccepted g

  -- Removes and adds the parts about the list.
  abbrev commented : (s : State) → IsAccepted s → IsCommented s
  commented s known = (known.0, known.1, known.2, known.3, known.4, known.5, known.6, known.7)

  abbrev accepted_with : (s : State) (known : IsCommented s) → HasListing w o s → IsListAccepted known.0
      → IsAccepted s
  accepted_with s known listing list =
      (known.0, known.1, known.2, known.3, known.4, known.5, known.6, known.7, listing, list)

  -- There is a recorded version, and the update is not newer.
  abbrev IsNotNewer : State → Type 0
  IsNotNewer s = (k : ℕ) × (s.recorded.version ≡ Some k) × (s.version ≤ k)

  -- `is_recorded` is true if the key has signed the digest in the record. If it is false, the update is not
  -- older than the recorded version, and the key has not signed the digest in the record, if there is one.
  abbrev IsCompared : (s : State) → IsAccepted s → Type 0
  IsCompared s known =
      s.is_recorded ≡ false → (fsm.is_rolling_back s ≡ false)
      × ((digest : List ℕ) → s.recorded.digest ≡ Some digest → accepts_digest known.0 digest ≡ false)

  -- The invariant: what holds when this operation is due. For the operations from SetPermissions to
  -- Installed, which are in the last line, the data is accepted.
  abbrev InvariantAt : ℕ → Operation → State → Type 0
  InvariantAt n fsm.Lock s = (s.options ≡ o) × (n ≡ 0)
  InvariantAt n fsm.ReadRecord s = (s.options ≡ o) × (n ≡ 0)
  InvariantAt n fsm.ReadSignature s =
      (s.options ≡ o) × (n ≡ 0) × (judge_record o w.found_record ≡ Ok s.recorded)
  InvariantAt n fsm.CheckComment s = IsJudged n s
  InvariantAt n fsm.ReadList s =
      (known : IsCommented s) × IsRest n (signed_size o.list known.0.text.comments.trusted) s.left
      × (is_some o.list ≡ true)
  InvariantAt n fsm.CheckList s =
      (known : IsCommented s) × IsRest n (signed_size o.list known.0.text.comments.trusted) s.left
      × (is_some o.list ≡ true) × HasListing w o s
  InvariantAt n fsm.CheckRecord s =
      (known : IsAccepted s) × IsRest n (signed_size o.list known.0.text.comments.trusted) s.left
      × IsNotNewer s
  InvariantAt n fsm.ReadTarget s =
      (known : IsAccepted s) × IsRest n (signed_size o.list known.0.text.comments.trusted) s.left
      × IsNotNewer s
      × IsCompared s known
  InvariantAt n fsm.CheckTarget s =
      (known : IsAccepted s) × IsRest n (signed_size o.list known.0.text.comments.trusted) s.left
      × IsNotNewer s
      × IsCompared s known
  InvariantAt n fsm.SyncTarget s =
      (known : IsAccepted s)
      × ((installed : List ℕ) × (accepts_data known.0 installed ≡ true))
  InvariantAt n fsm.SyncTargetName s =
      (known : IsAccepted s)
      × ((installed : List ℕ) × (accepts_data known.0 installed ≡ true))
  InvariantAt n fsm.AlreadyInstalled s =
      (known : IsAccepted s)
      × ((installed : List ℕ) × (accepts_data known.0 installed ≡ true))
  InvariantAt n fsm.WouldInstall s = IsAccepted s × (o.check ≡ true)
  InvariantAt n fsm.RemoveLeftovers s =
      (known : IsAccepted s) × IsRest n (signed_size o.list known.0.text.comments.trusted) s.left
  InvariantAt n fsm.CreateFile s =
      (known : IsAccepted s) × IsRest n (signed_size o.list known.0.text.comments.trusted) s.left
  InvariantAt n fsm.CopyData s =
      (known : IsAccepted s) × IsRest n (signed_size o.list known.0.text.comments.trusted) s.left
  InvariantAt n fsm.ReadBack s = IsAccepted s
  InvariantAt n fsm.CheckData s = IsAccepted s × (s.read ≡ w.update)
  InvariantAt n fsm.RemoveFiles s = ⊤
  InvariantAt n fsm.Rejected s = ⊤
  InvariantAt n fsm.Nothing s = ⊤
  InvariantAt n op s =
      (known : IsAccepted s) × (accepts_data known.0 w.update ≡ true)

  -- If this is the first error of the run, the event is a reason for it.
  abbrev HasReason : State → Event → Option InstallFault → Type 0
  HasReason s e error =
      (fault : InstallFault) → s.error ≡ None → error ≡ Some fault → IsReason w o times s e fault

  -- This event leads from state s to state t: the invariant holds in t, and an error that is new in t has a
  -- reason.
  abbrev KeepsInvariant : ℕ → State → Event → State → Type 0
  KeepsInvariant n s e t = InvariantAt n t.due t × HasReason s e t.error

  -- An event that does not change the error needs no reason.
  no_new_error : (s : State) (e : Event) → HasReason s e s.error
  no_new_error s e fault none some = absurd (none-some fault (sym none ∙ some))

  -- After an error, the temporary files of the run are removed, or the run has ended.
  after_rejection : (n : ℕ) (is : Bool) (t : State)
      → InvariantAt n (if is then fsm.RemoveFiles else fsm.Rejected) t
  after_rejection n true t = tt
  after_rejection n false t = tt

  -- The next lemmas have the names of the functions in Step.antt that choose the next state. Each proves
  -- KeepsInvariant for that function.
  reject : (n : ℕ) (fault : InstallFault) (s t : State) (e : Event) → IsReason w o times s e fault
      → KeepsInvariant n s e (fsm.reject fault t)
  reject n fault s t e why = (
    after_rejection n (has_files t.due) (fsm.reject fault t),
    λ other none some. subst (IsReason w o times s e) (same_Some fault other some) why,
  )

  -- A property of a conditional holds if it holds in both branches.
  both_branches : (n : ℕ) (is : Bool) (s x y : State) (e : Event) → (is ≡ true → KeepsInvariant n s e x)
      → (is ≡ false → KeepsInvariant n s e y) → KeepsInvariant n s e (if is then x else y)
  both_branches n true s x y e one other = one refl
  both_branches n false s x y e one other = other refl

  to_install : (n : ℕ) (check : Bool) (s : State) (known : IsAccepted s) → check ≡ o.check
      → IsRest n (signed_size o.list known.0.text.comments.trusted) s.left
      → InvariantAt n (if check then fsm.WouldInstall else fsm.RemoveLeftovers) (fsm.install s)
  to_install n true s known is sized = (known, sym is)
  to_install n false s known is sized = (known, sized)

  install : (n : ℕ) (s t : State) (e : Event) (known : IsAccepted t)
      → IsRest n (signed_size o.list known.0.text.comments.trusted) t.left → t.error ≡ s.error
      → KeepsInvariant n s e (fsm.install t)
  install n s t e known sized same = (
    to_install n t.options.check t known (ap (λ (x : Options). x.check) known.2) sized,
    λ fault none some. no_new_error s e fault none (sym same ∙ some),
  )

  not_newer : (r : Option ℕ) (v : ℕ) → (not (is_some r) || is_below r (Some v)) ≡ false
      → (k : ℕ) × (r ≡ Some k) × (v ≤ k)
  not_newer None v is = absurd (true≢false is)
  not_newer (Some k) v is = (k, refl, ltb-false k v is)

  compare : (n : ℕ) (s t : State) (e : Event) (known : IsAccepted t)
      → IsRest n (signed_size o.list known.0.text.comments.trusted) t.left → t.error ≡ s.error
      → KeepsInvariant n s e (fsm.compare t)
  compare n s t e known sized same =
      let unchanged : HasReason s e t.error =
      λ fault none some. no_new_error s e fault none (sym same ∙ some) in
      let in_place = install n s t e known sized same in
      both_branches n (fsm.is_newer t) s _ _ e (λ is. in_place) (λ old.
      both_branches n (is_some t.recorded.digest) s _ _ e
      (λ is. ((known, sized, not_newer t.recorded.version t.version old), unchanged)) (λ none.
      both_branches n (fsm.is_rolling_back t) s _ _ e (λ is. in_place)
      (λ is. (
        (
          known,
          sized,
          not_newer t.recorded.version t.version old,
          λ not. (is, λ digest some. absurd (true≢false (ap is_some (sym some) ∙ none))),
        ),
        unchanged,
      ))))

  after_record : (n : ℕ) (s : State) (found : Option (List ℕ)) (r : Result Recorded InstallFault)
      → InvariantAt n fsm.ReadRecord s → judge_record o w.found_record ≡ r
      → KeepsInvariant n s (RecordRead found) (fsm.after_record r s)
  after_record n s found (Ok recorded) (same, none) record_applies =
      ((same, none, record_applies), no_new_error s (RecordRead found))
  after_record n s found (Err fault) known record_applies = reject n fault s s (RecordRead found)
      (inl record_applies)

  after_signature : (n : ℕ) (s : State) (text : Result SignatureTextRecord Fault) (r : Passed)
      (time : Option ℕ) → times time ≡ true → InvariantAt n fsm.ReadSignature s → judge_text o w.text ≡ r
      → KeepsInvariant n s (SignatureRead text time) (fsm.after_signature r time s)
  after_signature n s text (Ok (t, keys)) time timed (same, none, record_applies) passed = (
    (
      t,
      keys,
      (time, timed),
      same,
      record_applies,
      text_parsed w o w.text t keys passed,
      passed,
      refl,
      rw same refl,
      rw same refl,
      refl,
      refl,
      rw same refl,
      none,
      some_signers o w.text t keys passed,
    ),
    no_new_error s (SignatureRead text time),
  )
  after_signature n s text (Err f) time timed known passed =
      reject n (Library f) s s (SignatureRead text time) (inr (inl (f, refl, passed)))

  first_signer_is : (t : SignatureTextRecord) (signers : List PublicKeyValue) → 0 < length signers
      → true ≡ w.accepts (t.signature.signature ++ t.comments.trusted) (key_of signers)
      (take 64 t.comments.signature) → first_signer w t signers ≡ Some (key_of signers)
  first_signer_is t [] some accepted = absurd (omega (arith, some))
  first_signer_is t (v ∷ more) some accepted = rw (sym accepted) refl

  rest_at_start : (n : ℕ) (size left : Option ℕ) → left ≡ size → n ≡ 0 → IsRest n size left
  rest_at_start n size None is none = tt
  rest_at_start n size (Some left) is none = sym is ∙ ap (λ (x : ℕ). Some x) (omega (arith, none))

  -- If Ed25519 checks a digest with the key and the signature in the state, its result is accepts_digest,
  -- because these are the key and the signature of the update.
  digest_accepted : (s : State) (known : IsCommented s) (digest : List ℕ) (accepted : Bool)
      → accepted ≡ w.accepts digest (key_of s.signers) s.signature → accepts_digest known.0 digest ≡ accepted
  digest_accepted s (g, time, same, recorded, none, version, signature, key) digest accepted is =
      sym (rw (key, signature) at is)

  -- The same for the digest that the signature must be valid for: that of the data that was read or, with a
  -- list, of the list.
  update_accepted : (s : State) (known : IsCommented s) (accepted : Bool) → HasListing w o s
      → accepted ≡ w.accepts (signed_digest s) (key_of s.signers) s.signature
      → accepts_digest known.0 (digest_to_sign o.list w.list s.read) ≡ accepted
  update_accepted s known accepted listing is =
      digest_accepted s known (digest_to_sign o.list w.list s.read) accepted
      (is ∙ ap (λ d. w.accepts d (key_of s.signers) s.signature) (digest_is w o s known.2 listing))

  -- The comment is signed and accepted. The list is due next, if there is one.
  list_or_compare : (listed : Bool) (n : ℕ) (s t : State) (known : IsCommented t) → is_some o.list ≡ listed
      → IsRest n (signed_size o.list known.0.text.comments.trusted) t.left → t.error ≡ s.error
      → KeepsInvariant n s (Answered true) (if listed then fsm.go fsm.ReadList t else fsm.compare t)
  list_or_compare true n s t known some sized same =
      ((known, sized, some), λ fault none found. no_new_error s (Answered true) fault none (sym same ∙ found))
  list_or_compare false n s t known not sized same =
      compare n s t (Answered true)
      (accepted_with t known (λ some. absurd (true≢false (sym some ∙ not)))
      (λ long is. absurd (true≢false (sym (ap is_some is) ∙ not)))) sized same

  -- The comment is signed. It may be rejected with this error.
  after_signed_comment : (n : ℕ) (s : State) (time : TimeIn times) (g : IsSigned w o)
      (fault : Option InstallFault)
      → s.options ≡ o → s.recorded ≡ g.recorded
      → comment_fault o g.recorded.version time.0 g.text.comments.trusted ≡ fault
      → s.version ≡ unwrap_or (version_in o.numbering g.text.comments.trusted) 0
      → s.signature ≡ g.text.signature.signature → key_of s.signers ≡ g.key
      → IsRest n (signed_size o.list g.text.comments.trusted) s.left
      → KeepsInvariant n s (Answered true) (fsm.after_comment fault (record s { is_signed = true }))
  after_signed_comment n s time g None same recorded none version signature key left =
      list_or_compare (is_some s.options.list) n s (record s { is_signed = true })
      (g, time, same, recorded, none, version, signature, key)
      (ap (λ (x : Options). is_some x.list) (sym same)) left refl
  after_signed_comment n s time g (Some fault) same recorded some version signature key left =
      reject n fault s (record s { is_signed = true }) (Answered true) (inr (inr (inr (inl
      (g, time, some)))))

  after_comment : (n : ℕ) (s : State) (fault : Option InstallFault) (judged : IsJudged n s)
      → s.fault ≡ fault → true ≡ w.accepts (s.signature ++ judged.0.comments.trusted) (key_of s.signers)
      s.comment_signature
      → KeepsInvariant n s (Answered true) (fsm.after_comment fault (record s { is_signed = true }))
  after_comment n s fault (
    text,
    keys,
    time,
    same,
    record_applies,
    parsed,
    passed,
    signers,
    is_fault,
    version,
    signature,
    second,
    left,
    none,
    some,
  )
      is accepted =
      let g : IsSigned w o = record {
        recorded = s.recorded;
        record_applies = record_applies;
        text = text;
        keys = keys;
        passed = passed;
        key = key_of s.signers;
        signer = signers ∙ first_signer_is text s.signers some (rw (signature, second) at accepted);
      } in
      after_signed_comment n s time g fault same refl (sym is_fault ∙ is) version signature refl
      (rest_at_start n (signed_size o.list text.comments.trusted) s.left left none)

  next_key : (n : ℕ) (s : State) (signers : List PublicKeyValue) → s.due ≡ fsm.CheckComment
      → (judged : IsJudged n (record s { signers = signers }))
      → false ≡ w.accepts (s.signature ++ judged.0.comments.trusted) (key_of signers)
      s.comment_signature
      → KeepsInvariant n s (Answered false) (fsm.next_key signers s)
  next_key n s [] at (
    text,
    keys,
    time,
    same,
    record_applies,
    parsed,
    passed,
    first,
    fault,
    version,
    signature,
    second,
    left,
    none,
    some,
  ) wrong = reject n _ s s (Answered false) (inr (inr (inl (refl, (text, keys, passed, first)))))
  next_key n s (v ∷ []) at (
    text,
    keys,
    time,
    same,
    record_applies,
    parsed,
    passed,
    first,
    fault,
    version,
    signature,
    second,
    left,
    none,
    some,
  ) wrong =
      let wrong_key = rw (signature, second) at wrong in
      reject n _ s s (Answered false)
      (inr (inr (inl (refl, (text, keys, passed, rw (sym wrong_key) at first)))))
  next_key n s (v ∷ u ∷ more) at (
    text,
    keys,
    time,
    same,
    record_applies,
    parsed,
    passed,
    first,
    fault,
    version,
    signature,
    second,
    left,
    none,
    some,
  ) wrong =
      let wrong_key = rw (signature, second) at wrong in (
        rw at (
          text,
          keys,
          time,
          same,
          record_applies,
          parsed,
          passed,
          rw (sym wrong_key) at first,
          fault,
          version,
          signature,
          second,
          left,
          none,
          omega arith,
        ),
        no_new_error s (Answered false),
      )

  -- The data that was read is accepted (accepts_data) exactly if Ed25519 accepts the signature and, with a
  -- list, the data has the digest in the list.
  data_answered : (s : State) (known : IsAccepted s) (accepted : Bool)
      → accepted ≡ w.accepts (signed_digest s) (key_of s.signers) s.signature
      → accepts_data known.0 s.read ≡ (accepted && fsm.is_listed s)
  data_answered s known accepted is =
      let signed = update_accepted s (commented s known) accepted known.8 is in
      let listed = listed_is w o s known.2 known.8 in
      λ i. signed i && sym listed i

  -- The invariant holds after Ed25519 has accepted the signature of the list.
  after_listing : (n : ℕ) (s : State) (listed : Result ListedDigest InstallFault) (known : IsCommented s)
      → IsRest n (signed_size o.list known.0.text.comments.trusted) s.left → is_some o.list ≡ true
      → HasListing w o s → s.listing.listed ≡ listed
      → accepts_digest known.0 (digest_to_sign o.list w.list s.read) ≡ true
      → KeepsInvariant n s (Answered true) (fsm.after_listing listed (record s { is_list_signed = true }))
  after_listing n s (Ok digest) known sized some listing is signed =
      compare n s (record s { is_list_signed = true }) (Answered true)
      (accepted_with (record s { is_list_signed = true }) known listing (λ long mode. (
        ap (accepts_digest known.0) (sym (list_digest o.list w.list s.read long mode)) ∙ signed,
        (digest, listed_as w o s long mode listing ∙ is),
      ))) sized refl
  after_listing n s (Err fault) known sized some listing is signed =
      let (long, mode) = value_if_some o.list some in
      reject n fault s (record s { is_list_signed = true }) (Answered true)
      (inr (inr (inr (inr (inr (inr (inr (inl (
        known.0,
        ap (accepts_digest known.0) (same_digest o.list w.list w.update s.read some) ∙ signed,
        (long, mode, listed_as w o s long mode listing ∙ is),
      )))))))))

  list_refused : (n : ℕ) (s : State) (known : IsCommented s) → is_some o.list ≡ true
      → accepts_digest known.0 (digest_to_sign o.list w.list s.read) ≡ false
      → KeepsInvariant n s (Answered false) (fsm.reject (Library (Named named.SignatureRefused)) s)
  list_refused n s known some wrong =
      reject n _ s s (Answered false)
      (inr (inr (inr (inr (inr (inr (inl (
        known.0,
        refl,
        ap (accepts_digest known.0) (same_digest o.list w.list w.update s.read some) ∙ wrong,
      ))))))))

  -- The key has not signed the digest in the record.
  recorded_differs : (s : State) (digest : List ℕ) (known : IsAccepted s)
      → false ≡ w.accepts (unwrap_or s.recorded.digest []) (key_of s.signers) s.signature
      → s.recorded.digest ≡ Some digest → accepts_digest known.0 digest ≡ false
  recorded_differs s digest known is some = digest_accepted s (commented s known) digest false (rw some at is)

  same_number : (r : Option ℕ) (v k : ℕ) → r ≡ Some k → v ≤ k → is_below (Some v) r ≡ false → v ≡ k
  same_number None v k is older not = absurd (none-some k is)
  same_number (Some j) v k is older not = omega (arith, same_Some j k is, older, ltb-false v j not)

  same_version : (s : State) (known : IsAccepted s) → IsNotNewer s → IsCompared s known
      → (s.is_recorded || s.options.again) ≡ false → accepts_data known.0 s.read ≡ false
      → IsSameVersion known.0
  same_version s (g, time, same, recorded, none, version, signature, key, listing, list)
      (k, is_k, older) compared may_not is =
      let both = neither s.is_recorded s.options.again may_not in
      let others = compared both.0 in
      record {
        not_again = sym (ap (λ (x : Options). x.again) same) ∙ both.1;
        version = k;
        recorded = sym (ap (λ (r : Recorded). r.version) recorded) ∙ is_k;
        offered = sym version ∙ same_number s.recorded.version s.version k is_k older others.0;
        installed = s.read;
        installed_differs = is;
        recorded_differs =
            λ digest some. others.1 digest (ap (λ (r : Recorded). r.digest) recorded ∙ some);
      }

  -- The number of bytes that are left after a piece of k bytes was copied.
  rest_after_piece : (n k left : ℕ) → nat_le k left ≡ true → left + n ≡ (left - k) + (n + k)
  rest_after_piece n k left enough = omega (arith, leb-true k left enough)

  -- If there are more or fewer bytes than the signed size allows, the data does not have this size.
  too_long : (n k left : ℕ) → nat_le k left ≡ false → n + k ≤ length w.update → length w.update ≢ left + n
  too_long n k left more fits same = omega (arith, leb-false k left more, fits, same)

  too_short : (n left : ℕ) → (left == 0) ≡ false → n ≡ length w.update → length w.update ≢ left + n
  too_short n left some all same =
      true≢false (sym (eq-eqb left 0 (omega (arith, all, same))) ∙ some)

  after_digest : (n : ℕ) (s : State) (accepted : Bool) → InvariantAt n fsm.CheckRecord s
      → accepted ≡ w.accepts (unwrap_or s.recorded.digest []) (key_of s.signers) s.signature
      → KeepsInvariant n s (Answered accepted) (fsm.after_digest accepted s)
  after_digest n s true (known, sized, older) is =
      ((known, sized, older, λ not. absurd (true≢false not)), no_new_error s (Answered true))
  after_digest n s false (known, sized, older) is =
      both_branches n (fsm.is_rolling_back s) s _ _ (Answered false)
      (λ back. install n s s (Answered false) known sized refl)
      (λ not. (
        (known, sized, older, λ no_digest. (not, λ digest some. recorded_differs s digest known is some)),
        no_new_error s (Answered false),
      ))

  target_is_update : (n : ℕ) (check : Bool) (t : State) (known : IsAccepted t)
      → ((installed : List ℕ) × (accepts_data known.0 installed ≡ true))
      → InvariantAt n (if check then fsm.AlreadyInstalled else fsm.SyncTarget) t
  target_is_update n true t known is = (known, is)
  target_is_update n false t known is = (known, is)

  after_target : (n : ℕ) (s : State) (accepted is_update : Bool) → (known : InvariantAt n fsm.CheckTarget s)
      → accepts_data known.0.0 s.read ≡ is_update
      → KeepsInvariant n s (Answered accepted) (fsm.after_target is_update s)
  after_target n s accepted true (known, sized, older, compared) is = (
    target_is_update n s.options.check (fsm.after_target true s) known (s.read, is),
    no_new_error s (Answered accepted),
  )
  after_target n s accepted false (known, sized, older, compared) is =
      both_branches n (s.is_recorded || s.options.again) s _ _ (Answered accepted)
      (λ may. install n s s (Answered accepted) known sized refl)
      (λ may_not. reject n SameNumber s s (Answered accepted)
      (inr (inr (inr (inr (inl (known.0, refl, same_version s known older compared may_not is)))))))

  after_data : (n : ℕ) (s : State) (listed : Bool) (known : IsAccepted s) → fsm.is_listed s ≡ listed
      → s.read ≡ w.update → accepts_digest known.0 (digest_to_sign o.list w.list s.read) ≡ true
      → KeepsInvariant n s (Answered true) (fsm.after_data listed s)
  after_data n s true known listed whole signed =
      let fits = sym (listed_is w o s known.2 known.8) ∙ listed in (
        (known, ap (λ m. accepts_data known.0 m) (sym whole) ∙ and_true _ _ signed fits),
        no_new_error s (Answered true),
      )
  after_data n s false known not whole signed =
      let other = sym (listed_is w o s known.2 known.8) ∙ not in
      reject n _ s s (Answered true)
      (inr (inr (inr (inr (inr (inr (inr (inr (
        known.0,
        refl,
        ap (λ m. accepts_digest known.0 (digest_to_sign o.list w.list m)) (sym whole) ∙ signed,
        ap (fits_list o.list w.list w.name) (sym whole) ∙ other,
      )))))))))

  after_piece : (n k : ℕ) (s : State) (left : Option ℕ) → s.due ≡ fsm.CopyData → s.left ≡ left
      → (known : IsAccepted s) → IsRest n (signed_size o.list known.0.text.comments.trusted) left
      → n + k ≤ length w.update → KeepsInvariant (n + k) s (PieceCopied k) (fsm.after_piece k left s)
  after_piece n k s None at is_left known sized fits =
      (rw (at, is_left) (known, tt), no_new_error s (PieceCopied k))
  after_piece n k s (Some left) at is_left known sized fits =
      both_branches (n + k) (nat_le k left) s _ _ (PieceCopied k)
      (λ enough. (
        rw at (known, sized ∙ ap (λ (x : ℕ). Some x) (rest_after_piece n k left enough)),
        no_new_error s (PieceCopied k),
      ))
      (λ more. reject (n + k) OtherSize s s (PieceCopied k)
      (inr (inr (inr (inr (inr (inl (known.0, refl, (left + n, sized, too_long n k left more fits)))))))))

  after_copy : (n : ℕ) (s : State) (left : Option ℕ) → (known : IsAccepted s)
      → IsRest n (signed_size o.list known.0.text.comments.trusted) left → n ≡ length w.update
      → KeepsInvariant n s Done (fsm.after_copy left s)
  after_copy n s None known sized all = (known, no_new_error s Done)
  after_copy n s (Some left) known sized all =
      both_branches n (left == 0) s _ _ Done (λ nothing. (known, no_new_error s Done))
      (λ some. reject n OtherSize s s Done
      (inr (inr (inr (inr (inr (inl (known.0, refl, (left + n, sized, too_short n left some all)))))))))

  -- An event may be rejected as NotDue. Then nothing has to be proved.
  holds_if_some : (n : ℕ) (is : Bool) (s t : State) (e : Event) → KeepsInvariant n s e t
      → IfSome (if is then Some t else None) (KeepsInvariant n s e)
  holds_if_some n true s t e holds = holds
  holds_if_some n false s t e holds = tt

  -- A true event at a time in the set keeps the invariant, and if it sets an error, it is a reason for it.
  op_keeps : (n : ℕ) (op : Operation) (e : Event) (s : State) → s.due ≡ op → InvariantAt n op s
      → IsTrueEvent w n s op e → IsAtTimeIn times e → IfSome (after op e s) (KeepsInvariant (count n e) s e)
  op_keeps n fsm.Nothing (Failed f) s at known is timed = tt
  op_keeps n fsm.Installed (Failed f) s at known is timed = tt
  op_keeps n fsm.AlreadyInstalled (Failed f) s at known is timed = tt
  op_keeps n fsm.WouldInstall (Failed f) s at known is timed = tt
  op_keeps n fsm.Rejected (Failed f) s at known is timed = tt
  op_keeps n fsm.RemoveFiles (Failed f) s at known is timed =
      holds_if_some n (fsm.is_failure f) s (fsm.go fsm.Rejected s) (Failed f) (tt, no_new_error s (Failed f))
  op_keeps n op (Failed f) s at known is timed =
      holds_if_some n (fsm.is_failure f) s (fsm.reject (fsm.failure s.due f) s) (Failed f)
      (reject n (fsm.failure s.due f) s s (Failed f) refl)
  op_keeps n fsm.Lock InUse s at known is timed = reject n _ s s InUse refl
  op_keeps n fsm.ReadRecord (RecordRead found) s at known is timed =
      after_record n s found (judge_record s.options found) known (rw (known.0, is) refl)
  op_keeps n fsm.ReadSignature (SignatureRead text time) s at known is timed =
      after_signature n s text (judge_text s.options text) time timed known (rw (known.0, is) refl)
  op_keeps n fsm.CheckComment (Answered true) s at known is timed = after_comment n s s.fault known refl
      (is known.0 known.5)
  op_keeps n fsm.CheckComment (Answered false) s at known is timed = next_key n s s.signers at known
      (is known.0 known.5)
  op_keeps n fsm.ReadList (ListRead list name) s at (known, sized, some) is timed = (
    (known, sized, some, λ listed. rw (ap (λ (x : Options). x.list) known.2, is.0, is.1) refl),
    no_new_error s (ListRead list name),
  )
  op_keeps n fsm.CheckList (Answered true) s at (known, sized, some, listing) is timed =
      after_listing n s s.listing.listed known sized some listing refl
      (update_accepted s known true listing is)
  op_keeps n fsm.CheckList (Answered false) s at (known, sized, some, listing) is timed =
      list_refused n s known some (update_accepted s known false listing is)
  op_keeps n fsm.CheckRecord (Answered accepted) s at known is timed = after_digest n s accepted known is
  op_keeps n fsm.ReadTarget (PieceRead bytes) s at known is timed =
      (rw at known, no_new_error s (PieceRead bytes))
  op_keeps n fsm.ReadTarget TargetMissing s at (known, sized, older, compared) is timed =
      install n s s TargetMissing known sized refl
  op_keeps n fsm.CheckTarget (Answered accepted) s at known is timed =
      after_target n s accepted (accepted && fsm.is_listed s) known (data_answered s known.0 accepted is)
  op_keeps n fsm.CopyData (PieceCopied k) s at (known, sized) is timed =
      after_piece n k s s.left at refl known sized is.1
  op_keeps n fsm.CopyData Done s at (known, sized) is timed = after_copy n s s.left known sized is
  op_keeps n fsm.ReadBack (PieceRead bytes) s at known is timed =
      (rw at known, no_new_error s (PieceRead bytes))
  op_keeps n fsm.ReadBack Done s at known is timed = ((known, is), no_new_error s Done)
  op_keeps n fsm.CheckData (Answered true) s at (known, whole) is timed =
      after_data n s (fsm.is_listed s) known refl whole
      (update_accepted s (commented s known) true known.8 is)
  op_keeps n fsm.CheckData (Answered false) s at (known, whole) is timed =
      reject n _ s s (Answered false)
      (inr (inr (inr (inr (inr (inr (inl (
        known.0,
        refl,
        ap (λ m. accepts_digest known.0 (digest_to_sign o.list w.list m)) (sym whole)
            ∙ update_accepted s (commented s known) false known.8 is,
      ))))))))
  op_keeps n fsm.RemoveFiles Done s at known is timed = (tt, no_new_error s Done)
  op_keeps n fsm.Nothing Done s at known is timed = tt
  op_keeps n fsm.Installed Done s at known is timed = tt
  op_keeps n fsm.AlreadyInstalled Done s at known is timed = tt
  op_keeps n fsm.WouldInstall Done s at known is timed = tt
  op_keeps n fsm.Rejected Done s at known is timed = tt
  op_keeps n fsm.ReadRecord Done s at known is timed = tt
  op_keeps n fsm.ReadSignature Done s at known is timed = tt
  op_keeps n fsm.CheckComment Done s at known is timed = tt
  op_keeps n fsm.ReadList Done s at known is timed = tt
  op_keeps n fsm.CheckList Done s at known is timed = tt
  op_keeps n fsm.CheckRecord Done s at known is timed = tt
  op_keeps n fsm.CheckTarget Done s at known is timed = tt
  op_keeps n fsm.CheckData Done s at known is timed = tt
  op_keeps n op Done s at known is timed = (known, no_new_error s Done)
  op_keeps n op e s at known is timed = tt

  -- The invariant holds for the state that `step` returns, if the event fits.
  answer_keeps : (n : ℕ) (e : Event) (s : State) (next : Option State) → is_some next ≡ true
      → IfSome next (KeepsInvariant (count n e) s e)
      → InvariantAt (count n e) (answer s next).1.due (answer s next).1
  answer_keeps n e s (Some t) fits holds = holds.0
  answer_keeps n e s None fits holds = absurd (true≢false (sym fits))

  -- The invariant holds after each run that starts in a state in which it holds.
  invariant_after : (n : ℕ) (s : State) (events : List Event) (t : State) → InvariantAt n s.due s
      → IsRun (λ n s e. IsLawfulEvent w n s e × IsAtTimeIn times e) n s events t
      → InvariantAt (total n events) t.due t
  invariant_after n s [] t known is = rw is known
  invariant_after n s (e ∷ more) t known (((fits, is), timed), run) =
      invariant_after (count n e) (step s e).1 more t
      (answer_keeps n e s (after s.due e s) fits (op_keeps n s.due e s refl known is timed)) run

  invariant_at_begin : (check : Bool) → InvariantAt 0 (if check then fsm.ReadRecord else fsm.Lock) (begin o)
  invariant_at_begin true = (refl, refl)
  invariant_at_begin false = (refl, refl)

  -- If a run has ended without an error, the invariant says what IsEnd says.
  end_is_true : (n : ℕ) (op : Operation) (s : State) → InvariantAt n op s → IsEnd w o times op
  end_is_true n fsm.Installed s
      ((g, time, same, recorded, none, version, signature, key, listing, list), whole) =
      (g, time, none, whole)
  end_is_true n fsm.AlreadyInstalled s
      ((g, time, same, recorded, none, version, signature, key, listing, list), present) =
      (g, time, none, present)
  end_is_true n fsm.WouldInstall s
      ((g, time, same, recorded, none, version, signature, key, listing, list), check) =
      (check, (g, time, none, list))
  end_is_true n op s known = tt

  -- A step returns an error only if the run had none before.
  first_error : (before now : Option InstallFault) (fault : InstallFault)
      → fsm.result_of before now ≡ Err (Refused fault) → (before ≡ None) × (now ≡ Some fault)
  first_error None (Some f) fault is = (refl, ap fault_of is)
  first_error None None fault is = absurd (none-some fault (ap fault_of is))
  first_error (Some f) now fault is = absurd (none-some fault (ap fault_of is))

  -- The error that a step returns has a reason.
  error_has_reason : (n : ℕ) (s : State) (e : Event) (next : Option State) (fault : InstallFault)
      → IfSome next (KeepsInvariant n s e) → (answer s next).0 ≡ Err (Refused fault)
      → IsReason w o times s e fault
  error_has_reason n s e (Some t) fault holds is =
      let both = first_error s.error t.error fault is in holds.1 fault both.0 both.1
  error_has_reason n s e None fault holds is = absurd (none-some fault (ap fault_of is))

  invariant_after_run : (events : List Event) (t : State)
      → IsRun (λ n s e. IsLawfulEvent w n s e × IsAtTimeIn times e) 0 (begin o) events t
      → InvariantAt (total 0 events) t.due t
  invariant_after_run events t run = invariant_after 0 (begin o) events t (invariant_at_begin o.check) run

-- If a step returns an error, IsReason holds: an operation has failed, the lock is in use, or an input of the
-- run is the cause of the error.
pub errors_are_true : (w : World) (o : Options) (times : Option ℕ → Bool) (events : List Event) (s : State)
    (e : Event) (fault : InstallFault)
    → IsRun (λ n s e. IsLawfulEvent w n s e × IsAtTimeIn times e) 0 (begin o) events s
    → IsLawfulEvent w (total 0 events) s e → IsAtTimeIn times e → (step s e).0 ≡ Err (Refused fault)
    → IsReason w o times s e fault
errors_are_true w o times events s e fault run (fits, is) timed refuses =
    error_has_reason w o times (count (total 0 events) e) s e (after s.due e s) fault
    (op_keeps w o times (total 0 events) s.due e s refl (invariant_after_run w o times events s run) is timed)
    refuses

-- IsEnd holds after each run: if it has ended with Installed, AlreadyInstalled or WouldInstall, a given key
-- has signed the trusted comment, the comment is not rejected at a time in the set, and the key has also
-- signed the data that was installed, data that is installed already, or, in a check, the list if there is
-- one. If the signature is that of a list, the data must have the digest in the list.
pub ends_are_true : (w : World) (o : Options) (times : Option ℕ → Bool) (events : List Event) (t : State)
    → IsRun (λ n s e. IsLawfulEvent w n s e × IsAtTimeIn times e) 0 (begin o) events t → IsEnd w o times t.due
ends_are_true w o times events t run =
    end_is_true w o times (total 0 events) t.due t (invariant_after_run w o times events t run)
