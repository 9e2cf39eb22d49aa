-- Proves that only an update that a given key has signed is renamed to the target, and that its record is
-- renamed before it, whatever fails.
use Rattle.std.specs.Prelude.{◌≡◌, ◌≤◌, ⊤, ℕ, Bool, true, false, List, [], ◌∷◌, Option, Some, None, Result}
use Rattle.std.specs.Prelude.{Ok, Err, IfSome, ◌++◌, ◌||◌, ◌&&◌, ◌==◌, nat_le, nat_lt, not, is_some}
use Rattle.std.specs.Prelude.{if◌then◌else◌, take}
use Rattle.std.proofs.Common.{refl, inl, inr, sym, ap, ◌∙◌, append_assoc, arith, le_of_eq, ltb-false}
use Rattle.std.proofs.Common.{true≢false, unwrap_or}
use Rattle.std.proofs.lemmas.Option.{none-some, same_Some}
use Rattle.minisign.specs.SignatureText.{SignatureTextRecord}
use Rattle.minisign_external.specs.declared.public_keys.PublicKeyValue.{PublicKeyValue}
use Rattle.minisign.specs.Texts.{require}
use Rattle.minisign_base.specs.declared.faults.NamedFault.{NamedFault}
use Rattle.minisign_install.specs.Decisions.{Options, Recorded, comment_fault, is_below, judge_keys}
use Rattle.minisign_install.specs.Decisions.{judge_record, judge_text, judge_version, names_other_key}
use Rattle.minisign_install.specs.Decisions.{nothing_recorded, recorded_version, version_in}
use Rattle.minisign_install.specs.Faults.{DigestMismatch, Fault, InstallFault, Library, OtherSize}
use Rattle.minisign_install.specs.Faults.{SameNumber}
use Rattle.minisign_install.specs.Listings.{fits_list}
use Rattle.minisign_install.specs.Step.{Event, Done, InUse, Failed, RecordRead, SignatureRead, Answered}
use Rattle.minisign_install.specs.Step.{ListRead, PieceRead, TargetMissing, PieceCopied, State, begin}
use Rattle.minisign_install.specs.Step.{is_listed, step}
use Rattle.minisign_install.specs.Step.{Operation, after, answer, comment_question, data_question}
use Rattle.minisign_install.specs.Step.{has_files, new_record}
use Rattle.minisign_install.specs.Step as fsm
use Rattle.minisign_install.specs.StepRuns.{IsTrueEvent, World, count, Changes, Disk, IsSafe, HasVersion}
use Rattle.minisign_install.specs.StepRuns.{HasListing, ComparesNoVersion, IsUpdate, Runs, accepts_question}
use Rattle.minisign_install.proofs.Listings.{listed_is}
use Rattle.minisign_lists.specs.declared.digests.ListedDigest.{ListedDigest}

-- If a required check is followed by others and all succeed, the others succeed.
pub required : {V : Type 0} (holds : Bool) (fault : NamedFault) (more : Result V Fault) (v : V)
    → require holds fault more ≡ Ok v → more ≡ Ok v
required true fault more v is = is
required false fault more v is = cc is

-- The type of the results of judge_text.
abbrev pub Passed : Type 0
Passed = Result (SignatureTextRecord × List PublicKeyValue) Fault

-- The result of checks that succeed, and below of checks that fail.
abbrev pub pass : SignatureTextRecord → List PublicKeyValue → Passed
pass t keys = Ok (t, keys)

abbrev stop : Fault → Passed
stop e = Err e

-- The two are different.
pub no_pass : {P : Type 0} (e : Fault) (t : SignatureTextRecord) (keys : List PublicKeyValue)
    → stop e ≡ pass t keys → P
no_pass e t keys is = cc is

abbrev text_of : SignatureTextRecord → Passed → SignatureTextRecord
text_of t (Ok (u, keys)) = u
text_of t (Err e) = t

one_pass : (t u : SignatureTextRecord) (keys others : List PublicKeyValue) → pass t keys ≡ pass u others
    → t ≡ u
one_pass t u keys others is = ap (text_of t) is

-- The version number in the contents of a record.
abbrev version_of : Result Recorded InstallFault → Option ℕ
version_of (Ok r) = r.version
version_of (Err e) = None

-- If the record is ignored, there is no recorded version, and --first is given (first_is_set).
no_version : (first : Bool) (e : InstallFault) (r : Recorded)
    → (if first then Ok nothing_recorded else Err e) ≡ Ok r → None ≡ r.version
no_version true e r is = ap version_of is
no_version false e r is = ap version_of is

first_is_set : (first : Bool) (e : InstallFault) (r : Recorded)
    → (if first then Ok nothing_recorded else Err e) ≡ Ok r → first ≡ true
first_is_set true e r is = refl
first_is_set false e r is = cc is

applies_or_not : (compares_none : Bool) (n k : ℕ) (key digest : Option (List ℕ))
    → version_of (if compares_none then Ok nothing_recorded
    else Ok (record { version = Some n; key = key; digest = digest })) ≡ Some k
    → Some n ≡ Some k
applies_or_not true n k key digest is = absurd (none-some k is)
applies_or_not false n k key digest is = is

both_are_set : (given other : Bool) (n : ℕ) (key digest : Option (List ℕ))
    → version_of (if given && other then Ok nothing_recorded
    else Ok (record { version = Some n; key = key; digest = digest })) ≡ None
    → (given ≡ true) × (other ≡ true)
both_are_set true true n key digest is = (refl, refl)
both_are_set true false n key digest is = absurd (none-some n (sym is))
both_are_set false other n key digest is = absurd (none-some n (sym is))

module _ (w : World) (o : Options) where
  same_text : (signers : List PublicKeyValue) (t u : SignatureTextRecord) (keys : List PublicKeyValue)
      → judge_keys o signers t ≡ Ok (u, keys) → t ≡ u
  same_text [] t u keys is = no_pass _ u keys is
  same_text (v ∷ more) t u keys is =
      one_pass t u (v ∷ more) keys (required _ _ _ (u, keys) (required _ _ _ (u, keys) is))

  -- If the checks of the signature file succeed, it was parsed, and the result has its contents.
  pub text_parsed : (text : Result SignatureTextRecord Fault) (t : SignatureTextRecord)
      (keys : List PublicKeyValue) → judge_text o text ≡ Ok (t, keys) → text ≡ Ok t
  text_parsed (Err e) t keys is = no_pass e t keys (required _ _ _ (t, keys) is)
  text_parsed (Ok u) t keys is =
      ap (λ x. Ok x) (same_text _ u t keys (required _ _ _ (t, keys) is))

  used_record : (bytes : List ℕ) (version : Option ℕ) (r : Recorded) (k : ℕ)
      → judge_version o bytes version ≡ Ok r → r.version ≡ Some k → version ≡ Some k
  used_record bytes None r k is some = absurd (none-some k (no_version o.first _ r is ∙ some))
  used_record bytes (Some n) r k is some =
      applies_or_not ((o.first || o.new_key) && names_other_key o bytes) n k _ _
      (ap version_of is ∙ some)

  -- If there is a recorded version, it is that of the record.
  has_version : (found : Option (List ℕ)) (r : Recorded) (k : ℕ) → judge_record o found ≡ Ok r
      → r.version ≡ Some k → HasVersion o found k
  has_version None r k is some = absurd (none-some k (no_version o.first _ r is ∙ some))
  has_version (Some bytes) r k is some = (bytes, refl, used_record bytes _ r k is some)

  compares_none : (bytes : List ℕ) (version : Option ℕ) (r : Recorded)
      → recorded_version o.numbering bytes ≡ version
      → judge_version o bytes version ≡ Ok r → r.version ≡ None → ComparesNoVersion o (Some bytes)
  compares_none bytes None r reads is none = inl (first_is_set o.first _ r is, reads)
  compares_none bytes (Some n) r reads is none =
      inr (both_are_set (o.first || o.new_key) (names_other_key o bytes) n _ _ (ap version_of is ∙ none))

  -- Otherwise no version is compared, as ComparesNoVersion says.
  not_compared : (found : Option (List ℕ)) (r : Recorded) → judge_record o found ≡ Ok r
      → r.version ≡ None → ComparesNoVersion o found
  not_compared None r is none = first_is_set o.first _ r is
  not_compared (Some bytes) r is none =
      compares_none bytes (recorded_version o.numbering bytes) r refl is none

  -- The invariant at CheckComment: the record was accepted, and the signature file passed the checks that
  -- need no Ed25519. The parts of this tuple are:
  --
  --   0, 1: the parsed signature file, and all given keys with its key ID
  --   2: those of the keys that were tried already
  --   3: the time that was passed in
  --   4: the options are those of the run
  --   5: the record was accepted, and `recorded` is the part of it that applies
  --   6, 7: the signature file was parsed, and passed the checks
  --   8: the keys are those that were tried and those that were not (`signers`)
  --   9, 10: the error and the version number are those of the comment
  --   11, 12: the two signatures are those of the signature file
  abbrev pub IsJudged : State → Type 0
  IsJudged s =
      (text : SignatureTextRecord) × (keys : List PublicKeyValue) × (others : List PublicKeyValue)
      × (time : Option ℕ) × (s.options ≡ o) × (judge_record o w.found_record ≡ Ok s.recorded)
      × (w.text ≡ Ok text)
      × (judge_text o (Ok text) ≡ Ok (text, keys)) × (others ++ s.signers ≡ keys)
      × (s.fault ≡ comment_fault o s.recorded.version time text.comments.trusted)
      × (s.version ≡ unwrap_or (version_in o.numbering text.comments.trusted) 0)
      × (s.signature ≡ text.signature.signature)
      × (s.comment_signature ≡ take 64 text.comments.signature)

  -- The comment is not rejected, and the first of the signers has signed it.
  abbrev pub IsCommented : State → Type 0
  IsCommented s =
      (judged : IsJudged s) × (s.fault ≡ None)
      × (accepts_question w (comment_question s judged.0.comments.trusted) ≡ true)

  -- In addition, the list was read, if there is one.
  abbrev pub IsAccepted : State → Type 0
  IsAccepted s = IsCommented s × HasListing w o s

  -- In addition, this key has signed the data that was read, or the list in which it is listed.
  abbrev pub IsWhole : State → Type 0
  IsWhole s =
      IsAccepted s × (accepts_question w (data_question fsm.CheckData s) ≡ true)
      × (fits_list o.list w.list w.name s.read ≡ true)

  -- The version number that is recorded next is not below the recorded one.
  not_below : (r : Option ℕ) (v k : ℕ) → r ≡ Some k
      → k ≤ (if is_below (Some v) r then unwrap_or r v else v)
  not_below None v k is = absurd (none-some k is)
  not_below (Some j) v k is = elim (nat_lt v j) as (λ b. nat_lt v j ≡ b → k ≤ (if b then j else v)) [
    | true ↦ λ below. le_of_eq (sym (same_Some j k is))
    | false ↦ λ not. omega (arith, same_Some j k is, ltb-false v j not)
  ] refl

  -- The state is that of an update that may be installed (IsUpdate).
  pub update_of : (s : State) → IsWhole s → IsUpdate w o s
  update_of s (
    (
      (
        (
          text,
          keys,
          others,
          time,
          same,
          record_applies,
          parsed,
          passed,
          given,
          fault,
          version,
          signature,
          second,
        ),
        none,
        comment,
      ),
      listing,
    ),
    whole,
    listed,
  ) = record {
    same_options = same;
    record_applies = record_applies;
    text = text;
    parsed = parsed;
    keys = keys;
    passed = passed;
    passed_over = others;
    keys_split = given;
    time = time;
    comment_accepted = sym fault ∙ none;
    version = version;
    signature = signature;
    comment_signature = second;
    signed_comment = comment;
    signed_data = whole;
    listing = listing;
    listed = listed;
    not_older = λ k is. (
      has_version w.found_record s.recorded k record_applies is,
      not_below s.recorded.version
          s.version k is,
    );
    not_compared = not_compared w.found_record s.recorded record_applies;
  }

  -- The invariant at each operation.
  abbrev pub InvariantAt : Operation → State → Type 0
  InvariantAt fsm.Lock s = s.options ≡ o
  InvariantAt fsm.ReadRecord s = s.options ≡ o
  InvariantAt fsm.ReadSignature s = (s.options ≡ o) × (judge_record o w.found_record ≡ Ok s.recorded)
  InvariantAt fsm.CheckComment s = IsJudged s
  InvariantAt fsm.ReadList s = IsCommented s × (is_some o.list ≡ true)
  InvariantAt fsm.CheckList s = IsAccepted s × (is_some o.list ≡ true)
  InvariantAt fsm.CheckRecord s = IsAccepted s
  InvariantAt fsm.ReadTarget s = IsAccepted s
  InvariantAt fsm.CheckTarget s = IsAccepted s
  InvariantAt fsm.SyncTarget s = IsAccepted s
  InvariantAt fsm.SyncTargetName s = IsAccepted s
  InvariantAt fsm.RemoveLeftovers s = IsAccepted s
  InvariantAt fsm.CreateFile s = IsAccepted s
  InvariantAt fsm.CopyData s = IsAccepted s
  InvariantAt fsm.ReadBack s = IsAccepted s
  InvariantAt fsm.CheckData s = IsAccepted s
  InvariantAt fsm.AlreadyInstalled s = IsAccepted s
  InvariantAt fsm.WouldInstall s = IsAccepted s
  InvariantAt fsm.RemoveFiles s = ⊤
  InvariantAt fsm.Rejected s = ⊤
  InvariantAt fsm.Nothing s = ⊤
  InvariantAt op s = IsWhole s

  module _ (old : Disk) where
    -- The changes of the disk before this operation.
    abbrev pub Changed : Operation → State → Disk → Type 0
    Changed fsm.SyncRecordName s new = (new.target ≡ old.target) × (new.record_bytes ≡ Some (new_record s))
    Changed fsm.RenameFile s new = (new.target ≡ old.target) × (new.record_bytes ≡ Some (new_record s))
    Changed fsm.SyncFileName s new = (new.target ≡ Some s.read) × (new.record_bytes ≡ Some (new_record s))
    Changed fsm.Installed s new = (new.target ≡ Some s.read) × (new.record_bytes ≡ Some (new_record s))
    Changed fsm.RemoveFiles s new = IsSafe w o old new
    Changed fsm.Rejected s new = IsSafe w o old new
    Changed op s new = new ≡ old

    -- The invariant of the state and of the disk.
    abbrev pub DiskInvariant : Operation → State → Disk → Type 0
    DiskInvariant op s new = InvariantAt op s × Changed op s new

    -- If the invariant holds, the disk is safe.
    safe_at : (op : Operation) (s : State) (new : Disk) → DiskInvariant op s new → IsSafe w o old new
    safe_at fsm.SyncRecordName s new (known, (target, recorded)) =
        inr (s, update_of s known, recorded, inl target)
    safe_at fsm.RenameFile s new (known, (target, recorded)) =
        inr (s, update_of s known, recorded, inl target)
    safe_at fsm.SyncFileName s new (known, (target, recorded)) =
        inr (s, update_of s known, recorded, inr target)
    safe_at fsm.Installed s new (known, (target, recorded)) =
        inr (s, update_of s known, recorded, inr target)
    safe_at fsm.RemoveFiles s new (known, safe) = safe
    safe_at fsm.Rejected s new (known, safe) = safe
    safe_at op s new (known, same) = inl same

    -- The disk is still safe after an operation that failed.
    failed : (op : Operation) (f : NamedFault) (s : State) (mid new : Disk) → DiskInvariant op s mid
        → Changes op s (Failed f) mid new → IsSafe w o old new
    failed fsm.RenameRecord f s mid new (known, same) (inl is) = inl (is ∙ same)
    failed fsm.RenameRecord f s mid new (known, same) (inr is) =
        inr (
          s,
          update_of s known,
          ap (λ (d : Disk). d.record_bytes) is,
          inl (ap (λ (d : Disk). d.target) is ∙ ap (λ (d : Disk). d.target) same),
        )
    failed fsm.RenameFile f s mid new (known, (target, recorded)) (inl is) =
        inr (s, update_of s known, rw is recorded, inl (rw is target))
    failed fsm.RenameFile f s mid new (known, (target, recorded)) (inr is) =
        inr (s, update_of s known, rw is recorded, inr (ap (λ (d : Disk). d.target) is))
    failed op f s mid new holds is = rw is (safe_at op s mid holds)

    -- If the disk is safe when a run is rejected, the invariant holds.
    after_rejection : (is : Bool) (s : State) (new : Disk) → IsSafe w o old new
        → DiskInvariant (if is then fsm.RemoveFiles else fsm.Rejected) s new
    after_rejection true s new safe = (tt, safe)
    after_rejection false s new safe = (tt, safe)

    -- The next lemmas have the names of the functions in Step.antt that choose the next state. Each proves
    -- the invariant after its function.
    reject : (fault : InstallFault) (s : State) (new : Disk) → IsSafe w o old new
        → DiskInvariant (fsm.reject fault s).due (fsm.reject fault s) new
    reject fault s new safe = after_rejection (has_files s.due) (fsm.reject fault s) new safe

    after_record : (s : State) (new : Disk) (r : Result Recorded InstallFault) → s.options ≡ o → new ≡ old
        → judge_record o w.found_record ≡ r
        → DiskInvariant (fsm.after_record r s).due (fsm.after_record r s) new
    after_record s new (Ok recorded) same is record_applies = ((same, record_applies), is)
    after_record s new (Err fault) same is record_applies = reject fault s new (inl is)

    after_signature : (s : State) (new : Disk) (r : Passed) (time : Option ℕ)
        → InvariantAt fsm.ReadSignature s → new ≡ old → judge_text o w.text ≡ r
        → DiskInvariant (fsm.after_signature r time s).due (fsm.after_signature r time s) new
    after_signature s new (Ok (t, keys)) time (same, record_applies) is passed =
        let parsed = text_parsed w.text t keys passed in
        let again : judge_text o (Ok t) ≡ Ok (t, keys) = rw parsed at passed in (
          (
            t,
            keys,
            [],
            time,
            same,
            record_applies,
            parsed,
            again,
            refl,
            rw same refl,
            rw same refl,
            refl,
            refl,
          ),
          is,
        )
    after_signature s new (Err fault) time known is passed = reject (Library fault) s new (inl is)

    -- If the invariant holds for both branches of a conditional, it holds for its result.
    both_branches : (is : Bool) (s t : State) (new : Disk) → DiskInvariant s.due s new
        → DiskInvariant t.due t new
        → DiskInvariant (if is then s else t).due (if is then s else t) new
    both_branches true s t new one other = one
    both_branches false s t new one other = other

    -- The operation after `install`, in a check and in an installation.
    to_install : (check : Bool) (s : State) (new : Disk) → IsAccepted s → new ≡ old
        → DiskInvariant (if check then fsm.WouldInstall else fsm.RemoveLeftovers) (fsm.install s) new
    to_install true s new accepted is = (accepted, is)
    to_install false s new accepted is = (accepted, is)

    install : (s : State) (new : Disk) → IsAccepted s → new ≡ old
        → DiskInvariant (fsm.install s).due (fsm.install s) new
    install s new accepted is = to_install s.options.check s new accepted is

    compare : (s : State) (new : Disk) → IsAccepted s → new ≡ old
        → DiskInvariant (fsm.compare s).due (fsm.compare s) new
    compare s new accepted is =
        both_branches (fsm.is_newer s) _ _ new (install s new accepted is)
        (both_branches (is_some s.recorded.digest) _ _ new (accepted, is)
        (both_branches (fsm.is_rolling_back s) _ _ new (install s new accepted is) (accepted, is)))

    -- The comment is accepted. The list is due next, if there is one.
    list_or_compare : (listed : Bool) (s : State) (new : Disk) → is_some o.list ≡ listed → IsCommented s
        → new ≡ old
        → DiskInvariant (if listed then fsm.go fsm.ReadList s else fsm.compare s).due
        (if listed then fsm.go fsm.ReadList s else fsm.compare s) new
    list_or_compare true s new some known is = ((known, some), is)
    list_or_compare false s new none known is =
        compare s new (known, λ some. absurd (true≢false (sym some ∙ none))) is

    after_comment : (s : State) (new : Disk) (fault : Option InstallFault) → (judged : IsJudged s)
        → s.fault ≡ fault → accepts_question w (comment_question s judged.0.comments.trusted) ≡ true
        → new ≡ old
        → DiskInvariant (fsm.after_comment fault (record s { is_signed = true })).due
        (fsm.after_comment fault (record s { is_signed = true })) new
    after_comment s new None judged none comment is =
        list_or_compare (is_some s.options.list) (record s { is_signed = true }) new
        (ap (λ (x : Options). is_some x.list) (sym judged.4)) (judged, none, comment) is
    after_comment s new (Some fault) judged some comment is =
        reject fault (record s { is_signed = true }) new (inl is)

    next_key : (s : State) (new : Disk) (signers : List PublicKeyValue) → s.due ≡ fsm.CheckComment
        → IsJudged (record s { signers = signers }) → new ≡ old
        → DiskInvariant (fsm.next_key signers s).due (fsm.next_key signers s) new
    next_key s new [] at judged is = reject _ s new (inl is)
    next_key s new (v ∷ []) at judged is = reject _ s new (inl is)
    next_key s new (v ∷ u ∷ more) at (
      text,
      keys,
      others,
      time,
      same,
      record_applies,
      parsed,
      passed,
      given,
      fault,
      version,
      signature,
      second,
    )
        is =
        let now : (others ++ v ∷ []) ++ (u ∷ more) ≡ keys = append_assoc others (v ∷ []) (u ∷ more)
        ∙ given in
        rw at (
          (
            text,
            keys,
            others ++ v ∷ [],
            time,
            same,
            record_applies,
            parsed,
            passed,
            now,
            fault,
            version,
            signature,
            second,
          ),
          is,
        )

    after_listing : (s : State) (new : Disk) (listed : Result ListedDigest InstallFault) → IsAccepted s
        → new ≡ old → DiskInvariant (fsm.after_listing listed s).due (fsm.after_listing listed s) new
    after_listing s new (Ok digest) known is = compare s new known is
    after_listing s new (Err fault) known is = reject fault s new (inl is)

    after_data : (s : State) (new : Disk) (listed : Bool) → is_listed s ≡ listed → IsAccepted s
        → accepts_question w (data_question fsm.CheckData s) ≡ true → new ≡ old
        → DiskInvariant (fsm.after_data listed s).due (fsm.after_data listed s) new
    after_data s new true listed (known, listing) whole is =
        (((known, listing), whole, sym (listed_is w o s known.0.4 listing) ∙ listed), is)
    after_data s new false listed known whole is = reject DigestMismatch s new (inl is)

    after_digest : (s : State) (new : Disk) (accepted : Bool) → IsAccepted s → new ≡ old
        → DiskInvariant (fsm.after_digest accepted s).due (fsm.after_digest accepted s) new
    after_digest s new accepted known is =
        both_branches (not accepted && fsm.is_rolling_back s) _ _ new (install s new known is) (known, is)

    target_is_update : (check : Bool) (s : State) (new : Disk) → IsAccepted s → new ≡ old
        → DiskInvariant (if check then fsm.AlreadyInstalled else fsm.SyncTarget) s new
    target_is_update true s new known is = (known, is)
    target_is_update false s new known is = (known, is)

    after_target : (s : State) (new : Disk) (accepted : Bool) → IsAccepted s → new ≡ old
        → DiskInvariant (fsm.after_target accepted s).due (fsm.after_target accepted s) new
    after_target s new true known is = target_is_update s.options.check (fsm.after_target true s) new known is
    after_target s new false known is =
        both_branches (s.is_recorded || s.options.again) _ _ new (install s new known is)
        (reject SameNumber s new (inl is))

    after_piece : (n : ℕ) (s : State) (new : Disk) (left : Option ℕ) → s.due ≡ fsm.CopyData → IsAccepted s
        → new ≡ old → DiskInvariant (fsm.after_piece n left s).due (fsm.after_piece n left s) new
    after_piece n s new None at known is = rw at (known, is)
    after_piece n s new (Some left) at known is =
        both_branches (nat_le n left) _ _ new (rw at (known, is)) (reject OtherSize s new (inl is))

    after_copy : (s : State) (new : Disk) (left : Option ℕ) → IsAccepted s → new ≡ old
        → DiskInvariant (fsm.after_copy left s).due (fsm.after_copy left s) new
    after_copy s new None known is = (known, is)
    after_copy s new (Some left) known is =
        both_branches (left == 0) _ _ new (known, is) (reject OtherSize s new (inl is))

    -- The invariant holds after a failure with an error that an operation can have. Other failures do not
    -- fit, so there is no state after them.
    holds_if_some : (is : Bool) (t : State) (new : Disk) → DiskInvariant t.due t new
        → IfSome (if is then Some t else None) (λ x. DiskInvariant x.due x new)
    holds_if_some true t new holds = holds
    holds_if_some false t new holds = tt

    -- An operation keeps the invariant.
    pub op_keeps : (n : ℕ) (op : Operation) (e : Event) (s : State) (mid new : Disk) → s.due ≡ op
        → DiskInvariant op s mid
        → Changes op s e mid new → IsTrueEvent w n s op e
        → IfSome (after op e s) (λ t. DiskInvariant t.due t new)
    op_keeps n fsm.Nothing (Failed f) s mid new at holds change is = tt
    op_keeps n fsm.Installed (Failed f) s mid new at holds change is = tt
    op_keeps n fsm.AlreadyInstalled (Failed f) s mid new at holds change is = tt
    op_keeps n fsm.WouldInstall (Failed f) s mid new at holds change is = tt
    op_keeps n fsm.Rejected (Failed f) s mid new at holds change is = tt
    op_keeps n fsm.RemoveFiles (Failed f) s mid new at holds change is =
        holds_if_some (fsm.is_failure f) (fsm.go fsm.Rejected s) new
        (tt, failed fsm.RemoveFiles f s mid new holds change)
    op_keeps n op (Failed f) s mid new at holds change is =
        holds_if_some (fsm.is_failure f) (fsm.reject (fsm.failure s.due f) s) new
        (reject (fsm.failure s.due f) s new (failed op f s mid new holds change))
    op_keeps n fsm.Lock InUse s mid new at (known, same) change is =
        reject _ s new (inl (change ∙ same))
    op_keeps n fsm.ReadRecord (RecordRead found) s mid new at (known, same) change is =
        after_record s new (judge_record s.options found) known (change ∙ same) (rw (known, is) refl)
    op_keeps n fsm.ReadSignature (SignatureRead text time) s mid new at (known, same) change is =
        after_signature s new (judge_text s.options text) time known (change ∙ same) (rw (known.0, is) refl)
    op_keeps n fsm.CheckComment (Answered true) s mid new at (known, same) change is =
        after_comment s new s.fault known refl (sym (is known.0 known.6)) (change ∙ same)
    op_keeps n fsm.CheckComment (Answered false) s mid new at (known, same) change is =
        next_key s new s.signers at known (change ∙ same)
    op_keeps n fsm.ReadList (ListRead list name) s mid new at (known, same) change is = (
      (
        (known.0, λ some. rw (ap (λ (x : Options). x.list) known.0.0.4, is.0, is.1) refl),
        known.1,
      ),
      change ∙ same,
    )
    op_keeps n fsm.CheckList (Answered true) s mid new at (known, same) change is =
        after_listing (record s { is_list_signed = true }) new s.listing.listed known.0 (change ∙ same)
    op_keeps n fsm.CheckList (Answered false) s mid new at (known, same) change is =
        reject _ s new (inl (change ∙ same))
    op_keeps n fsm.CheckRecord (Answered accepted) s mid new at (known, same) change is =
        after_digest s new accepted known (change ∙ same)
    op_keeps n fsm.ReadTarget (PieceRead bytes) s mid new at (known, same) change is = rw at
        (known, change ∙ same)
    op_keeps n fsm.ReadTarget TargetMissing s mid new at (known, same) change is =
        install s new known (change ∙ same)
    op_keeps n fsm.CheckTarget (Answered accepted) s mid new at (known, same) change is =
        after_target s new (accepted && is_listed s) known (change ∙ same)
    op_keeps n fsm.CopyData (PieceCopied k) s mid new at (known, same) change is =
        after_piece k s new s.left at known (change ∙ same)
    op_keeps n fsm.CopyData Done s mid new at (known, same) change is = after_copy s new s.left known
        (change ∙ same)
    op_keeps n fsm.ReadBack (PieceRead bytes) s mid new at (known, same) change is = rw at (
      known,
      change
          ∙ same,
    )
    op_keeps n fsm.CheckData (Answered true) s mid new at (known, same) change is =
        after_data s new (is_listed s) refl known (sym is) (change ∙ same)
    op_keeps n fsm.CheckData (Answered false) s mid new at (known, same) change is =
        reject _ s new (inl (change ∙ same))
    op_keeps n fsm.RenameRecord Done s mid new at (known, same) change is = (
      known,
      (
        ap (λ (d : Disk). d.target) change ∙ ap (λ (d : Disk). d.target) same,
        ap (λ (d : Disk). d.record_bytes) change,
      ),
    )
    op_keeps n fsm.RenameFile Done s mid new at (known, (target, recorded)) change is =
        (known, (ap (λ (d : Disk). d.target) change, ap (λ (d : Disk). d.record_bytes) change ∙ recorded))
    op_keeps n fsm.SyncRecordName Done s mid new at (known, changed) change is = (known, rw change changed)
    op_keeps n fsm.SyncFileName Done s mid new at (known, changed) change is = (known, rw change changed)
    op_keeps n fsm.RemoveFiles Done s mid new at (known, safe) change is = (tt, rw change safe)
    op_keeps n fsm.Nothing Done s mid new at holds change is = tt
    op_keeps n fsm.Installed Done s mid new at holds change is = tt
    op_keeps n fsm.AlreadyInstalled Done s mid new at holds change is = tt
    op_keeps n fsm.WouldInstall Done s mid new at holds change is = tt
    op_keeps n fsm.Rejected Done s mid new at holds change is = tt
    op_keeps n fsm.ReadRecord Done s mid new at holds change is = tt
    op_keeps n fsm.ReadSignature Done s mid new at holds change is = tt
    op_keeps n fsm.CheckComment Done s mid new at holds change is = tt
    op_keeps n fsm.ReadList Done s mid new at holds change is = tt
    op_keeps n fsm.CheckList Done s mid new at holds change is = tt
    op_keeps n fsm.CheckRecord Done s mid new at holds change is = tt
    op_keeps n fsm.CheckTarget Done s mid new at holds change is = tt
    op_keeps n fsm.CheckData Done s mid new at holds change is = tt
    op_keeps n op Done s mid new at (known, same) change is = (known, change ∙ same)
    op_keeps n op e s mid new at holds change is = tt

    -- The invariant holds for the state that `step` returns, if the event fits.
    pub answer_keeps : (e : Event) (s : State) (new : Disk) (next : Option State) → is_some next ≡ true
        → IfSome next (λ t. DiskInvariant t.due t new)
        → DiskInvariant (answer s next).1.due (answer s next).1 new
    answer_keeps e s new (Some t) fits holds = holds
    answer_keeps e s new None fits holds = absurd (true≢false (sym fits))

    -- The invariant holds after a run that starts in a state in which it holds.
    run_holds : (n : ℕ) (s : State) (mid : Disk) (events : List (Event × Disk)) (t : State) (new : Disk)
        → DiskInvariant s.due s mid → Runs w n s mid events t new → DiskInvariant t.due t new
    run_holds n s mid [] t new holds (is, same) = rw (is, same) holds
    run_holds n s mid ((e, disk) ∷ more) t new holds ((fits, is), change, rest) =
        run_holds (count n e) (step s e).1 disk more t new
        (answer_keeps e s disk (after s.due e s) fits
        (op_keeps n s.due e s mid disk refl holds change is)) rest

    -- The invariant holds when a run begins.
    pub begins : (check : Bool) → DiskInvariant (if check then fsm.ReadRecord else fsm.Lock) (begin o) old
    begins true = (refl, refl)
    begins false = (refl, refl)

-- Wherever a run is cut off, the target and the record are unchanged; or the record is that of an update that
-- may be installed, and the target is unchanged or has this update.
pub safe : (w : World) (o : Options) (old new : Disk) (events : List (Event × Disk)) (t : State)
    → Runs w 0 (begin o) old events t new → IsSafe w o old new
safe w o old new events t run =
    safe_at w o old t.due t new (run_holds w o old 0 (begin o) old events t new (begins w o old o.check) run)
