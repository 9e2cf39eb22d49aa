-- Proves that the number of events in a run is bounded by the lengths of the data and of the installed file.
use Rattle.std.specs.Prelude.{◌≡◌, ◌<◌, ◌≤◌, ◌+◌, ◌-◌, ◌++◌, ℕ, Bool, true, false, List, [], ◌∷◌, length}
use Rattle.std.specs.Prelude.{Option, Some, None, Result, Ok, Err, IfSome, is_some, if◌then◌else◌, filter}
use Rattle.std.specs.Prelude.{bytes_eq, ◌*◌, ◌&&◌, ◌||◌, ◌==◌, not, nat_le}
use Rattle.std.proofs.Common.{ap, refl, suc, sym, arith, length-append, true≢false}
use Rattle.minisign.specs.SignatureText.{SignatureTextRecord}
use Rattle.std.specs.Str.{is_utf8}
use Rattle.minisign.specs.Records.{is_prehashed}
use Rattle.minisign.specs.Texts.{require}
use Rattle.minisign_external.specs.Questions.{has_whole_signature}
use Rattle.minisign_base.specs.declared.faults.NamedFault.TheVariants as named
use Rattle.minisign_base.specs.declared.faults.NamedFault.{NamedFault}
use Rattle.minisign_external.specs.declared.public_keys.PublicKeyValue.{PublicKeyValue}
use Rattle.minisign_install.specs.Decisions.{Options, Recorded, judge_keys, judge_record, judge_text}
use Rattle.minisign_install.specs.Faults.{Fault, InstallFault}
use Rattle.minisign_install.specs.Step.{Event, Done, InUse, Failed, RecordRead, SignatureRead, Operation}
use Rattle.minisign_install.specs.Step.{Answered, PieceRead, TargetMissing, PieceCopied, State, after}
use Rattle.minisign_install.specs.Step.{ListRead, answer, begin, has_files, is_listed, step}
use Rattle.minisign_install.specs.Step as fsm
use Rattle.minisign_install.specs.StepRuns.{IsRun, IsLawfulEvent, IsTrueEvent, World, count}
use Rattle.minisign_lists.specs.declared.digests.ListedDigest.{ListedDigest}
use Rattle.minisign_install.specs.Histories.{list_calls}

-- The maximum number of operations from this one on, not counting repeated ones.
abbrev rank : Operation → ℕ
rank fsm.Lock = 23
rank fsm.ReadRecord = 22
rank fsm.ReadSignature = 21
rank fsm.CheckComment = 20
rank fsm.ReadList = 19
rank fsm.CheckList = 19
rank fsm.CheckRecord = 19
rank fsm.ReadTarget = 18
rank fsm.CheckTarget = 17
rank fsm.SyncTarget = 16
rank fsm.SyncTargetName = 15
rank fsm.RemoveLeftovers = 16
rank fsm.CreateFile = 15
rank fsm.CopyData = 14
rank fsm.ReadBack = 13
rank fsm.CheckData = 12
rank fsm.SetPermissions = 11
rank fsm.SyncFile = 10
rank fsm.CreateRecord = 9
rank fsm.WriteRecord = 8
rank fsm.SyncRecord = 7
rank fsm.RenameRecord = 6
rank fsm.SyncRecordName = 5
rank fsm.RenameFile = 4
rank fsm.SyncFileName = 3
rank fsm.RemoveFiles = 1
rank op = 0

-- The type of the results of judge_text.
abbrev Passed : Type 0
Passed = Result (SignatureTextRecord × List PublicKeyValue) Fault

-- The number of keys that a result contains, or 0 if it is an error.
abbrev key_count : Passed → ℕ
key_count (Ok (t, signers)) = length signers
key_count (Err e) = 0

-- A further check does not add keys to a result.
required : (holds : Bool) (fault : NamedFault) (more : Passed) (m : ℕ) → key_count more ≤ m
    → key_count (require holds fault more) ≤ m
required true fault more m few = few
required false fault more m few = omega arith

-- The checks do not return more keys than were given.
few_keys : (o : Options) (signers : List PublicKeyValue) (t : SignatureTextRecord)
    → key_count (judge_keys o signers t) ≤ length signers
few_keys o [] t = omega arith
few_keys o (v ∷ more) t =
    let same : length (v ∷ more) ≤ length (v ∷ more) = omega arith in
    let passed : Passed = Ok (t, v ∷ more) in
    required (is_prehashed t.signature) named.LegacyNotAccepted
    (require (has_whole_signature t.comments) named.CommentSignatureRefused passed) _
    (required (has_whole_signature t.comments) named.CommentSignatureRefused passed _ same)

-- Filtering a list of keys does not make it longer.
filter_few : (p : PublicKeyValue → Bool) (keys : List PublicKeyValue) → length (filter p keys) ≤ length keys
filter_few p [] = omega arith
filter_few p (v ∷ more) = elim (p v) as (λ b. length
    (if b then v ∷ filter p more else filter p more) ≤ suc (length more)) [
      | true ↦ omega (arith, filter_few p more)
      | false ↦ omega (arith, filter_few p more)
    ]

few_signers : (o : Options) (text : Result SignatureTextRecord Fault)
    → key_count (judge_text o text) ≤ length o.keys
few_signers o (Err e) =
    let none : 0 ≤ length o.keys = omega arith in required (is_utf8 o.file) named.NotUtf8 (Err e) _ none
few_signers o (Ok t) =
    let id = λ (v : PublicKeyValue). bytes_eq t.signature.keynum v.key_id in
    let few : key_count (judge_keys o (filter id o.keys) t) ≤ length o.keys =
    omega (arith, few_keys o (filter id o.keys) t, filter_few id o.keys) in
    required (is_utf8 o.file) named.NotUtf8 (judge_keys o (filter id o.keys) t) _ few

module _ (w : World) where
  -- The number of keys that may still be tried.
  abbrev keys_left : Operation → State → ℕ
  keys_left fsm.Lock s = length s.options.keys
  keys_left fsm.ReadRecord s = length s.options.keys
  keys_left fsm.ReadSignature s = length s.options.keys
  keys_left fsm.CheckComment s = length s.signers
  keys_left op s = 0

  -- The number of operations for a list that are left, if there is one.
  abbrev list_left : Operation → State → ℕ
  list_left fsm.Lock s = list_calls s.options
  list_left fsm.ReadRecord s = list_calls s.options
  list_left fsm.ReadSignature s = list_calls s.options
  list_left fsm.CheckComment s = list_calls s.options
  list_left fsm.ReadList s = 2
  list_left fsm.CheckList s = 1
  list_left op s = 0

  -- The number of bytes of the installed file that may still be read.
  abbrev target_left : Operation → State → ℕ
  target_left fsm.Lock s = w.max_size
  target_left fsm.ReadRecord s = w.max_size
  target_left fsm.ReadSignature s = w.max_size
  target_left fsm.CheckComment s = w.max_size
  target_left fsm.ReadList s = w.max_size
  target_left fsm.CheckList s = w.max_size
  target_left fsm.CheckRecord s = w.max_size
  target_left fsm.ReadTarget s = w.max_size - length s.read
  target_left op s = 0

  -- The number of bytes that may still be copied, and read back.
  abbrev copy_left : ℕ → Operation → State → ℕ
  copy_left n fsm.CopyData s = (length w.update - n) + length w.update
  copy_left n fsm.ReadBack s = length w.update - length s.read
  copy_left n fsm.CheckData s = 0
  copy_left n fsm.SetPermissions s = 0
  copy_left n fsm.SyncFile s = 0
  copy_left n fsm.CreateRecord s = 0
  copy_left n fsm.WriteRecord s = 0
  copy_left n fsm.SyncRecord s = 0
  copy_left n fsm.RenameRecord s = 0
  copy_left n fsm.SyncRecordName s = 0
  copy_left n fsm.RenameFile s = 0
  copy_left n fsm.SyncFileName s = 0
  copy_left n fsm.RemoveFiles s = 0
  copy_left n fsm.Installed s = 0
  copy_left n fsm.AlreadyInstalled s = 0
  copy_left n fsm.WouldInstall s = 0
  copy_left n fsm.Rejected s = 0
  copy_left n op s = length w.update + length w.update

  -- The maximum number of events that are left.
  abbrev pub left : ℕ → Operation → State → ℕ
  left n op s = rank op + list_left op s + keys_left op s + target_left op s + copy_left n op s

  -- After an error, the run removes its temporary files, or it has ended.
  after_rejection : (n : ℕ) (is : Bool) (s : State)
      → left n (if is then fsm.RemoveFiles else fsm.Rejected) s ≤ 1
  after_rejection n true s = omega arith
  after_rejection n false s = omega arith

  -- After a rejection, at most one operation is left: removing the temporary files.
  reject : (n m : ℕ) (fault : InstallFault) (s : State) → 1 < m
      → left n (fsm.reject fault s).due (fsm.reject fault s) < m
  reject n m fault s more = let few = after_rejection n (has_files s.due) (fsm.reject fault s) in omega
      (arith, few, more)

  -- The result of a conditional has the property if both branches have it.
  both_branches : (n m : ℕ) (is : Bool) (s t : State) → left n s.due s < m → left n t.due t < m
      → left n (if is then s else t).due (if is then s else t) < m
  both_branches n m true s t one other = one
  both_branches n m false s t one other = other

  -- The operation after `install`, in a check and in an installation.
  to_install : (n m : ℕ) (check : Bool) (s : State) → 16 + length w.update + length w.update < m
      → left n (if check then fsm.WouldInstall else fsm.RemoveLeftovers) s < m
  to_install n m true s more = omega (arith, more)
  to_install n m false s more = omega (arith, more)

  install : (n m : ℕ) (s : State) → 16 + length w.update + length w.update < m
      → left n (fsm.install s).due (fsm.install s) < m
  install n m s more = to_install n m s.options.check (fsm.install s) more

  -- Nothing has to be proved if the event does not fit.
  holds_if_some : (n m : ℕ) (is : Bool) (t : State) → left n t.due t < m
      → IfSome (if is then Some t else None) (λ x. left n x.due x < m)
  holds_if_some n m true t holds = holds
  holds_if_some n m false t holds = tt

  after_record : (n : ℕ) (s : State) (r : Result Recorded InstallFault)
      → left n (fsm.after_record r s).due (fsm.after_record r s) < left n fsm.ReadRecord s
  after_record n s (Ok recorded) = omega arith
  after_record n s (Err fault) = reject n _ fault s (omega arith)

  after_signature : (n : ℕ) (s : State) (r : Passed) (time : Option ℕ) → key_count r ≤ length s.options.keys
      → left n (fsm.after_signature r time s).due (fsm.after_signature r time s) < left n fsm.ReadSignature s
  after_signature n s (Ok (t, signers)) time few = omega (arith, few)
  after_signature n s (Err fault) time few = reject n _ _ s (omega arith)

  compare : (n m : ℕ) (s : State) → 19 + w.max_size + length w.update + length w.update < m
      → left n (fsm.compare s).due (fsm.compare s) < m
  compare n m s more =
      both_branches n m (fsm.is_newer s) _ _ (install n m s (omega (arith, more)))
      (both_branches n m (is_some s.recorded.digest) _ _ (omega (arith, more))
      (both_branches n m (fsm.is_rolling_back s) _ _ (install n m s (omega (arith, more)))
      (omega (arith, more))))

  -- The comment is accepted. The list is due next, if there is one.
  list_or_compare : (n : ℕ) (listed : Bool) (s : State) → is_some s.options.list ≡ listed
      → left n (if listed then fsm.go fsm.ReadList s else fsm.compare s).due
      (if listed then fsm.go fsm.ReadList s else fsm.compare s) < left n fsm.CheckComment s
  list_or_compare n true s some = rw some (omega arith)
  list_or_compare n false s none = compare n _ s (omega arith)

  after_comment : (n : ℕ) (s : State) (fault : Option InstallFault)
      → left n (fsm.after_comment fault (record s { is_signed = true })).due
      (fsm.after_comment fault (record s { is_signed = true })) < left n fsm.CheckComment s
  after_comment n s None = list_or_compare n (is_some s.options.list) (record s { is_signed = true }) refl
  after_comment n s (Some fault) = reject n _ fault (record s { is_signed = true }) (omega arith)

  next_key : (n : ℕ) (s : State) (signers : List PublicKeyValue) → s.due ≡ fsm.CheckComment
      → left n (fsm.next_key signers s).due (fsm.next_key signers s)
      < left n fsm.CheckComment (record s { signers = signers })
  next_key n s [] at = reject n _ _ s (omega arith)
  next_key n s (v ∷ []) at = reject n _ _ s (omega arith)
  next_key n s (v ∷ u ∷ more) at = rw at (omega arith)

  after_listing : (n : ℕ) (s : State) (listed : Result ListedDigest InstallFault)
      → left n (fsm.after_listing listed (record s { is_list_signed = true })).due
      (fsm.after_listing listed (record s { is_list_signed = true })) < left n fsm.CheckList s
  after_listing n s (Ok digest) = compare n _ (record s { is_list_signed = true }) (omega arith)
  after_listing n s (Err fault) = reject n _ fault (record s { is_list_signed = true }) (omega arith)

  after_data : (n : ℕ) (s : State) (listed : Bool)
      → left n (fsm.after_data listed s).due (fsm.after_data listed s) < left n fsm.CheckData s
  after_data n s true = omega arith
  after_data n s false = reject n _ _ s (omega arith)

  after_digest : (n : ℕ) (s : State) (accepted : Bool)
      → left n (fsm.after_digest accepted s).due (fsm.after_digest accepted s) < left n fsm.CheckRecord s
  after_digest n s accepted =
      both_branches n _ (not accepted && fsm.is_rolling_back s) _ _ (install n _ s (omega arith))
      (omega arith)

  target_is_update : (n : ℕ) (check : Bool) (s t : State)
      → left n (if check then fsm.AlreadyInstalled else fsm.SyncTarget) t < left n fsm.CheckTarget s
  target_is_update n true s t = omega arith
  target_is_update n false s t = omega arith

  after_target : (n : ℕ) (s : State) (accepted : Bool)
      → left n (fsm.after_target accepted s).due (fsm.after_target accepted s) < left n fsm.CheckTarget s
  after_target n s true = target_is_update n s.options.check s (fsm.after_target true s)
  after_target n s false =
      both_branches n _ (s.is_recorded || s.options.again) _ _ (install n _ s (omega arith))
      (reject n _ _ s (omega arith))

  after_piece : (n k : ℕ) (s : State) (rest : Option ℕ) → s.due ≡ fsm.CopyData → 0 < k
      → n + k ≤ length w.update
      → left (n + k) (fsm.after_piece k rest s).due (fsm.after_piece k rest s) < left n fsm.CopyData s
  after_piece n k s None at some fits = rw at (omega (arith, some, fits))
  after_piece n k s (Some rest) at some fits =
      both_branches (n + k) _ (nat_le k rest) _ _ (rw at (omega (arith, some, fits))) (reject (n + k) _ _ s
      (omega arith))

  after_copy : (n : ℕ) (s : State) (rest : Option ℕ)
      → left n (fsm.after_copy rest s).due (fsm.after_copy rest s) < left n fsm.CopyData s
  after_copy n s None = omega arith
  after_copy n s (Some rest) = both_branches n _ (rest == 0) _ _ (omega arith) (reject n _ _ s (omega arith))

  decreases : (n : ℕ) (op : Operation) (e : Event) (s : State) → s.due ≡ op → IsTrueEvent w n s op e
      → IfSome (after op e s) (λ t. left (count n e) t.due t < left n op s)
  decreases n fsm.Nothing (Failed f) s at is = tt
  decreases n fsm.Installed (Failed f) s at is = tt
  decreases n fsm.AlreadyInstalled (Failed f) s at is = tt
  decreases n fsm.WouldInstall (Failed f) s at is = tt
  decreases n fsm.Rejected (Failed f) s at is = tt
  decreases n fsm.RemoveFiles (Failed f) s at is =
      holds_if_some n _ (fsm.is_failure f) (fsm.go fsm.Rejected s)
      (omega arith)
  decreases n op (Failed f) s at is =
      holds_if_some n _ (fsm.is_failure f) (fsm.reject (fsm.failure s.due f) s)
      (reject n _ (fsm.failure s.due f) s (omega arith))
  decreases n fsm.Lock InUse s at is = reject n _ _ s (omega arith)
  decreases n fsm.ReadRecord (RecordRead found) s at is = after_record n s (judge_record s.options found)
  decreases n fsm.ReadSignature (SignatureRead text time) s at is =
      after_signature n s (judge_text s.options text) time (few_signers s.options text)
  decreases n fsm.CheckComment (Answered true) s at is = after_comment n s s.fault
  decreases n fsm.CheckComment (Answered false) s at is = next_key n s s.signers at
  decreases n fsm.ReadList (ListRead list name) s at is = omega arith
  decreases n fsm.CheckList (Answered true) s at is =
      after_listing n s s.listing.listed
  decreases n fsm.CheckList (Answered false) s at is = reject n _ _ s (omega arith)
  decreases n fsm.CheckRecord (Answered accepted) s at is = after_digest n s accepted
  decreases n fsm.ReadTarget (PieceRead bytes) s at is =
      rw at (omega (arith, is.0, is.1, length-append s.read bytes))
  decreases n fsm.ReadTarget TargetMissing s at is = install n _ s (omega arith)
  decreases n fsm.CheckTarget (Answered accepted) s at is = after_target n s (accepted && is_listed s)
  decreases n fsm.CopyData (PieceCopied k) s at is = after_piece n k s s.left at is.0 is.1
  decreases n fsm.CopyData Done s at is = after_copy n s s.left
  decreases n fsm.ReadBack (PieceRead bytes) s at (some, (rest, whole)) =
      rw at (omega (
        arith,
        some,
        length-append s.read bytes,
        length-append (s.read ++ bytes) rest,
        ap length whole,
      ))
  decreases n fsm.CheckData (Answered true) s at is = after_data n s (is_listed s)
  decreases n fsm.CheckData (Answered false) s at is = reject n _ _ s (omega arith)
  decreases n fsm.Nothing Done s at is = tt
  decreases n fsm.Installed Done s at is = tt
  decreases n fsm.AlreadyInstalled Done s at is = tt
  decreases n fsm.WouldInstall Done s at is = tt
  decreases n fsm.Rejected Done s at is = tt
  decreases n fsm.ReadRecord Done s at is = tt
  decreases n fsm.ReadSignature Done s at is = tt
  decreases n fsm.CheckComment Done s at is = tt
  decreases n fsm.ReadList Done s at is = tt
  decreases n fsm.CheckList Done s at is = tt
  decreases n fsm.CheckRecord Done s at is = tt
  decreases n fsm.CheckTarget Done s at is = tt
  decreases n fsm.CheckData Done s at is = tt
  decreases n op Done s at is = omega arith
  decreases n op e s at is = tt

  -- The invariant holds for the state that `step` returns, if the event fits.
  answer_keeps : (n m : ℕ) (e : Event) (s : State) (next : Option State) → is_some next ≡ true
      → IfSome next (λ t. left (count n e) t.due t < m)
      → left (count n e) (answer s next).1.due (answer s next).1 < m
  answer_keeps n m e s (Some t) fits less = less
  answer_keeps n m e s None fits less = absurd (true≢false (sym fits))

  -- A lawful event decreases this number.
  pub step_less : (n : ℕ) (e : Event) (s : State) → IsLawfulEvent w n s e
      → left (count n e) (step s e).1.due (step s e).1 < left n s.due s
  step_less n e s (fits, is) = answer_keeps n _ e s (after s.due e s) fits (decreases n s.due e s refl is)

  bounded : (n : ℕ) (s : State) (events : List Event) (t : State) → IsRun (IsLawfulEvent w) n s events t
      → length events ≤ left n s.due s
  bounded n s [] t run = omega arith
  bounded n s (e ∷ more) t ((fits, is), run) =
      let less = answer_keeps n _ e s (after s.due e s) fits (decreases n s.due e s refl is) in
      omega (arith, less, bounded (count n e) (step s e).1 more t run)

  at_first : (check : Bool) (o : Options)
      → left 0 (if check then fsm.ReadRecord else fsm.Lock) (begin o)
      ≤ 23 + list_calls o + length o.keys + w.max_size + 2 * length w.update
  at_first true o = omega arith
  at_first false o = omega arith

-- The number of events in a run is bounded.
pub run_ends : (w : World) (o : Options) (events : List Event) (t : State)
    → IsRun (IsLawfulEvent w) 0 (begin o) events t
    → length events ≤ 23 + list_calls o + length o.keys + w.max_size + 2 * length w.update
run_ends w o events t run = omega (arith, bounded w 0 (begin o) events t run, at_first w o.check o)
