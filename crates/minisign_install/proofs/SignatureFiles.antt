-- Lemmas for the call `signature`: it makes the step of the state machine in Step.antt. Progress is the
-- struct that represents the state of a run, and Installation is the application's struct, which contains a
-- Progress.
use Rattle.std.specs.Prelude.{◌≡◌, ◌≢◌, ◌==◌, ◌++◌, ℕ, Bool, true, false, if◌then◌else◌, List, [], ◌∷◌}
use Rattle.std.specs.Prelude.{Option, Some, None, Result, Ok, Err, IfOk, IfErr, bytes_eq}
use Rattle.std.specs.Prelude.{filter}
use Rattle.std.specs.Prelude.{is_some, take}
use Rattle.std.specs.Option.{unwrap_or}
use Rattle.std.specs.Str.{IsUtf8, is_utf8}
use Rattle.std.proofs.Common.{refl, sym, ap, ◌∙◌, subst, true≢false}
use Rattle.std.proofs.lemmas.Str.{IsUtf8-from_is_utf8, is_utf8-from_IsUtf8}
use Rattle.minisign.specs.SignatureText.{SignatureTextRecord, SignatureViewRecord, read_signature, view_of}
use Rattle.minisign.specs.Texts.{and_then, map_ok, require}
use Rattle.minisign_base.specs.declared.faults.NamedFault.TheVariants.{NotUtf8}
use Rattle.minisign_external.specs.PublicKeys.{read_utf8}
use Rattle.minisign_external.specs.declared.public_keys.PublicKeyValue.{PublicKeyValue}
use Rattle.minisign_external.specs.declared.state.Misuse.TheVariants.{NoRoom, NotDue}
use Rattle.minisign_external.specs.declared.state.Refusal.{Refusal}
use Rattle.minisign_external.specs.declared.state.Refusal.TheVariants.{Refused, WrongUse}
use Rattle.minisign_install.specs.Decisions.{Options, comment_fault, judge_keys, judge_text, signed_size}
use Rattle.minisign_install.specs.Decisions.{version_in}
use Rattle.minisign_install.specs.Faults.{Fault, InstallFault, Library, Named}
use Rattle.minisign_install.specs.Installations.{HasMessage, IsJudgedAs, HoldsState, IsReadAs, Represents}
use Rattle.minisign_install.specs.Installations.{RunLeadsTo}
use Rattle.minisign_install.specs.Installations.{SignatureLeads, SignatureSteps, begun_mark}
use Rattle.minisign_install.specs.Installations.{RepresentsIf, first_key, given, is_reading_signature}
use Rattle.minisign_install.specs.Installations.{judge_form}
use Rattle.minisign_install.specs.Installations.{operation_of, options_of, without_length}
use Rattle.minisign_install.specs.Installations.{judged_text, recorded_of}
use Rattle.minisign_install.specs.Installations.{signature_read, state_of}
use Rattle.minisign_install.specs.Step.{Operation, SignatureRead, State, after, after_signature, reject}
use Rattle.minisign_install.specs.Step.{step}
use Rattle.minisign_install.specs.Step as fsm
use Rattle.minisign_install.specs.declared.installation.Installation.{Installation}
use Rattle.minisign_install.specs.declared.installation.progress.Chosen.{Chosen}
use Rattle.minisign_install.specs.declared.installation.progress.Judgment.{Judgment}
use Rattle.minisign_install.specs.declared.installation.progress.Progress.{Progress}
use Rattle.minisign_install.proofs.HeldStates.{due_is, event_fits, unbegun_steps}

-- == Texts ==

-- A value that is not true is false.
false_if_not_true : (b : Bool) → ¬ (b ≡ true) → b ≡ false
false_if_not_true true not_true = absurd (not_true refl)
false_if_not_true false not_true = refl

-- The function `is_utf8` returns false for bytes that are not UTF-8.
pub not_utf8 : (bytes : List ℕ) → ¬ (IsUtf8 bytes) → is_utf8 bytes ≡ false
not_utf8 bytes malformed =
    false_if_not_true (is_utf8 bytes) (λ utf8. malformed (IsUtf8-from_is_utf8 bytes utf8))

-- The code parses a text, and the specification parses its bytes. Both results, converted by `view_of`, are
-- the same.
pub same_as_bytes : (text bytes : List ℕ) → text ≡ bytes → IsUtf8 bytes
    → map_ok view_of (read_signature text) ≡ map_ok view_of (read_utf8 read_signature bytes)
same_as_bytes text bytes same utf8 = rw (same, is_utf8-from_IsUtf8 bytes utf8) refl

-- Parsing bytes that are not UTF-8 has the error NotUtf8.
pub no_text_read : (bytes : List ℕ) → ¬ (IsUtf8 bytes)
    → Err (Named NotUtf8) ≡ map_ok view_of (read_utf8 read_signature bytes)
no_text_read bytes malformed = rw (not_utf8 bytes malformed) refl

-- If the result of parsing, converted by `view_of`, is Ok v, a signature file was parsed, and v is its view.
viewed : (r : Result SignatureTextRecord Fault) (v : SignatureViewRecord) → Ok v ≡ map_ok view_of r
    → (t : SignatureTextRecord) × (r ≡ Ok t) × (v ≡ view_of t)
viewed (Ok t) v same_view = (t, refl, cc same_view)
viewed (Err e) v same_view = absurd (cc same_view)

-- If the result of parsing, converted by `view_of`, is an error, parsing has the same error.
pub parsing_failed : (r : Result SignatureTextRecord Fault) (e : Fault) → Err e ≡ map_ok view_of r → r ≡ Err e
parsing_failed (Ok t) e same_error = absurd (cc same_error)
parsing_failed (Err f) e same_error = cc same_error

-- If the bytes parse to a signature file with the view v, there is a signature file with this view.
pub reads_view : (text : List ℕ) (v : SignatureViewRecord) → Ok v ≡ map_ok view_of
    (read_utf8 read_signature text)
    → (t : SignatureTextRecord) × (read_utf8 read_signature text ≡ Ok t) × (v ≡ view_of t)
reads_view text v same_view = viewed (read_utf8 read_signature text) v same_view

-- == The checks that need no Ed25519 ==

-- If a given key has the key ID of the signature, the checks of `judge_form` have the result of all checks:
-- the only other check is that there is such a key.
pub form_judged : (o : Options) (signers : List PublicKeyValue) (t : SignatureTextRecord)
    (r : Result (List ℕ) Fault) → is_some (first_key signers) ≡ true
    → IsJudgedAs (judge_form t signers) t signers r → IsJudgedAs (judge_keys o signers t) t signers r
form_judged o [] t r has_key judged = absurd (true≢false (sym has_key))
form_judged o (v ∷ more) t r has_key judged = judged

-- If the file name in the options is UTF-8 and the signature file was parsed, the result of the checks is
-- that of `judge_keys`.
pub parsed_result : (s : State) (text : List ℕ) (t : SignatureTextRecord) (c : Chosen) (file : List ℕ)
    → s.options ≡ options_of c file → is_utf8 s.options.file ≡ true → read_utf8 read_signature text ≡ Ok t
    → judged_text s text ≡ judge_keys s.options (given c t) t
parsed_result s text t c file options utf8 read =
    ap (λ (b : Bool).
    require b NotUtf8 (and_then (read_utf8 read_signature text) (λ t.
    judge_keys s.options (filter (λ v. bytes_eq t.signature.keynum v.key_id) s.options.keys) t))) utf8
    ∙ ap (λ (r : Result SignatureTextRecord Fault).
    and_then r
    (λ t. judge_keys s.options (filter (λ v. bytes_eq t.signature.keynum v.key_id) s.options.keys) t))
    read
    ∙ ap (λ (o : Options). judge_keys s.options (filter (λ v. bytes_eq t.signature.keynum v.key_id) o.keys) t)
    options

-- If the file name in the options is UTF-8 and the signature file cannot be parsed, the result of the checks
-- is the error of parsing.
pub unparsed_result : (s : State) (text : List ℕ) (e : Fault) → is_utf8 s.options.file ≡ true
    → read_utf8 read_signature text ≡ Err e → judged_text s text ≡ Err e
unparsed_result s text e utf8 read =
    ap (λ (b : Bool).
    require b NotUtf8 (and_then (read_utf8 read_signature text) (λ t.
    judge_keys s.options (filter (λ v. bytes_eq t.signature.keynum v.key_id) s.options.keys) t))) utf8
    ∙ ap (λ (r : Result SignatureTextRecord Fault).
    and_then r
    (λ t. judge_keys s.options (filter (λ v. bytes_eq t.signature.keynum v.key_id) s.options.keys) t))
    read

-- If the file name in the options is not UTF-8, the result of the checks is NotUtf8.
pub bad_name_result : (s : State) (text : List ℕ) → is_utf8 s.options.file ≡ false
    → judged_text s text ≡ Err (Named NotUtf8)
bad_name_result s text malformed =
    ap (λ (b : Bool).
    require b NotUtf8 (and_then (read_utf8 read_signature text) (λ t.
    judge_keys s.options (filter (λ v. bytes_eq t.signature.keynum v.key_id) s.options.keys) t))) malformed

-- == The new Progress ==

-- The list of those of two keys whose flag is true is the concatenation of one list for each key.
both_signers : (a b : Bool) (v w : PublicKeyValue)
    → (if a then v ∷ (if b then w ∷ [] else []) else (if b then w ∷ [] else []))
    ≡ (if a then v ∷ [] else []) ++ (if b then w ∷ [] else [])
both_signers true b v w = refl
both_signers false b v w = refl

-- The keys with the key ID of the signature are those whose flag in the struct, which was set by comparing
-- the key IDs, is 1.
signers_same : (t : SignatureTextRecord) (v w : PublicKeyValue) (a b : Bool)
    → a ≡ bytes_eq t.signature.keynum v.key_id → b ≡ bytes_eq t.signature.keynum w.key_id
    → filter (λ v. bytes_eq t.signature.keynum v.key_id) (v ∷ w ∷ [])
    ≡ (if a then v ∷ [] else []) ++ (if b then w ∷ [] else [])
signers_same t v w a b one other =
    both_signers (bytes_eq t.signature.keynum v.key_id) (bytes_eq t.signature.keynum w.key_id) v w
    ∙ ap (λ (x : Bool).
    (if x then v ∷ [] else []) ++ (if bytes_eq t.signature.keynum w.key_id then w ∷ [] else [])) (sym one)
    ∙ ap (λ (x : Bool). (if a then v ∷ [] else []) ++ (if x then w ∷ [] else [])) (sym other)

-- A field of the struct that is used only if `is_judged` is 1 has its value after the signature file was
-- read.
if_judged : (n : ℕ) (x y : List ℕ) → n ≡ 1 → y ≡ x → x ≡ (if n == 1 then y else [])
if_judged n x y judged same = sym same ∙ ap (λ (m : ℕ). if m == 1 then y else []) (sym judged)

-- The state s with the results of reading the signature file.
abbrev with_text : State → List PublicKeyValue → List ℕ → List ℕ → Option InstallFault → ℕ → Option ℕ → State
with_text s signers first second fault version size = record s {
  signers = signers;
  signature = first;
  comment_signature = second;
  fault = fault;
  version = version;
  size = size;
  left = size;
}

-- States with the same results of reading the signature file are the same.
same_text : (s : State) {l m : List PublicKeyValue} {a b c d : List ℕ} {e f : Option InstallFault} {g h : ℕ}
    {j k : Option ℕ} → l ≡ m → a ≡ b → c ≡ d → e ≡ f → g ≡ h → j ≡ k
    → with_text s l a c e g j ≡ with_text s m b d f h k
same_text s signers first second fault version size = λ i.
    with_text s (signers i) (first i) (second i) (fault i) (version i) (size i)

-- The new Progress represents the state after the signature file was read.
pub with_signature : (p : Progress) (s : State) (t : SignatureTextRecord) (second : List ℕ) (j : Judgment)
    (recorded time : Option ℕ) (key_matches other_key_matches : ℕ) (state_held : HoldsState p s)
    → recorded ≡ (recorded_of p.recorded).version
    → IsReadAs j (options_of p.chosen state_held.file) t second recorded time
    → second ≡ take 64 t.comments.signature
    → (key_matches == 1) ≡ bytes_eq t.signature.keynum p.chosen.key.key_id
    → (other_key_matches == 1) ≡ bytes_eq t.signature.keynum p.chosen.other.key_id
    → HoldsState (record p {
      judged = j;
      left = j.size;
      has_left = j.has_size;
      key_matches = key_matches;
      other_key_matches = other_key_matches;
    }) (with_text s (given p.chosen t) t.signature.signature (take 64 t.comments.signature)
    (comment_fault s.options s.recorded.version time t.comments.trusted)
    (unwrap_or (version_in s.options.numbering t.comments.trusted) 0)
    (signed_size s.options.list t.comments.trusted))
with_signature p s t second j recorded time key_matches other_key_matches state_held version is whole one
    other =
    let o : Options = options_of p.chosen state_held.file in
    record {
      file = state_held.file;
      read = state_held.read;
      fault = comment_fault o recorded time t.comments.trusted;
      error = state_held.error;
      state = ap (λ (x : State).
          with_text x (given p.chosen t) t.signature.signature (take 64 t.comments.signature)
          (comment_fault x.options x.recorded.version time t.comments.trusted)
          (unwrap_or (version_in x.options.numbering t.comments.trusted) 0)
          (signed_size x.options.list t.comments.trusted))
          state_held.state
          ∙ same_text (state_of p state_held.file state_held.read state_held.fault state_held.error)
          (signers_same t p.chosen.key p.chosen.other (key_matches == 1) (other_key_matches == 1) one other)
          (if_judged j.is_judged t.signature.signature j.signature is.judged is.signature)
          (if_judged j.is_judged (take 64 t.comments.signature) j.comment_signature is.judged
          (is.comment_signature ∙ whole))
          (ap (λ (r : Option ℕ). comment_fault o r time t.comments.trusted) (sym version)) (sym is.version)
          (sym is.size);
      fault_number = is.fault;
      error_number = state_held.error_number;
      fed = state_held.fed;
    }

-- The file name in the options of a state is the one with which the Progress represents the state.
pub same_file : (p : Progress) (s : State) (state_held : HoldsState p s) (file : List ℕ)
    → s.options.file ≡ file → file ≡ state_held.file
same_file p s state_held file named = sym named ∙ ap (λ (x : State). x.options.file) state_held.state

-- == The call ==

-- If the length of the message is 0 on success, there is no message, and the buffer is unchanged.
none_written : (r : Result ℕ (Refusal InstallFault)) (m : List ℕ) → IfOk r (λ n. n ≡ 0)
    → IfOk r (λ n. HasMessage None n m m)
none_written (Ok n) m empty = (empty, refl)
none_written (Err e) m empty = tt

-- If every error of the call is this installation error, the result is not NoRoom.
never_no_room : (r : Result ℕ (Refusal InstallFault)) (fault : InstallFault)
    → IfErr r (λ x. x ≡ Refused fault) → r ≢ Err (WrongUse NoRoom)
never_no_room (Ok n) fault same_fault no_room = absurd (cc no_room)
never_no_room (Err e) fault same_fault no_room =
    let same : e ≡ WrongUse NoRoom = cc no_room in
    absurd (cc (sym same ∙ same_fault))

-- If a check fails, the run is rejected with the error of this check, and no message is written.
pub refused : (fault : Fault) (time : Option ℕ) (s : State) (r : Result ℕ (Refusal InstallFault))
    (new : Progress) (m : List ℕ) → RunLeadsTo s (reject (Library fault) s) (without_length r) new
    → IfOk r (λ n. n ≡ 0)
    → IfErr r (λ x. x ≡ Refused (Library fault)) → SignatureLeads (Err fault) time s r new m m
refused fault time s r new m next_state empty error = record {
  leads = λ has_room. next_state;
  message = none_written r m empty;
  room = λ no_room. absurd (never_no_room r (Library fault) error no_room);
}

-- `is_reading_signature` is true only for ReadSignature.
is_read_signature : (op : Operation) → is_reading_signature op ≡ true → op ≡ fsm.ReadSignature
is_read_signature fsm.ReadSignature reading = refl
is_read_signature _ reading = absurd (true≢false (sym reading))

-- If reading the signature file is due, the event SignatureRead fits.
signature_fits : (op : Operation) (text : Result SignatureTextRecord Fault) (time : Option ℕ) (s : State)
    → is_reading_signature op ≡ true
    → after op (SignatureRead text time) s ≡ Some (after_signature (judge_text s.options text) time s)
signature_fits fsm.ReadSignature text time s reading = refl
signature_fits _ text time s reading = absurd (true≢false (sym reading))

-- If reading the signature file is due, the call makes the step with the event SignatureRead.
pub signature_steps : (p q : Progress) (s : State) (text : List ℕ) (time : Option ℕ)
    (r : Result ℕ (Refusal InstallFault)) (before after : List ℕ) → HoldsState p s
    → is_reading_signature (operation_of p.due) ≡ true
    → SignatureLeads (judged_text s text) time s r q before after
    → SignatureSteps text time s r (HoldsState q) before after
signature_steps p q s text time r before after state_held reading outcome = record {
  steps = λ has_room.
      event_fits s _ (signature_read text time) p q (without_length r) state_held
      (signature_fits (operation_of p.due) (read_utf8 read_signature text) time s reading)
      (outcome.leads has_room);
  message = outcome.message;
  room = λ no_room.
      (due_is p s state_held ∙ is_read_signature (operation_of p.due) reading, outcome.room no_room);
}

-- == An installation ==

-- If the Progress after the call represents the state after the step, so does the Installation that contains
-- it.
pub begun_signature : (i : Installation) (p : Progress) (s : State) (text : List ℕ) (time : Option ℕ)
    (r : Result ℕ (Refusal InstallFault)) (before after : List ℕ) → (i.mark == begun_mark) ≡ true
    → SignatureSteps text time s r (HoldsState p) before after
    → SignatureSteps text time s r (Represents (record i { progress = p })) before after
begun_signature i p s text time r before after begun steps = record {
  steps = λ has_room.
      let (state_held, result) = steps.steps has_room in (
        subst (λ (b : Bool). RepresentsIf b p (step s (signature_read text time)).1)
            (sym begun) state_held,
        result,
      );
  message = steps.message;
  room = steps.room;
}

-- In an Installation that was never begun, the call returns NotDue and changes nothing.
pub unbegun_signature : (i : Installation) (s : State) (text : List ℕ) (time : Option ℕ) (m : List ℕ)
    → (i.mark == begun_mark) ≡ false → Represents i s
    → SignatureSteps text time s (Err (WrongUse NotDue)) (Represents i) m m
unbegun_signature i s text time m unbegun represents = record {
  steps = λ has_room.
      unbegun_steps i s (signature_read text time) (Err (WrongUse NotDue)) unbegun represents refl;
  message = tt;
  room = λ no_room. absurd (cc no_room);
}
