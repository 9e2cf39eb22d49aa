-- Lemmas for the functions of Progress: after each event the new struct represents the state after the step.
use Rattle.std.specs.Prelude.{◌≡◌, ◌<◌, ◌==◌, ◌++◌, ℕ, Bool, true, false, List, Option, Some, None, Result}
use Rattle.std.specs.Prelude.{Ok, Err}
use Rattle.std.specs.Prelude.{if◌then◌else◌, ◌≢◌, ◌&&◌, not, is_some, IfSome, [], ◌∷◌, option_map, ◌≤◌}
use Rattle.std.specs.Prelude.{length, take, drop, ◌^◌}
use Rattle.std.specs.Option.{unwrap_or}
use Rattle.std.proofs.Common.{refl, sym, ap, ◌∙◌, arith, lit<, true≢false, subst}
use Rattle.std.proofs.lemmas.Option.{none-some, same_Some}
use Rattle.minisign_base.specs.Fault.{Fault, Named, Custom}
use Rattle.minisign_base.specs.Faults.{fault_row}
use Rattle.minisign_base.specs.declared.faults.NamedFault.{NamedFault}
use Rattle.minisign_base.specs.declared.faults.NamedFault.TheVariants.{OutOfMemory, SignatureRefused}
use Rattle.minisign_external.specs.Numbers.{fault_number}
use Rattle.minisign_external.specs.declared.public_keys.PublicKeyValue.{PublicKeyValue}
use Rattle.minisign_external.specs.declared.state.Misuse.TheVariants.{NotDue}
use Rattle.minisign_external.specs.declared.state.Refusal.{Refusal}
use Rattle.minisign_external.specs.declared.state.Refusal.TheVariants.{Refused, WrongUse}
use Rattle.minisign_install.specs.Comments.{Numbering}
use Rattle.minisign_install.specs.Decisions.{Recorded, is_below, judge_record}
use Rattle.minisign_install.specs.Faults.{InstallFault, Library, TargetInUse, install_number}
use Rattle.minisign_install.specs.Faults.{is_installer_fault}
use Rattle.minisign_install.specs.RecordTexts.{record_of}
use Rattle.minisign_install.specs.Installations.{IsNewRecord, IsWritten}
use Rattle.hex.specs.Hex.{IsBytes}
use Rattle.minisign_install.proofs.RecordTexts.{reads_back}
use Rattle.minisign_install.specs.Installations.{HoldsState, IsOwnNumber, Represents, RepresentsIf}
use Rattle.minisign_install.specs.Installations.{RunLeadsTo}
use Rattle.minisign_install.specs.Installations.{Steps}
use Rattle.minisign_install.specs.Installations.{begun_mark, error_number, is_copying}
use Rattle.minisign_install.specs.Installations.{is_locking, is_over, is_reading, is_reading_target}
use Rattle.minisign_install.specs.Installations.{is_reading_record, is_removing, operation_of, options_of}
use Rattle.minisign_install.specs.Installations.{first_key, is_writing_record, numbering_of, record_due}
use Rattle.minisign_install.specs.Installations.{recorded_of, state_of, when, IsWrittenIf}
use Rattle.minisign_install.specs.Step.{Answered, Event, step, Done, InUse, Failed, PieceCopied, PieceRead}
use Rattle.minisign_install.specs.Step.{RecordRead, TargetMissing, after_record}
use Rattle.minisign_install.specs.Step.{Operation, State, after, after_copy, after_piece, failure, go}
use Rattle.minisign_install.specs.Step.{after_comment, after_digest, after_target, answer, compare}
use Rattle.minisign_install.specs.Step.{is_newer, is_rolling_back, key_of, new_key, new_record, new_version}
use Rattle.minisign_install.specs.Step.{next_key}
use Rattle.minisign_install.specs.Step.{has_files, install, is_failure, next, proceed, reject, result_of}
use Rattle.minisign_install.specs.Step as fsm
use Rattle.minisign_install.specs.Installations.{question_by, question_due, question_of}
use Rattle.minisign_install.specs.declared.installation.Installation.{Installation}
use Rattle.minisign_install.specs.declared.installation.Question.{Question}
use Rattle.minisign_install.specs.declared.installation.progress.Progress.{Progress}
use Rattle.minisign_install.specs.declared.installation.progress.RecordedValue.{RecordedValue}
use Rattle.minisign_install.specs.Installations.{is_reading_list}
use Rattle.minisign_install.specs.Step.{ListRead, after_data, after_list, after_listing, is_listed}
use Rattle.minisign_install.specs.Step.{signed_digest}

-- == The struct ==

-- The next lemmas say that a part of the struct agrees with the same part of the state that the struct
-- represents, or that both still agree after the same change.
pub due_is : (p : Progress) (s : State) → HoldsState p s → s.due ≡ operation_of p.due
due_is p s state_held = ap (λ (x : State). x.due) state_held.state

pub error_is : (p : Progress) (s : State) → HoldsState p s → p.error ≡ error_number s.error
error_is p s state_held = state_held.error_number
    ∙ ap error_number (sym (ap (λ (x : State). x.error) state_held.state))

pub with_error : (p : Progress) (s : State) (n : ℕ) (fault : InstallFault) → n ≡ install_number fault
    → HoldsState p s → HoldsState (record p { error = n }) (record s { error = Some fault })
with_error p s n fault is state_held = record {
  file = state_held.file;
  read = state_held.read;
  fault = state_held.fault;
  error = Some fault;
  state = ap (λ (x : State). record x { error = Some fault }) state_held.state;
  fault_number = state_held.fault_number;
  error_number = is;
  fed = state_held.fed;
}

-- == Results ==

named_positive : (f : NamedFault) → 0 < (fault_row f).number
named_positive OutOfMemory = lit< tt
named_positive _ = lit< tt

library_positive : (e : Fault) → 0 < fault_number e
library_positive (Named f) = named_positive f
library_positive (Custom kind text) = lit< tt

-- No error of an installation has the number 0, which stands for no error.
positive : (e : InstallFault) → 0 < install_number e
positive (Library f) = library_positive f
positive TargetInUse = lit< tt
positive _ = lit< tt

-- If the run had no error before, the step returns the error that it finds.
pub first_error : (e : Option InstallFault) (fault : InstallFault) → error_number e ≡ 0
    → Err (Refused fault) ≡ result_of e (Some fault)
first_error None fault none = refl
first_error (Some f) fault none = absurd (omega (arith, none, positive f))

-- If the run already had an error, the result of the step is Ok.
pub later_error : (e : Option InstallFault) (fault : InstallFault) → error_number e ≢ 0
    → Ok tt ≡ result_of e (Some fault)
later_error None fault some = absurd (some refl)
later_error (Some f) fault some = refl

-- If the error is the same before and after the step, the result of the step is Ok.
pub ok_for_same_error : (e : Option InstallFault) → Ok tt ≡ result_of e e
ok_for_same_error None = refl
ok_for_same_error (Some f) = refl

-- If the old struct p represents s, and the new struct q represents s with the operation and the error that
-- `reject` sets, then q represents the state after `reject`.
pub rejected_state : (p q : Progress) (s : State) (fault : InstallFault) (op : Operation) → HoldsState p s
    → op ≡ (if has_files (operation_of p.due) then fsm.RemoveFiles else fsm.Rejected)
    → HoldsState q (go op (record s { error = Some fault })) → HoldsState q (reject fault s)
rejected_state p q s fault op state_held is after_it =
    subst (λ (d : Operation). HoldsState q (record s { due = d; error = Some fault }))
    (is ∙ ap (λ (d : Operation). if has_files d then fsm.RemoveFiles else fsm.Rejected)
    (sym (due_is p s state_held))) after_it

-- The same for two states.
pub ok_if_error_unchanged : (s t : State) → t.error ≡ s.error → Ok tt ≡ result_of s.error t.error
ok_if_error_unchanged s t is = ok_for_same_error s.error ∙ ap (result_of s.error) (sym is)

-- A conditional sets no error if neither branch does.
pick_error : (b : Bool) (x y : State) (e : Option InstallFault) → x.error ≡ e → y.error ≡ e
    → (if b then x else y).error ≡ e
pick_error true x y e one other = one
pick_error false x y e one other = other

pub compare_error : (s : State) → (compare s).error ≡ s.error
compare_error s =
    pick_error (is_newer s) _ _ s.error refl
    (pick_error (is_some s.recorded.digest) _ _ s.error refl
    (pick_error (is_rolling_back s) _ _ s.error refl refl))

pub comment_error : (s : State) → (after_comment None s).error ≡ s.error
comment_error s = pick_error (is_some s.options.list) _ _ s.error refl (compare_error s)

pub digest_error : (a : Bool) (s : State) → (after_digest a s).error ≡ s.error
digest_error a s = pick_error (not a && is_rolling_back s) _ _ s.error refl refl

-- == The record ==

-- The new struct represents the state after the result of Ed25519 for the recorded digest was stored.
pub with_is_recorded : (p : Progress) (s : State) (n : ℕ) (b : Bool) → (n == 1) ≡ b → HoldsState p s
    → HoldsState (record p { is_recorded = n }) (record s { is_recorded = b })
with_is_recorded p s n b is state_held = record {
  file = state_held.file;
  read = state_held.read;
  fault = state_held.fault;
  error = state_held.error;
  state = ap (λ (x : State). record x { is_recorded = b }) state_held.state
      ∙ ap (λ (a : Bool). record (state_of p state_held.file state_held.read state_held.fault
      state_held.error) { is_recorded = a })
      (sym is);
  fault_number = state_held.fault_number;
  error_number = state_held.error_number;
  fed = state_held.fed;
}

-- The step after Ed25519 has accepted, or below rejected, the signature for the recorded digest.
pub accepted_digest : (q : Progress) (s : State) (a : Bool) → a ≡ true
    → HoldsState q (go fsm.ReadTarget (record s { is_recorded = true })) → HoldsState q (after_digest a s)
accepted_digest q s a is state_held =
    subst (λ (b : Bool). HoldsState q (after_digest b s)) (sym is) state_held

pub refused_digest : (q : Progress) (s : State) (a : Bool) → a ≡ false → is_rolling_back s ≡ false
    → HoldsState q (go fsm.ReadTarget (record s { is_recorded = false })) → HoldsState q (after_digest a s)
refused_digest q s a is old state_held =
    subst (λ (b : Bool). HoldsState q (after_digest b s)) (sym is)
    (subst (λ (b : Bool).
    HoldsState q (if b then install s else record s { due = fsm.ReadTarget; is_recorded = false }))
    (sym old) state_held)

-- The new struct represents the state after the record was read.
pub with_recorded : (p : Progress) (s : State) (r : RecordedValue) → HoldsState p s
    → HoldsState (record p { recorded = r }) (record s { recorded = recorded_of r })
with_recorded p s r state_held = record {
  file = state_held.file;
  read = state_held.read;
  fault = state_held.fault;
  error = state_held.error;
  state = ap (λ (x : State). record x { recorded = recorded_of r }) state_held.state;
  fault_number = state_held.fault_number;
  error_number = state_held.error_number;
  fed = state_held.fed;
}

pub options_are : (p : Progress) (s : State) (state_held : HoldsState p s)
    → s.options ≡ options_of p.chosen state_held.file
options_are p s state_held = ap (λ (x : State). x.options) state_held.state

-- At ReadRecord, the event that the record was read leads to this state. At another operation, it does not
-- fit (no_record_at). Most lemmas below that end in _at come in such pairs: one says which state follows at
-- the operations that the event fits, and the other that the event does not fit at the other operations.
pub record_at : (op : Operation) (found : Option (List ℕ)) (s : State) (r : Result Recorded InstallFault)
    → is_reading_record op ≡ true → judge_record s.options found ≡ r
    → after op (RecordRead found) s ≡ Some (after_record r s)
record_at fsm.ReadRecord found s r is judged = ap (λ j. Some (after_record j s)) judged
record_at _ found s r is judged = absurd (true≢false (sym is))

pub no_record_at : (op : Operation) (found : Option (List ℕ)) (s : State) → is_reading_record op ≡ false
    → after op (RecordRead found) s ≡ None
no_record_at fsm.ReadRecord found s is = absurd (true≢false is)
no_record_at _ found s is = refl

-- == The question ==

-- No question is due in a state in which no operation is due, before the signature file was read, or if no
-- public key is left that can have made the signature.
pub no_question_if_nothing_due : (is_read : Bool) (key : Option (List ℕ)) (s : State) → s.due ≡ fsm.Nothing
    → None ≡ question_by is_read key s.due s
no_question_if_nothing_due true (Some key) s at = sym (ap (λ (op : Operation). question_of op key s) at)
no_question_if_nothing_due true None s at = refl
no_question_if_nothing_due false key s at = refl

pub no_question_before_reading : (s : State) → (length s.signature == 64) ≡ false → None ≡ question_due s
no_question_before_reading s is = rw is refl

pub no_question_without_key : (s : State) → (length s.signature == 64) ≡ true → None ≡ first_key s.signers
    → None ≡ question_due s
no_question_without_key s is none =
    ap (λ (key : Option (List ℕ)). question_by true key s.due s) none
    ∙ ap (λ (b : Bool). question_by b (first_key s.signers) s.due s) (sym is)

-- Otherwise, if the operation checks a signature, the question is due whether the first of these keys accepts
-- it.
pub question_is_due : (s : State) (key : List ℕ) (q : Option Question) → (length s.signature == 64) ≡ true
    → Some key ≡ first_key s.signers → q ≡ question_of s.due key s → q ≡ question_due s
question_is_due s key q is first same =
    same ∙ ap (λ (k : Option (List ℕ)). question_by true k s.due s) first
    ∙ ap (λ (b : Bool). question_by b (first_key s.signers) s.due s) (sym is)

-- == The new record ==

-- The first of the keys that can have made the signature.
pub key_is : (signers : List PublicKeyValue) (key : List ℕ) → first_key signers ≡ Some key
    → key_of signers ≡ key
key_is [] key is = absurd (none-some key is)
key_is (v ∷ more) key is = same_Some v.key key is

below_when : (b : Bool) (v r : ℕ) → is_below (Some v) (when b r) ≡ true → unwrap_or (when b r) v ≡ r
below_when true v r is = refl
below_when false v r is = absurd (true≢false (sym is))

-- A roll-back records the version and the key of the old record again. Every other installation records the
-- version and the key of the update. The four lemmas say in which fields of the struct these are.
pub version_in_roll_back : (p : Progress) (s : State) → HoldsState p s → is_rolling_back s ≡ true
    → new_version s ≡ p.recorded.version
version_in_roll_back p s state_held is =
    rw is (rw state_held.state (below_when (p.recorded.has_version == 1) p.judged.version p.recorded.version
    (rw state_held.state at is)))

pub version_otherwise : (p : Progress) (s : State) → HoldsState p s → is_rolling_back s ≡ false
    → new_version s ≡ p.judged.version
version_otherwise p s state_held is = rw is (ap (λ (x : State). x.version) state_held.state)

pub key_in_roll_back : (s : State) (signer key : List ℕ) → key_of s.signers ≡ signer
    → is_rolling_back s ≡ true
    → key ≡ unwrap_or s.recorded.key signer → key ≡ new_key s
key_in_roll_back s signer key first is named = rw (is, first) named

pub key_otherwise : (s : State) (signer : List ℕ) → key_of s.signers ≡ signer → is_rolling_back s ≡ false
    → signer ≡ new_key s
key_otherwise s signer first is = rw is (sym first)

pub numbering_is : (p : Progress) (s : State) → HoldsState p s
    → s.options.numbering ≡ numbering_of p.chosen.numbering
numbering_is p s state_held = ap (λ (x : State). x.options.numbering) state_held.state

pub read_is : (p : Progress) (s : State) (state_held : HoldsState p s) → s.read ≡ state_held.read
read_is p s state_held = ap (λ (x : State). x.read) state_held.state

-- Nothing is written at an operation other than WriteRecord.
pub not_writing : (s : State) (op : Operation) (n : ℕ) (old new : List ℕ) → s.due ≡ op
    → is_writing_record op ≡ false → n ≡ 0 → new ≡ old → IsWrittenIf (record_due s) n old new
not_writing s op n old new at is none same =
    subst (λ (b : Bool).
    IsWrittenIf (if b then option_map (λ key. new_record s) (first_key s.signers) else None) n old new)
    (sym (ap is_writing_record at ∙ is)) (none, same)

-- At WriteRecord, the new record is written, if there is a key.
pub writing : (s : State) (op : Operation) (key : Option (List ℕ)) (n : ℕ) (old new : List ℕ) → s.due ≡ op
    → is_writing_record op ≡ true → first_key s.signers ≡ key
    → IsWrittenIf (option_map (λ key. new_record s) key) n old new
    → IsWrittenIf (record_due s) n old new
writing s op key n old new at is first written_text =
    subst (λ (b : Bool).
    IsWrittenIf (if b then option_map (λ key. new_record s) (first_key s.signers) else None) n old new)
    (sym (ap is_writing_record at ∙ is))
    (subst (λ (k : Option (List ℕ)). IsWrittenIf (option_map (λ key. new_record s) k) n old new)
    (sym first) written_text)

pub record_same : {a b : Numbering} {n m : ℕ} {key other digest also : List ℕ} → a ≡ b → n ≡ m → key ≡ other
    → digest ≡ also → record_of a n key digest ≡ record_of b m other also
record_same numbering version key digest = λ i. record_of (numbering i) (version i) (key i) (digest i)

pub is_written : (text same : List ℕ) (n : ℕ) (old new : List ℕ) → text ≡ same
    → (0 < n → (n ≤ length new) × (take n new ≡ text)) → drop n new ≡ drop n old
    → (n ≡ 0 → (new ≡ old) × (length old < length text)) → IsWritten same n old new
is_written text same n old new is some rest none =
    subst (λ (t : List ℕ). IsWritten t n old new) is (record {
      front = some;
      rest_unchanged = rest;
      room = none;
    })

-- The bytes that are written are the record that IsNewRecord describes.
pub new_record_is : (s : State) (numbering : Numbering) (n : ℕ) (key digest : List ℕ) {bytes : List ℕ}
    → s.options.numbering ≡ numbering → new_version s ≡ n → new_key s ≡ key → signed_digest s ≡ digest
    → n < 2 ^ 64 → length key ≡ 32 → IsBytes key → length digest ≡ 64 → IsBytes digest
    → bytes ≡ record_of numbering n key digest → IsNewRecord s bytes
new_record_is s numbering n key digest numbered version named same_digest bound whole are long digits is =
    rw (is, numbered, version, named, same_digest)
    (reads_back numbering n bound key digest whole long are digits)

-- == The comment ==

-- The new struct represents the state in which the comment is signed.
pub with_signed_comment : (p : Progress) (s : State) → HoldsState p s
    → HoldsState (record p { is_signed = 1 }) (record s { is_signed = true })
with_signed_comment p s state_held = record {
  file = state_held.file;
  read = state_held.read;
  fault = state_held.fault;
  error = state_held.error;
  state = ap (λ (x : State). record x { is_signed = true }) state_held.state;
  fault_number = state_held.fault_number;
  error_number = state_held.error_number;
  fed = state_held.fed;
}

-- The error about the trusted comment, which the struct has as a number, is the error in the state.
pub fault_found : (f : Option InstallFault) (n : ℕ) (r : Option InstallFault) → IsOwnNumber n f
    → ((e : InstallFault) → is_installer_fault e ≡ true → n ≡ install_number e → r ≡ Some e)
    → IfSome r (λ e. (is_installer_fault e ≡ true) × (n ≡ install_number e)) → r ≡ f
fault_found None n None none found holds = refl
fault_found None n (Some e) none found (own, is) = absurd (omega (arith, none, is, positive e))
fault_found (Some f) n r (is, own) found holds = found f own is

-- == Steps ==

-- The struct q represents the state after the step, and r is the result of the step. Here o is what `after`
-- returns for the event: the next state, or None if the event does not fit.
abbrev StepsTo : Event → State → Result Unit (Refusal InstallFault) → Progress → Option State → Type 0
StepsTo e s r q o = HoldsState q (answer s o).1 × (r ≡ (answer s o).0)

-- If the event fits, and q represents the state that `after` returns with the result r, then q and r are as
-- after the whole step.
pub event_fits : (s t : State) (e : Event) (p q : Progress) (r : Result Unit (Refusal InstallFault))
    → HoldsState p s → after (operation_of p.due) e s ≡ Some t → RunLeadsTo s t r q → Steps e s r q
event_fits s t e p q r state_held is leads =
    subst (StepsTo e s r q) (sym (ap (λ (op : Operation). after op e s) (due_is p s state_held) ∙ is)) leads

-- If the event does not fit, the unchanged struct represents the state after the step, and the result is
-- NotDue.
pub event_is_not_due : (s : State) (e : Event) (p : Progress) (r : Result Unit (Refusal InstallFault))
    → HoldsState p s
    → after (operation_of p.due) e s ≡ None → r ≡ Err (WrongUse NotDue) → Steps e s r p
event_is_not_due s e p r state_held is wrong =
    subst (StepsTo e s r p) (sym (ap (λ (op : Operation). after op e s) (due_is p s state_held)
    ∙ is)) (state_held, wrong)

-- The next lemmas give the state after Ed25519 has accepted or rejected a signature, at each operation that
-- verifies one.
pub accepted_comment : (op : Operation) (a : Bool) (s : State) → op ≡ fsm.CheckComment → a ≡ true
    → after op (Answered a) s ≡ Some (after_comment s.fault (record s { is_signed = true }))
accepted_comment op a s at is = rw (at, is) refl

pub refused_comment : (op : Operation) (a : Bool) (s : State) → op ≡ fsm.CheckComment → a ≡ false
    → after op (Answered a) s ≡ Some (next_key s.signers s)
refused_comment op a s at is = rw (at, is) refl

pub answered_record : (op : Operation) (a : Bool) (s : State) → op ≡ fsm.CheckRecord
    → after op (Answered a) s ≡ Some (after_digest a s)
answered_record op a s at = rw at refl

pub accepted_list : (op : Operation) (a : Bool) (s : State) → op ≡ fsm.CheckList → a ≡ true
    → after op (Answered a) s
    ≡ Some (after_listing s.listing.listed (record s { is_list_signed = true }))
accepted_list op a s at is = rw (at, is) refl

pub refused_list : (op : Operation) (a : Bool) (s : State) → op ≡ fsm.CheckList → a ≡ false
    → after op (Answered a) s ≡ Some (reject (Library (Named SignatureRefused)) s)
refused_list op a s at is = rw (at, is) refl

pub answered_target : (op : Operation) (a b : Bool) (s : State) → op ≡ fsm.CheckTarget
    → (a && is_listed s) ≡ b → after op (Answered a) s ≡ Some (after_target b s)
answered_target op a b s at is = rw (at, is) refl

pub accepted_data : (op : Operation) (a : Bool) (s : State) → op ≡ fsm.CheckData → a ≡ true
    → after op (Answered a) s ≡ Some (after_data (is_listed s) s)
accepted_data op a s at is = rw (at, is) refl

pub refused_data : (op : Operation) (a : Bool) (s : State) → op ≡ fsm.CheckData → a ≡ false
    → after op (Answered a) s ≡ Some (reject (Library (Named SignatureRefused)) s)
refused_data op a s at is = rw (at, is) refl

-- At an operation without a question for Ed25519, a result of Ed25519 does not fit.
pub no_answer_at : (op : Operation) (a : Bool) (s : State) → op ≢ fsm.CheckComment → op ≢ fsm.CheckList
    → op ≢ fsm.CheckRecord → op ≢ fsm.CheckTarget → op ≢ fsm.CheckData → after op (Answered a) s ≡ None
no_answer_at fsm.CheckComment a s comment list recorded target data_is = absurd (comment refl)
no_answer_at fsm.CheckList a s comment list recorded target data_is = absurd (list refl)
no_answer_at fsm.CheckRecord a s comment list recorded target data_is = absurd (recorded refl)
no_answer_at fsm.CheckTarget a s comment list recorded target data_is = absurd (target refl)
no_answer_at fsm.CheckData a s comment list recorded target data_is = absurd (data_is refl)
no_answer_at _ a s comment list recorded target data_is = refl

-- == An installation ==

-- The struct of an installation that was begun represents the state. One that was never begun (unbegun_holds)
-- represents a state in which nothing happened.
pub begun_holds : (i : Installation) (s : State) → (i.mark == begun_mark) ≡ true → Represents i s
    → HoldsState i.progress s
begun_holds i s is held = subst (λ (b : Bool). RepresentsIf b i.progress s) is held

pub unbegun_holds : (i : Installation) (s : State) → (i.mark == begun_mark) ≡ false → Represents i s
    → (s.due ≡ fsm.Nothing) × (s.is_signed ≡ false) × (s.error ≡ None) × (s.is_list_signed ≡ false)
unbegun_holds i s is held = subst (λ (b : Bool). RepresentsIf b i.progress s) is held

-- If the Progress after a call represents the state after the step, so does the Installation that contains
-- it.
pub begun_steps : (i : Installation) (p : Progress) (s : State) (e : Event)
    (r : Result Unit (Refusal InstallFault)) → (i.mark == begun_mark) ≡ true → Steps e s r p
    → Represents (record i { progress = p }) (step s e).1 × (r ≡ (step s e).0)
begun_steps i p s e r is (state_held, result) =
    (subst (λ (b : Bool). RepresentsIf b p (step s e).1) (sym is) state_held, result)

nothing_accepts_no_event : (e : Event) (s : State) → after fsm.Nothing e s ≡ None
nothing_accepts_no_event Done s = refl
nothing_accepts_no_event (Failed f) s = refl
nothing_accepts_no_event _ s = refl

-- In an Installation that was never begun, every call returns NotDue and changes nothing.
pub unbegun_steps : (i : Installation) (s : State) (e : Event) (r : Result Unit (Refusal InstallFault))
    → (i.mark == begun_mark) ≡ false → Represents i s → r ≡ Err (WrongUse NotDue)
    → Represents i (step s e).1 × (r ≡ (step s e).0)
unbegun_steps i s e r is held wrong =
    let at = (unbegun_holds i s is held).0 in
    subst (λ (o : Option State). Represents i (answer s o).1 × (r ≡ (answer s o).0))
    (sym (ap (λ (op : Operation). after op e s) at ∙ nothing_accepts_no_event e s)) (held, wrong)

-- The state after Done: the operation that always follows, except at CopyData (copied_at).
pub done_proceeds : (op : Operation) (s : State) → is_copying op ≡ false
    → after op Done s ≡ proceed (next op) s
done_proceeds fsm.CopyData s is = absurd (true≢false is)
done_proceeds _ s is = refl

pub copied_at : (op : Operation) (s : State) → is_copying op ≡ true
    → after op Done s ≡ Some (after_copy s.left s)
copied_at fsm.CopyData s is = refl
copied_at _ s is = absurd (true≢false (sym is))

pub piece_at : (op : Operation) (n : ℕ) (s : State) → is_copying op ≡ true
    → after op (PieceCopied n) s ≡ Some (after_piece n s.left s)
piece_at fsm.CopyData n s is = refl
piece_at _ n s is = absurd (true≢false (sym is))

pub no_piece_at : (op : Operation) (n : ℕ) (s : State) → is_copying op ≡ false
    → after op (PieceCopied n) s ≡ None
no_piece_at fsm.CopyData n s is = absurd (true≢false is)
no_piece_at _ n s is = refl

pub read_at : (op : Operation) (bytes : List ℕ) (s : State) → is_reading op ≡ true
    → after op (PieceRead bytes) s ≡ Some (record s { read = s.read ++ bytes })
read_at fsm.ReadTarget bytes s is = refl
read_at fsm.ReadBack bytes s is = refl
read_at _ bytes s is = absurd (true≢false (sym is))

pub no_read_at : (op : Operation) (bytes : List ℕ) (s : State) → is_reading op ≡ false
    → after op (PieceRead bytes) s ≡ None
no_read_at fsm.ReadTarget bytes s is = absurd (true≢false is)
no_read_at fsm.ReadBack bytes s is = absurd (true≢false is)
no_read_at _ bytes s is = refl

pub list_at : (op : Operation) (list name : List ℕ) (s : State) → is_reading_list op ≡ true
    → after op (ListRead list name) s ≡ Some (after_list list name s)
list_at fsm.ReadList list name s is = refl
list_at _ list name s is = absurd (true≢false (sym is))

pub no_list_at : (op : Operation) (list name : List ℕ) (s : State) → is_reading_list op ≡ false
    → after op (ListRead list name) s ≡ None
no_list_at fsm.ReadList list name s is = absurd (true≢false is)
no_list_at _ list name s is = refl

pub missing_at : (op : Operation) (s : State) → is_reading_target op ≡ true
    → after op TargetMissing s ≡ Some (install s)
missing_at fsm.ReadTarget s is = refl
missing_at _ s is = absurd (true≢false (sym is))

pub no_missing_at : (op : Operation) (s : State) → is_reading_target op ≡ false
    → after op TargetMissing s ≡ None
no_missing_at fsm.ReadTarget s is = absurd (true≢false is)
no_missing_at _ s is = refl

pub in_use_at : (op : Operation) (s : State) → is_locking op ≡ true
    → after op InUse s ≡ Some (reject TargetInUse s)
in_use_at fsm.Lock s is = refl
in_use_at _ s is = absurd (true≢false (sym is))

pub no_in_use_at : (op : Operation) (s : State) → is_locking op ≡ false → after op InUse s ≡ None
no_in_use_at fsm.Lock s is = absurd (true≢false is)
no_in_use_at _ s is = refl

-- No failure fits after the end of a run. While files are removed, the run goes on to its end (removing_at).
-- At all other operations it is rejected (failed_at).
pub ended_accepts_no_failure : (op : Operation) (f : NamedFault) (s : State) → is_over op ≡ true
    → after op (Failed f) s ≡ None
ended_accepts_no_failure fsm.Nothing f s is = refl
ended_accepts_no_failure fsm.Installed f s is = refl
ended_accepts_no_failure fsm.AlreadyInstalled f s is = refl
ended_accepts_no_failure fsm.WouldInstall f s is = refl
ended_accepts_no_failure fsm.Rejected f s is = refl
ended_accepts_no_failure _ f s is = absurd (true≢false (sym is))

pub removing_at : (op : Operation) (f : NamedFault) (s : State) → is_removing op ≡ true
    → is_failure f ≡ true → after op (Failed f) s ≡ Some (go fsm.Rejected s)
removing_at fsm.RemoveFiles f s is fault = rw fault refl
removing_at _ f s is fault = absurd (true≢false (sym is))

pub failed_at : (op : Operation) (f : NamedFault) (s : State) → is_over op ≡ false → is_removing op ≡ false
    → is_failure f ≡ true → s.due ≡ op → after op (Failed f) s ≡ Some (reject (failure op f) s)
failed_at fsm.RemoveFiles f s over is fault at = absurd (true≢false is)
failed_at fsm.Nothing f s over is fault at = absurd (true≢false over)
failed_at fsm.Installed f s over is fault at = absurd (true≢false over)
failed_at fsm.AlreadyInstalled f s over is fault at = absurd (true≢false over)
failed_at fsm.WouldInstall f s over is fault at = absurd (true≢false over)
failed_at fsm.Rejected f s over is fault at = absurd (true≢false over)
failed_at _ f s over is fault at = rw (fault, at) refl

pub no_failure_at : (op : Operation) (f : NamedFault) (s : State) → is_failure f ≡ false
    → after op (Failed f) s ≡ None
no_failure_at fsm.Nothing f s is = refl
no_failure_at fsm.Installed f s is = refl
no_failure_at fsm.AlreadyInstalled f s is = refl
no_failure_at fsm.WouldInstall f s is = refl
no_failure_at fsm.Rejected f s is = refl
no_failure_at _ f s is = rw is refl
