-- Proves that `first_unlawful_line` accepts a trace of a lawful application that records each report and
-- effect.
use Rattle.std.specs.Prelude.{◌≡◌, ◌<◌, ◌≤◌, ◌==◌, ◌&&◌, ◌||◌, ◌++◌, ◌⊎◌, ◌-◌, ℕ, Bool, true, false, not}
use Rattle.std.specs.Prelude.{List, [], ◌∷◌, Option, Some, None, option_map, is_some, Result, Ok, Err}
use Rattle.std.specs.Prelude.{bytes_eq, length, nat_le, IfSome, if◌then◌else◌}
use Rattle.std.proofs.Common.{append_assoc, drop, take, ◌+◌}
use Rattle.std.proofs.Common.{refl, inl, inr, sym, ap, ◌∙◌, arith, true≢false, eq-eqb, Bor}
use Rattle.std.proofs.Math.Seq.{drop-append_seam, take-append-add, take-append_seam}
use Rattle.std.proofs.lemmas.Option.{none-some, same_Some}
use Rattle.std.proofs.lemmas.Slice.Eq.{bytes_eq-Decides}
use Rattle.minisign_external.specs.declared.public_keys.PublicKeyValue.{PublicKeyValue}
use Rattle.minisign.specs.SignatureText.{SignatureTextRecord}
use Rattle.minisign_install.specs.Applications.{File, Snapshot, Performs, content}
use Rattle.minisign_install.specs.Decisions.{Recorded, judge_record, judge_text}
use Rattle.minisign_base.specs.declared.faults.NamedFault.TheVariants as named
use Rattle.minisign_install.specs.Faults.{Fault, InstallFault, Library, Named, OtherSize, SameNumber}
use Rattle.minisign_install.specs.Faults.{TargetInUse}
use Rattle.minisign_install.specs.Step.{Event, Operation, State, after, answer, step}
use Rattle.minisign_install.specs.Step as fsm
use Rattle.minisign_install.specs.StepRuns.{IsAnswer, World, accepts_question}
use Rattle.minisign_install.specs.Installations.{IsTooLong, comment_message, judged_text, signature_read}
use Rattle.minisign_install.specs.Decisions.{Options}
use Rattle.minisign.specs.SignatureText.{read_signature}
use Rattle.minisign_external.specs.PublicKeys.{read_utf8}
use Rattle.minisign_external.specs.declared.state.Misuse.TheVariants.{NotDue}
use Rattle.minisign_install.specs.Installations.{about, first_key, question_by, question_due}
use Rattle.minisign_install.specs.declared.installation.Question.{Question}
use Rattle.minisign_external.specs.declared.state.Misuse.{Misuse}
use Rattle.minisign_external.specs.declared.state.Refusal.{Refusal}
use Rattle.minisign_external.specs.declared.state.Refusal.TheVariants.{WrongUse}
use Rattle.minisign_install.specs.Traces.{IsReadFrom, is_reported}
use Rattle.minisign_install.specs.Traces.{MessageFits, HasCommentMessage, HasWholeMessage, HasInputs}
use Rattle.std.specs.Prelude.{replicate, ◌≢◌}
use Rattle.std.proofs.Common.{length-append}
use Rattle.std.proofs.lemmas.Bool.{eqb-true, ne_eqb}
use Rattle.minisign_install.specs.Traces.{CanGrow, IsDoneAs, ReportMatches, IsPieceOf, AreFilesOf, Seen}
use Rattle.minisign_install.specs.Traces.{affected, bytes_seen, event_of, has_failed, is_done, is_effect}
use Rattle.minisign_install.specs.Traces.{is_read, seen, seen_as, world_of}
use Rattle.minisign_install.specs.declared.traces.Effect.{Effect}
use Rattle.minisign_install.specs.declared.traces.Effect.TheVariants as effect
use Rattle.minisign_install.specs.declared.traces.FileView.{FileView}
use Rattle.minisign_install.specs.declared.traces.Files.{Files}
use Rattle.minisign_install.specs.declared.traces.RunInputs.{RunInputs}
use Rattle.minisign_install.specs.declared.traces.Report.{Report}
use Rattle.minisign_install.specs.declared.traces.Report.TheVariants as report
use Rattle.minisign_install.proofs.StepSafety.{Passed, text_parsed}
use Rattle.minisign_install.proofs.Tracing.{bytes_are}
use Rattle.minisign_lists.specs.declared.digests.ListedDigest.{ListedDigest}
use Rattle.minisign_install.specs.Faults.{DigestMismatch}
use Rattle.minisign_install.specs.Step.{signed_digest}

-- Lists that are equal are equal for `bytes_eq`.
pub equal_bytes : (one other : List ℕ) → one ≡ other → bytes_eq one other ≡ true
equal_bytes one other is = (bytes_eq-Decides one other).1 is

and_true : (a b : Bool) → a ≡ true → b ≡ true → (a && b) ≡ true
and_true true b one other = other
and_true false b one other = absurd (true≢false (sym one))

-- If the bytes begin with `front` and `piece`, then both can be cut out of them at these lengths.
pub piece_cut : (whole front piece : List ℕ) → IsPieceOf whole front piece
    → (take (length front) (take (length front + length piece) whole) ≡ front)
    × (drop (length front) (take (length front + length piece) whole) ≡ piece)
piece_cut whole front piece (rest, is) =
    let grown : take (length front + length piece) whole ≡ front ++ piece =
    ap (take (length front + length piece)) (is ∙ append_assoc front piece rest)
    ∙ take-append-add front (piece ++ rest) (length piece)
    ∙ ap (λ (l : List ℕ). front ++ l) (take-append_seam piece rest) in (
      ap (take (length front)) grown ∙ take-append_seam front piece,
      ap (drop (length front)) grown ∙ drop-append_seam front piece,
    )

-- A list is not equal to one with another element in front.
pub is_longer : {A : Type 0} (x : A) (l : List A) → x ∷ l ≡ l → ⊥
is_longer x l is = omega (arith, ap length is)

-- == Files ==

read_found : (place : Option File) (v : Option FileView) (number : ℕ) (read : List ℕ) (file : File)
    → option_map seen place ≡ option_map seen_as v → place ≡ Some file → file.bytes ≡ read
    → number ≡ file.number → is_read number read v ≡ true
read_found (Some found) (Some v) number read file is at holds one =
    let same = same_Some (seen found) (seen_as v) is in
    let present : found ≡ file = same_Some found file at in
    and_true (v.number == number) (bytes_eq v.bytes.now read)
    (eq-eqb v.number number (sym (ap (λ (x : Seen). x.number) same) ∙ ap (λ (x : File). x.number) present
    ∙ sym one))
    (equal_bytes v.bytes.now read (sym (ap (λ (x : Seen). x.bytes) same) ∙ ap (λ (x : File). x.bytes) present
    ∙ holds))
read_found (Some found) None number read file is at holds one = absurd (none-some (seen found) (sym is))
read_found None v number read file is at holds one = absurd (none-some file at)

-- If a view has the number and the bytes of a file, it has its content; there is no view if there is no file
-- (none_seen).
pub content_is : (place : Option File) (v : Option FileView)
    → option_map seen place ≡ option_map seen_as v → content place ≡ option_map (λ x. x.bytes.now) v
content_is (Some file) (Some v) is =
    ap (λ (x : Seen). Some x.bytes) (same_Some (seen file) (seen_as v) is)
content_is (Some file) None is = absurd (none-some (seen file) (sym is))
content_is None (Some v) is = absurd (none-some (seen_as v) is)
content_is None None is = refl

pub none_seen : (place : Option File) (v : Option FileView) → option_map seen place ≡ option_map seen_as v
    → place ≡ None → v ≡ None
none_seen (Some file) v is at = absurd (none-some file (sym at))
none_seen None (Some v) is at = absurd (none-some (seen_as v) is)
none_seen None None is at = refl

-- == Operations ==

-- If an operation is done as Performs says, and the effect is one that it has, `is_done` accepts the effect.
pub done_found : (w : World) (s : State) (op : Operation) (did : Effect) (f : Files) (m : Snapshot)
    (read update : List ℕ) → AreFilesOf f m → read ≡ s.read → w.update ≡ update
    → Performs w s op fsm.Done m (affected did m) → is_effect op did ≡ true
    → is_done op did f read update ≡ true
done_found w s fsm.Lock effect.Locked f m read update present same offered done is =
    ap not (sym present.busy ∙ done.0)
done_found w s fsm.ReadTarget (effect.TargetOpened number) f m read update present same offered
    (file, at, holds, one) is =
    read_found m.target f.target number read file present.target at (holds ∙ sym same)
    (same_Some number file.number (ap (λ (x : Snapshot). x.opened) one))
done_found w s fsm.CopyData effect.Nothing f m read update present same offered done is =
    equal_bytes _ update (sym (bytes_are m.data_file f.data_file present.data_file) ∙ done.0 ∙ offered)
done_found w s fsm.ReadBack effect.Nothing f m read update present same offered done is =
    equal_bytes read _ (same ∙ done.0 ∙ bytes_are m.data_file f.data_file present.data_file)
done_found w s op did f m read update present same offered done is = is

-- An operation other than WriteRecord has an effect that `is_effect` accepts.
pub done_as : (s : State) (op : Operation) (did : Effect) → (op ≡ fsm.WriteRecord → ⊥) → IsDoneAs s op did
    → is_effect op did ≡ true
done_as s fsm.WriteRecord did other is = absurd (other refl)
done_as s op did other is = is

-- The next lemmas, up to piece_due, say what Performs requires for an event: the operation that must be due,
-- and what is true of the files. Those with `leaves` in their names say that the files are unchanged.
pub in_use_found : (w : World) (s : State) (op : Operation) (old new : Snapshot)
    → Performs w s op fsm.InUse old new → (op ≡ fsm.Lock) × (old.busy ≡ true)
in_use_found w s fsm.Lock old new is = (refl, is.0)
in_use_found w s op old new is = absurd is

pub record_found : (w : World) (s : State) (op : Operation) (found : Option (List ℕ)) (old new : Snapshot)
    → Performs w s op (fsm.RecordRead found) old new
    → (op ≡ fsm.ReadRecord) × (found ≡ w.found_record) × (found ≡ content old.recorded)
record_found w s fsm.ReadRecord found old new is = (refl, is.0, is.1)
record_found w s op found old new is = absurd is

pub target_missed : (w : World) (s : State) (op : Operation) (old new : Snapshot)
    → Performs w s op fsm.TargetMissing old new → (op ≡ fsm.ReadTarget) × (old.target ≡ None)
target_missed w s fsm.ReadTarget old new is = (refl, is.0)
target_missed w s op old new is = absurd is

pub copy_found : (w : World) (s : State) (op : Operation) (n : ℕ) (old new : Snapshot)
    → Performs w s op (fsm.PieceCopied n) old new → op ≡ fsm.CopyData
copy_found w s fsm.CopyData n old new is = refl
copy_found w s op n old new is = absurd is

pub answer_found : (w : World) (s : State) (op : Operation) (accepted : Bool) (old new : Snapshot)
    → Performs w s op (fsm.Answered accepted) old new → IsAnswer w s op accepted
answer_found w s fsm.CheckComment accepted old new is = is.0
answer_found w s op accepted old new is = is.0

pub answer_leaves : (w : World) (s : State) (op : Operation) (accepted : Bool) (old new : Snapshot)
    → Performs w s op (fsm.Answered accepted) old new → Performs w s op (fsm.Answered accepted) old old
answer_leaves w s fsm.CheckComment accepted old new is = (is.0, refl)
answer_leaves w s op accepted old new is = (is.0, refl)

pub piece_some : (w : World) (s : State) (op : Operation) (bytes : List ℕ) (old new : Snapshot)
    → Performs w s op (fsm.PieceRead bytes) old new → 0 < length bytes
piece_some w s fsm.ReadTarget bytes old new is = is.0
piece_some w s fsm.ReadBack bytes old new is = is.0
piece_some w s op bytes old new is = absurd is

pub piece_leaves : (w : World) (s : State) (op : Operation) (bytes : List ℕ) (old new : Snapshot)
    → Performs w s op (fsm.PieceRead bytes) old new → Performs w s op (fsm.PieceRead bytes) old old
piece_leaves w s fsm.ReadTarget bytes old new is = (is.0, is.1, refl)
piece_leaves w s fsm.ReadBack bytes old new is = (is.0, is.1, refl)
piece_leaves w s op bytes old new is = absurd is

pub piece_due : (w : World) (s : State) (op : Operation) (bytes : List ℕ) (old new : Snapshot)
    → Performs w s op (fsm.PieceRead bytes) old new → (op ≡ fsm.ReadTarget) ⊎ (op ≡ fsm.ReadBack)
piece_due w s fsm.ReadTarget bytes old new is = inl refl
piece_due w s fsm.ReadBack bytes old new is = inr refl
piece_due w s op bytes old new is = absurd is

-- == Events ==

-- The event is that the signature file was read.
abbrev pub is_text : Event → Bool
is_text (fsm.SignatureRead text time) = true
is_text e = false

-- A report that is not that of a signature file is no such event.
pub other_text : (reported : Report)
    → ((text : Bor (List ℕ)) (time : Option ℕ) → reported ≢ report.Signature text time)
    → is_text (event_of reported) ≡ false
other_text (report.Signature text time) other = absurd (other text time refl)
other_text reported other = refl

some_bytes : (n : ℕ) → 0 < n → not (n == 0) ≡ true
some_bytes n some = ap not (ne_eqb n 0 (λ none. omega (arith, some, none)))

-- The function `has_reported` passes on every report that is not that of a signature file.
pub other_reported : (w : World) (s : State) (reported : Report) (old new : Snapshot)
    → ((text : Bor (List ℕ)) (time : Option ℕ) → reported ≢ report.Signature text time)
    → Performs w s s.due (event_of reported) old new → is_reported reported ≡ true
other_reported w s (report.Signature text time) old new other is = absurd (other text time refl)
other_reported w s (report.Piece bytes) old new other is =
    some_bytes (length bytes.now) (piece_some w s s.due bytes.now old new is)
other_reported w s reported old new other is = refl

-- == Data that is appended ==

-- Neither an operation that reports Done nor a failed one (not_failed_with) appends data.
not_done_as : {P : Type 0} (s : State) (op : Operation) (piece : Bor (List ℕ))
    → IsDoneAs s op (effect.DataGrown piece) → P
not_done_as s fsm.WriteRecord piece is = absurd is
not_done_as s op piece is = absurd (true≢false (sym is))

not_failed_with : {P : Type 0} (op : Operation) (piece : Bor (List ℕ))
    → has_failed op (effect.DataGrown piece) ≡ true → P
not_failed_with fsm.RenameRecord piece is = absurd (true≢false (sym is))
not_failed_with op piece is = absurd (true≢false (sym is))

contradiction : {P : Type 0} → false ≡ true → P
contradiction is = absurd (true≢false (sym is))

-- If a trace records that data was appended, the data is the next piece of the update.
piece_is_next : (g : RunInputs) (s : State) (f : Files) (m : Snapshot) (source : List ℕ) (reported : Report)
    (piece : Bor (List ℕ)) (new : Snapshot) → AreFilesOf f m
    → Performs (world_of g) s s.due (event_of reported) m new
    → ReportMatches g s m source reported (effect.DataGrown piece)
    → CanGrow s g.update.now (bytes_seen f.data_file) (effect.DataGrown piece)
piece_is_next g s f m source report.Done piece new present done is = not_done_as s s.due piece is
piece_is_next g s f m source (report.Failed fault) piece new present done is = not_failed_with s.due piece is
piece_is_next g s f m source (report.Signature text time) piece new present done is = contradiction is.0
piece_is_next g s f m source (report.Answered accepted) piece new present done is = contradiction is.0
piece_is_next g s f m source (report.Piece bytes) piece new present done is = contradiction is.0
piece_is_next g s f m source (report.Copied n) piece new present done (some, long, next) = (
  copy_found (world_of g) s s.due n m new done,
  (rw long some, refl, rw (bytes_are m.data_file f.data_file present.data_file) at next),
)
piece_is_next g s f m source reported piece new present done is = contradiction is

-- The same for any effect: if data was appended, it is the next piece.
pub can_grow : (g : RunInputs) (s : State) (f : Files) (m : Snapshot) (source : List ℕ) (reported : Report)
    (did : Effect) (new : Snapshot) → AreFilesOf f m → Performs (world_of g) s s.due (event_of reported) m new
    → ReportMatches g s m source reported did → CanGrow s g.update.now (bytes_seen f.data_file) did
can_grow g s f m source reported (effect.DataGrown piece) new present done is =
    piece_is_next g s f m source reported piece new present done is
can_grow g s f m source reported did new present done is = tt

-- If the report is a piece that was read, it is the next one.
pub read_from : (g : RunInputs) (s : State) (m : Snapshot) (source : List ℕ) (reported : Report)
    (did : Effect)
    → ReportMatches g s m source reported did → IsReadFrom s source reported
read_from g s m source (report.Piece bytes) did is = is.1
read_from g s m source reported did is = tt

-- == The question about the comment ==

-- The check of the trusted comment is not due at the beginning.
pub not_at_first : (check : Bool) → (if check then fsm.ReadRecord else fsm.Lock) ≡ fsm.CheckComment → ⊥
not_at_first true = λ at. cc at
not_at_first false = λ at. cc at

-- This operation does not check the signature of the trusted comment.
abbrev IsNotCheckComment : Operation → Type 0
IsNotCheckComment op = op ≡ fsm.CheckComment → ⊥

-- After an error, the run removes its temporary files, or it has ended.
after_rejection : (is : Bool) → IsNotCheckComment (if is then fsm.RemoveFiles else fsm.Rejected)
after_rejection true = λ at. cc at
after_rejection false = λ at. cc at

-- The next lemmas have the names of the functions in Step.antt that choose the next state. Each proves that
-- the operation after its function is not CheckComment.
reject : (fault : InstallFault) (s : State) → IsNotCheckComment (fsm.reject fault s).due
reject fault s = after_rejection (fsm.has_files s.due)

-- The operation after `install`, in a check and in an installation.
to_install : (check : Bool) → IsNotCheckComment (if check then fsm.WouldInstall else fsm.RemoveLeftovers)
to_install true = λ at. cc at
to_install false = λ at. cc at

install : (s : State) → IsNotCheckComment (fsm.install s).due
install s = to_install s.options.check

-- The result of a conditional has the property if both branches have it.
both_branches : (is : Bool) (x y : State) → IsNotCheckComment x.due → IsNotCheckComment y.due
    → IsNotCheckComment (if is then x else y).due
both_branches true x y one other = one
both_branches false x y one other = other

after_record : (r : Result Recorded InstallFault) (s : State) → IsNotCheckComment (fsm.after_record r s).due
after_record (Ok r) s = λ at. cc at
after_record (Err fault) s = reject fault s

compare : (s : State) → IsNotCheckComment (fsm.compare s).due
compare s =
    both_branches (fsm.is_newer s) (fsm.install s) _ (install s)
    (both_branches (is_some s.recorded.digest) (fsm.go fsm.CheckRecord s) _ (λ at. cc at)
    (both_branches (fsm.is_rolling_back s) (fsm.install s) (fsm.go fsm.ReadTarget s) (install s)
    (λ at. cc at)))

after_listing : (listed : Result ListedDigest InstallFault) (s : State)
    → IsNotCheckComment (fsm.after_listing listed s).due
after_listing (Ok digest) s = compare s
after_listing (Err fault) s = reject fault s

after_data : (listed : Bool) (s : State) → IsNotCheckComment (fsm.after_data listed s).due
after_data true s = λ at. cc at
after_data false s = reject DigestMismatch s

after_digest : (accepted : Bool) (s : State) → IsNotCheckComment (fsm.after_digest accepted s).due
after_digest accepted s =
    both_branches (not accepted && fsm.is_rolling_back s) (fsm.install s)
    (record s { due = fsm.ReadTarget; is_recorded = accepted }) (install s) (λ at. cc at)

target_is_update : (check : Bool) → IsNotCheckComment (if check then fsm.AlreadyInstalled else fsm.SyncTarget)
target_is_update true = λ at. cc at
target_is_update false = λ at. cc at

after_target : (accepted : Bool) (s : State) → IsNotCheckComment (fsm.after_target accepted s).due
after_target true s = target_is_update s.options.check
after_target false s =
    both_branches (s.is_recorded || s.options.again) (fsm.install s) (fsm.reject SameNumber s) (install s)
    (reject SameNumber s)

after_piece : (n : ℕ) (left : Option ℕ) (s : State) → s.due ≡ fsm.CopyData
    → IsNotCheckComment (fsm.after_piece n left s).due
after_piece n None s at = λ is. cc (at, is)
after_piece n (Some left) s at =
    both_branches (nat_le n left) (record s { left = Some (left - n) }) (fsm.reject OtherSize s)
    (λ is. cc (at, is)) (reject OtherSize s)

after_copy : (left : Option ℕ) (s : State) → IsNotCheckComment (fsm.after_copy left s).due
after_copy None s = λ at. cc at
after_copy (Some left) s =
    both_branches (left == 0) (fsm.go fsm.ReadBack s) (fsm.reject OtherSize s) (λ at. cc at)
    (reject OtherSize s)

-- If the check of the trusted comment is due in this state, it was due before.
abbrev WasDueBefore : Operation → State → Type 0
WasDueBefore op t = t.due ≡ fsm.CheckComment → op ≡ fsm.CheckComment

not_due_after : (op : Operation) (t : State) → IsNotCheckComment t.due → WasDueBefore op t
not_due_after op t other = λ is. absurd (other is)

-- Nothing has to be proved if the event does not fit.
holds_if_some : (op : Operation) (is : Bool) (t : State) → WasDueBefore op t
    → IfSome (if is then Some t else None) (WasDueBefore op)
holds_if_some op true t holds = holds
holds_if_some op false t holds = tt

was_due : (r : Option State) → IfSome r (WasDueBefore fsm.CheckComment)
was_due (Some t) = λ is. refl
was_due None = tt

-- No event but that of reading the signature file makes this check due.
was_due_before : (op : Operation) (e : Event) (s : State) → s.due ≡ op → is_text e ≡ false
    → IfSome (after op e s) (WasDueBefore op)
was_due_before fsm.CheckComment e s at other = was_due (after fsm.CheckComment e s)
was_due_before fsm.Nothing (fsm.Failed f) s at other = tt
was_due_before fsm.Installed (fsm.Failed f) s at other = tt
was_due_before fsm.AlreadyInstalled (fsm.Failed f) s at other = tt
was_due_before fsm.WouldInstall (fsm.Failed f) s at other = tt
was_due_before fsm.Rejected (fsm.Failed f) s at other = tt
was_due_before fsm.RemoveFiles (fsm.Failed f) s at other =
    holds_if_some fsm.RemoveFiles (fsm.is_failure f) (fsm.go fsm.Rejected s) (λ is. cc is)
was_due_before op (fsm.Failed f) s at other =
    holds_if_some op (fsm.is_failure f) (fsm.reject (fsm.failure s.due f) s)
    (not_due_after op (fsm.reject (fsm.failure s.due f) s) (reject (fsm.failure s.due f) s))
was_due_before fsm.ReadSignature (fsm.SignatureRead text time) s at other = absurd (true≢false other)
was_due_before fsm.Lock fsm.InUse s at other = λ is. absurd (reject TargetInUse s is)
was_due_before fsm.ReadRecord (fsm.RecordRead found) s at other =
    λ is. absurd (after_record (judge_record s.options found) s is)
was_due_before fsm.ReadList (fsm.ListRead list name) s at other = λ is. cc is
was_due_before fsm.CheckList (fsm.Answered true) s at other =
    λ is. absurd (after_listing s.listing.listed (record s { is_list_signed = true }) is)
was_due_before fsm.CheckList (fsm.Answered false) s at other =
    λ is. absurd (reject (Library (Named named.SignatureRefused)) s is)
was_due_before fsm.CheckRecord (fsm.Answered accepted) s at other = λ is. absurd (after_digest accepted s is)
was_due_before fsm.ReadTarget (fsm.PieceRead bytes) s at other = λ is. cc (at, is)
was_due_before fsm.ReadTarget fsm.TargetMissing s at other = λ is. absurd (install s is)
was_due_before fsm.CheckTarget (fsm.Answered accepted) s at other =
    λ is. absurd (after_target (accepted && fsm.is_listed s) s is)
was_due_before fsm.CopyData (fsm.PieceCopied n) s at other = λ is. absurd (after_piece n s.left s at is)
was_due_before fsm.CopyData fsm.Done s at other = λ is. absurd (after_copy s.left s is)
was_due_before fsm.ReadBack (fsm.PieceRead bytes) s at other = λ is. cc (at, is)
was_due_before fsm.CheckData (fsm.Answered true) s at other = λ is. absurd (after_data (fsm.is_listed s) s is)
was_due_before fsm.CheckData (fsm.Answered false) s at other =
    λ is. absurd (reject (Library (Named named.SignatureRefused)) s is)
was_due_before fsm.Lock fsm.Done s at other = λ is. cc is
was_due_before fsm.ReadTarget fsm.Done s at other = λ is. cc is
was_due_before fsm.SyncTarget fsm.Done s at other = λ is. cc is
was_due_before fsm.SyncTargetName fsm.Done s at other = λ is. cc is
was_due_before fsm.RemoveLeftovers fsm.Done s at other = λ is. cc is
was_due_before fsm.CreateFile fsm.Done s at other = λ is. cc is
was_due_before fsm.ReadBack fsm.Done s at other = λ is. cc is
was_due_before fsm.SetPermissions fsm.Done s at other = λ is. cc is
was_due_before fsm.SyncFile fsm.Done s at other = λ is. cc is
was_due_before fsm.CreateRecord fsm.Done s at other = λ is. cc is
was_due_before fsm.WriteRecord fsm.Done s at other = λ is. cc is
was_due_before fsm.SyncRecord fsm.Done s at other = λ is. cc is
was_due_before fsm.RenameRecord fsm.Done s at other = λ is. cc is
was_due_before fsm.SyncRecordName fsm.Done s at other = λ is. cc is
was_due_before fsm.RenameFile fsm.Done s at other = λ is. cc is
was_due_before fsm.SyncFileName fsm.Done s at other = λ is. cc is
was_due_before fsm.RemoveFiles fsm.Done s at other = λ is. cc is
was_due_before op e s at other = tt

-- The same for the state that `step` returns.
answer_was_due : (s : State) (next : Option State) → is_some next ≡ true → IfSome next (WasDueBefore s.due)
    → (answer s next).1.due ≡ fsm.CheckComment → s.due ≡ fsm.CheckComment
answer_was_due s (Some t) is holds = holds
answer_was_due s None is holds = absurd (true≢false (sym is))

-- If the question about the comment is due after an event, it was due before it, unless the event is that the
-- signature file was read.
pub question_was_due : (s : State) (e : Event) → is_some (after s.due e s) ≡ true → is_text e ≡ false
    → (step s e).1.due ≡ fsm.CheckComment → s.due ≡ fsm.CheckComment
question_was_due s e fits other is =
    answer_was_due s (after s.due e s) fits (was_due_before s.due e s refl other) is

-- == Results ==

-- The result of an event that fits is never an API misuse.
result_proper : (before now : Option InstallFault) (m : Misuse)
    → fsm.result_of before now ≡ Err (WrongUse m) → ⊥
result_proper None (Some fault) m is = cc is
result_proper before now m is = cc is

event_is_not_misuse : (s : State) (next : Option State) (r : Result Unit (Refusal InstallFault))
    → r ≡ (answer s next).0 → is_some next ≡ true → (m : Misuse) → r ≡ Err (WrongUse m) → ⊥
event_is_not_misuse s (Some t) r same is m wrong = result_proper s.error t.error m (sym same ∙ wrong)
event_is_not_misuse s None r same is m wrong = true≢false (sym is)

-- The result of an event that fits is not an API misuse.
pub result_is_no_misuse : (s : State) (e : Event) (r : Result Unit (Refusal InstallFault)) → r ≡ (step s e).0
    → is_some (after s.due e s) ≡ true → (m : Misuse) → r ≡ Err (WrongUse m) → ⊥
result_is_no_misuse s e r same is m wrong = event_is_not_misuse s (after s.due e s) r same is m wrong

taken_fits : (s : State) (next : Option State) (r : Result Unit (Refusal InstallFault))
    → r ≡ (answer s next).0 → (r ≡ Err (WrongUse NotDue) → ⊥) → is_some next ≡ true
taken_fits s (Some t) r same proper = refl
taken_fits s None r same proper = absurd (proper same)

text_due : (op : Operation) (text : Result SignatureTextRecord Fault) (time : Option ℕ) (s : State)
    → is_some (after op (fsm.SignatureRead text time) s) ≡ true → op ≡ fsm.ReadSignature
text_due fsm.ReadSignature text time s is = refl
text_due op text time s is = absurd (true≢false (sym is))

no_change : (e : Option InstallFault) (r : Refusal InstallFault) → fsm.result_of e e ≡ Err r → ⊥
no_change None r is = cc is
no_change (Some fault) r is = cc is

not_whole : (judged : Passed) (time : Option ℕ) (s : State) (r : Refusal InstallFault)
    → fsm.result_of s.error (fsm.after_signature judged time s).error ≡ Err r
    → (fsm.after_signature judged time s).due ≡ fsm.CheckComment → ⊥
not_whole (Ok (t, keys)) time s r is = absurd (no_change s.error r is)
not_whole (Err fault) time s r is = reject (Library fault) s

not_due : (op : Operation) (text : Result SignatureTextRecord Fault) (time : Option ℕ) (s : State)
    (r : Refusal InstallFault) → op ≡ fsm.ReadSignature
    → (answer s (after op (fsm.SignatureRead text time) s)).0 ≡ Err r
    → (answer s (after op (fsm.SignatureRead text time) s)).1.due ≡ fsm.CheckComment → ⊥
not_due fsm.ReadSignature text time s r at is = not_whole (judge_text s.options text) time s r is
not_due op text time s r at is = cc at

too_long : (w : World) (o : Options) (text : Result SignatureTextRecord Fault) (judged : Passed)
    (m message : List ℕ) → text ≡ w.text → judge_text o text ≡ judged → MessageFits w message
    → comment_message judged ≡ Some m → length message < length m → ⊥
too_long w o text (Ok (t, keys)) m message is judged room at long =
    let parsed = sym is ∙ text_parsed w o text t keys judged in
    omega (arith, room t parsed, long, ap length (same_Some _ m at))
too_long w o text (Err e) m message is judged room at long = absurd (none-some m at)

-- If reporting the signature file does not return NotDue, then reading it was due.
pub signature_was_due : (w : World) (s : State) (text : List ℕ) (time : Option ℕ)
    (r : Result Unit (Refusal InstallFault)) → r ≡ (step s (signature_read text time)).0
    → (r ≡ Err (WrongUse NotDue) → ⊥)
    → (s.due ≡ fsm.ReadSignature) × (is_some (after s.due (signature_read text time) s) ≡ true)
signature_was_due w s text time r same proper =
    let fits = taken_fits s (after s.due (signature_read text time) s) r same proper in
    (text_due s.due _ time s fits, fits)

-- If the run is rejected at the signature file, no message is needed.
pub rejected_without_message : (w : World) (s : State) (text : List ℕ) (time : Option ℕ)
    (r : Refusal InstallFault)
    (n : ℕ) (message : List ℕ) → s.due ≡ fsm.ReadSignature
    → (step s (signature_read text time)).0 ≡ Err r
    → HasWholeMessage w (step s (signature_read text time)).1.due n message
rejected_without_message w s text time r n message at is =
    λ asked t parsed. absurd (not_due s.due _ time s r at is asked)

-- The message of a signature file that passes the checks fits into the buffer.
pub message_fits : (w : World) (s : State) (text : List ℕ) (message : List ℕ)
    → w.text ≡ read_utf8 read_signature text → MessageFits w message
    → IsTooLong (comment_message (judged_text s text)) (length message) → ⊥
message_fits w s text message is room (m, at, long) =
    too_long w s.options (read_utf8 read_signature text) (judged_text s text) m message (sym is) refl room at
    long

-- Whether the message fits depends only on the length of the buffer.
pub same_room : (w : World) (one other : List ℕ) → length one ≡ length other → MessageFits w other
    → MessageFits w one
same_room w one other same room = λ t parsed. rw same (room t parsed)

-- == Questions ==

-- The question about the comment.
abbrev question_about : List ℕ → List ℕ → Question
question_about key signature =
    record { key = key; signature = signature; digest = replicate 64 0; is_comment = 1 }

about_data : (key signature : List ℕ) (digest : Option (List ℕ)) (q : Question)
    → option_map (about key signature) digest ≡ Some q → q.is_comment ≡ 0
about_data key signature (Some d) q is =
    ap (λ (x : Question). x.is_comment) (sym (same_Some (about key signature d) q is))
about_data key signature None q is = absurd (none-some q is)

one_or_other : {P : Type 0} (n : ℕ) → n ≡ 0 → n ≡ 1 → P
one_or_other n none one = absurd (omega (arith, none, one))

comment_key : (s : State) (op : Operation) (is : Bool) (key : Option (List ℕ)) (q : Question)
    → question_by is key op s ≡ Some q → q.is_comment ≡ 1
    → (is ≡ true) × (op ≡ fsm.CheckComment) × (key ≡ Some q.key) × (q.signature ≡ s.comment_signature)
comment_key s fsm.CheckComment true (Some k) q is one = (
  refl,
  refl,
  ap (λ (x : Question). Some x.key) (same_Some (question_about k s.comment_signature) q is),
  ap (λ (x : Question). x.signature) (sym (same_Some (question_about k s.comment_signature) q is)),
)
comment_key s fsm.CheckList true (Some k) q is one =
    one_or_other q.is_comment (about_data k s.signature (Some (signed_digest s)) q is) one
comment_key s fsm.CheckRecord true (Some k) q is one =
    one_or_other q.is_comment (about_data k s.signature s.recorded.digest q is) one
comment_key s fsm.CheckTarget true (Some k) q is one =
    one_or_other q.is_comment (about_data k s.signature (Some (signed_digest s)) q is) one
comment_key s fsm.CheckData true (Some k) q is one =
    one_or_other q.is_comment (about_data k s.signature (Some (signed_digest s)) q is) one
comment_key s op true (Some k) q is one = absurd (none-some q is)
comment_key s op true None q is one = absurd (none-some q is)
comment_key s op false key q is one = absurd (none-some q is)

key_is : (signers : List PublicKeyValue) (key : List ℕ) → first_key signers ≡ Some key
    → fsm.key_of signers ≡ key
key_is [] key is = absurd (none-some key is)
key_is (v ∷ more) key is = same_Some v.key key is

answered_at : (w : World) (s : State) (op : Operation) (accepted : Bool) → op ≡ fsm.CheckComment
    → IsAnswer w s op accepted → (t : SignatureTextRecord) → w.text ≡ Ok t
    → accepted ≡ accepts_question w (fsm.comment_question s t.comments.trusted)
answered_at w s fsm.CheckComment accepted at is = is
answered_at w s op accepted at is = cc at

-- If the question about the comment is due, its message is in the buffer, and the result of Ed25519 is about
-- this message.
pub comment_asked : (w : World) (file : List ℕ) (s : State) (n : ℕ) (message : List ℕ) (q : Question)
    (accepted : Bool) (old new : Snapshot) → HasInputs w file s → HasWholeMessage w s.due n message
    → HasCommentMessage w n message
    → question_due s ≡ Some q → q.is_comment ≡ 1 → Performs w s s.due (fsm.Answered accepted) old new
    → (0 < n) × (n ≤ length message) × (accepted ≡ w.accepts (take n message) q.key q.signature)
comment_asked w file s n message q accepted old new knows whole asked is one performs =
    let (full, at, key, signature) =
    comment_key s s.due (length s.signature == 64) (first_key s.signers) q is one in
    let (t, parsed) = knows.parsed at in
    let (long, fits) = whole at t parsed in
    let same = knows.signature at t parsed in
    let some : 0 < n =
    omega (
      arith,
      long,
      length-append t.signature.signature t.comments.trusted,
      ap length same,
      eqb-true (length s.signature) 64 full,
    ) in (
      some,
      fits,
      answered_at w s s.due accepted at (answer_found w s s.due accepted old new performs) t parsed
          ∙ ap (λ (l : List ℕ). w.accepts l (fsm.key_of s.signers) s.comment_signature)
          (ap (λ (l : List ℕ). l ++ t.comments.trusted) same ∙ sym (asked some t parsed))
          ∙ ap (λ (l : List ℕ). w.accepts (take n message) l s.comment_signature) (key_is s.signers q.key key)
          ∙ ap (λ (l : List ℕ). w.accepts (take n message) q.key l) (sym signature),
    )
