-- Proves that a trace without an unlawful line is that of a lawful application.
use Rattle.std.specs.Prelude.{◌≡◌, ◌<◌, ◌==◌, ◌&&◌, ◌++◌, ℕ, Bool, true, false, not, bytes_eq, length, take}
use Rattle.std.specs.Prelude.{List, [], ◌∷◌, Option, Some, None, option_map, is_some, Result, Ok, Err}
use Rattle.std.specs.Prelude.{IfErr, ◌≤◌}
use Rattle.std.specs.Prelude.{◌≢◌, if◌then◌else◌, IfSome, ⊤, ◌||◌, ◌-◌, ◌+◌, get_or, nat_le}
use Rattle.std.proofs.Common.{refl, inl, inr, sym, ap, ◌∙◌, append-nil, append_assoc, arith, true≢false}
use Rattle.std.proofs.Common.{Bor, add-one, subst, drop}
use Rattle.std.proofs.Math.Seq.{drop-cons, take-add}
use Rattle.std.proofs.lemmas.Bool.{eqb-true}
use Rattle.std.proofs.lemmas.Option.{none-some, same_Some}
use Rattle.std.proofs.lemmas.Slice.Eq.{bytes_eq-Decides}
use Rattle.minisign_base.specs.declared.faults.NamedFault.{NamedFault}
use Rattle.minisign_install.specs.Applications.{Applies, Call, File, Snapshot, Others, Performs, bytes_of}
use Rattle.minisign_install.specs.Applications.{grown}
use Rattle.minisign.specs.SignatureText.{SignatureTextRecord, read_signature}
use Rattle.minisign_external.specs.PublicKeys.{read_utf8}
use Rattle.minisign_external.specs.declared.state.Misuse.TheVariants.{NotDue}
use Rattle.minisign_external.specs.declared.state.Refusal.{Refusal}
use Rattle.minisign_external.specs.declared.state.Refusal.TheVariants.{WrongUse}
use Rattle.minisign_external.specs.declared.public_keys.PublicKeyValue.{PublicKeyValue}
use Rattle.minisign_install.specs.Decisions.{Options, Recorded, judge_record, judge_text}
use Rattle.minisign_install.specs.Faults.{Fault, InstallFault, Library, Named, OtherSize, SameNumber}
use Rattle.minisign_install.specs.Faults.{TargetInUse}
use Rattle.minisign_base.specs.declared.faults.NamedFault.TheVariants as named
use Rattle.minisign_install.specs.Installations.{HasMessage, comment_message, judged_text}
use Rattle.minisign_install.specs.Step.{Event, Operation, State, after, answer, begin, step}
use Rattle.minisign_install.proofs.SafeCalls.{Invariant, state_invariant, next}
use Rattle.minisign_install.proofs.SafeCalls as safe_calls
use Rattle.minisign_install.proofs.StepSafety.{InvariantAt, Passed, text_parsed}
use Rattle.minisign_install.specs.Step as fsm
use Rattle.minisign_install.specs.StepRuns.{World, count}
use Rattle.minisign_install.specs.Traces.{FollowerHolds, IsFollowed, IsLawful, HasInputs, calls_of, changed}
use Rattle.minisign_install.specs.Traces.{event_of}
use Rattle.minisign_install.specs.Traces.{HasCommentMessage, AreFilesOf, Seen}
use Rattle.minisign_install.specs.Traces.{affected, bytes_seen, has_failed}
use Rattle.minisign_install.specs.Traces.{is_done}
use Rattle.minisign_install.specs.Traces.{is_plain}
use Rattle.minisign_install.specs.Traces.{MessageFits, IsRecorded, HasWholeMessage, world_of}
use Rattle.minisign_install.specs.declared.traces.RunInputs.{RunInputs}
use Rattle.minisign_install.specs.Traces.{installs, is_growing, is_nothing, is_read, read_after, seen}
use Rattle.minisign_install.specs.Traces.{seen_as, with_bytes}
use Rattle.minisign_install.specs.declared.traces.Change.TheVariants as change
use Rattle.minisign_install.specs.declared.traces.Effect.{Effect}
use Rattle.minisign_install.specs.declared.traces.Effect.TheVariants as effect
use Rattle.minisign_install.specs.declared.traces.FileView.{FileView}
use Rattle.minisign_install.specs.declared.traces.Files.{Files}
use Rattle.minisign_install.specs.declared.traces.Follower.{Follower}
use Rattle.minisign_install.specs.declared.traces.Line.{Line}
use Rattle.minisign_install.specs.declared.traces.Line.TheVariants as line
use Rattle.minisign_lists.specs.declared.digests.ListedDigest.{ListedDigest}
use Rattle.minisign_install.specs.Faults.{DigestMismatch}

same_bytes : (one other : List ℕ) → bytes_eq one other ≡ true → one ≡ other
same_bytes one other is = (bytes_eq-Decides one other).0 is

-- == The files ==

-- If a view has the number and the bytes of a file, its bytes are those of the file.
pub bytes_are : (place : Option File) (v : Option FileView)
    → option_map seen place ≡ option_map seen_as v → bytes_of place ≡ bytes_seen v
bytes_are (Some file) (Some v) is = ap (λ (x : Seen). x.bytes) (same_Some (seen file) (seen_as v) is)
bytes_are (Some file) None is = absurd (none-some (seen file) (sym is))
bytes_are None (Some v) is = absurd (none-some (seen_as v) is)
bytes_are None None is = refl

and_parts : (a b : Bool) → (a && b) ≡ true → (a ≡ true) × (b ≡ true)
and_parts true b is = (refl, is)
and_parts false b is = absurd (true≢false (sym is))

is_not : (b : Bool) → not b ≡ true → b ≡ false
is_not true is = absurd (true≢false (sym is))
is_not false is = refl

-- If `is_read` is true, the bytes that were read are those of the file, which has this number.
pub file_is_read : (place : Option File) (v : Option FileView) (number : ℕ) (read : List ℕ)
    → option_map seen place ≡ option_map seen_as v → is_read number read v ≡ true
    → (file : File) × (place ≡ Some file) × (file.bytes ≡ read) × (number ≡ file.number)
file_is_read (Some file) (Some v) number read is holds =
    let one = same_Some (seen file) (seen_as v) is in
    let (same, equal) = and_parts (v.number == number) (bytes_eq v.bytes.now read) holds in (
      file,
      refl,
      ap (λ (x : Seen). x.bytes) one ∙ same_bytes v.bytes.now read equal,
      sym (ap (λ (x : Seen). x.number) one ∙ eqb-true v.number number same),
    )
file_is_read (Some file) None number read is holds = absurd (true≢false (sym holds))
file_is_read None (Some v) number read is holds = absurd (none-some (seen_as v) is)
file_is_read None None number read is holds = absurd (true≢false (sym holds))

-- == Operations that are done, and that have failed ==

-- An operation with an effect that does not depend on the files is done as Performs says.
plain_performs : (w : World) (s : State) (op : Operation) (did : Effect) (m : Snapshot)
    → is_plain op did ≡ true → Performs w s op fsm.Done m (affected did m)
plain_performs w s fsm.SyncTarget effect.TargetSynced m is = refl
plain_performs w s fsm.SyncTargetName effect.NamesSynced m is = refl
plain_performs w s fsm.RemoveLeftovers effect.LeftoversRemoved m is = refl
plain_performs w s fsm.CreateFile (effect.DataCreated number) m is = (number, refl)
plain_performs w s fsm.SetPermissions effect.DataPermitted m is = refl
plain_performs w s fsm.SyncFile effect.DataSynced m is = refl
plain_performs w s fsm.CreateRecord (effect.RecordCreated number) m is = (number, refl)
plain_performs w s fsm.SyncRecord effect.RecordSynced m is = refl
plain_performs w s fsm.RenameRecord effect.RecordRenamed m is = refl
plain_performs w s fsm.SyncRecordName effect.NamesSynced m is = refl
plain_performs w s fsm.RenameFile effect.DataRenamed m is = refl
plain_performs w s fsm.SyncFileName effect.NamesSynced m is = refl
plain_performs w s fsm.RemoveFiles effect.FilesRemoved m is = refl
plain_performs w s op did m is = absurd (true≢false (sym is))

-- If `is_done` or `has_failed` (failed_performs) accepts an effect, it is one that Performs allows.
pub done_performs : (w : World) (s : State) (op : Operation) (did : Effect) (f : Files) (m : Snapshot)
    (read update : List ℕ) → AreFilesOf f m → read ≡ s.read → w.update ≡ update
    → is_done op did f read update ≡ true → Performs w s op fsm.Done m (affected did m)
done_performs w s fsm.Lock effect.Locked f m read update present same offered is =
    (present.busy ∙ is_not f.is_busy is, refl)
done_performs w s fsm.ReadTarget (effect.TargetOpened number) f m read update present same offered is =
    let (file, at, holds, one) = file_is_read m.target f.target number read present.target is in
    (file, at, holds ∙ same, ap (λ (n : ℕ). record m { opened = Some n }) one)
done_performs w s fsm.CopyData effect.Nothing f m read update present same offered is =
    (bytes_are m.data_file f.data_file present.data_file ∙ same_bytes _ update is ∙ sym offered, refl)
done_performs w s fsm.ReadBack effect.Nothing f m read update present same offered is =
    (sym same ∙ same_bytes read _ is ∙ sym (bytes_are m.data_file f.data_file present.data_file), refl)
done_performs w s op did f m read update present same offered is = plain_performs w s op did m is

pub failed_performs : (w : World) (s : State) (op : Operation) (f : NamedFault) (did : Effect) (m : Snapshot)
    → has_failed op did ≡ true → Performs w s op (fsm.Failed f) m (affected did m)
failed_performs w s fsm.RenameRecord f effect.RecordRenamed m is = inr refl
failed_performs w s fsm.RenameRecord f effect.Nothing m is = inl refl
failed_performs w s fsm.RenameFile f effect.DataRenamed m is = inr refl
failed_performs w s fsm.RenameFile f effect.Nothing m is = inl refl
failed_performs w s fsm.RemoveFiles f effect.FilesRemoved m is = (None, None, refl)
failed_performs w s fsm.RemoveFiles f effect.Nothing m is = (m.data_file, m.record_file, refl)
failed_performs w s fsm.CreateFile f effect.Nothing m is = (m.data_file, refl)
failed_performs w s fsm.CopyData f effect.Nothing m is = (m.data_file, refl)
failed_performs w s fsm.SetPermissions f effect.Nothing m is = (m.data_file, refl)
failed_performs w s fsm.SyncFile f effect.Nothing m is = (m.data_file, refl)
failed_performs w s fsm.CreateRecord f effect.Nothing m is = (m.record_file, refl)
failed_performs w s fsm.WriteRecord f effect.Nothing m is = (m.record_file, refl)
failed_performs w s fsm.SyncRecord f effect.Nothing m is = (m.record_file, refl)
failed_performs w s op f effect.Nothing m is = refl
failed_performs w s op f did m is = absurd (true≢false (sym is))

-- == Results ==

answered_fits : (s : State) (next : Option State) (r : Result Unit (Refusal InstallFault)) (is_due : Bool)
    → r ≡ (answer s next).0 → (r ≡ Err (WrongUse NotDue) → is_due ≡ false) → is_due ≡ true
    → is_some next ≡ true
answered_fits s (Some t) r is_due same wrong is = refl
answered_fits s None r is_due same wrong is = absurd (true≢false (sym is ∙ wrong same))

-- If a call returns NotDue only if it is not due, and it is due, then its event fits.
pub fits : (s : State) (e : Event) (r : Result Unit (Refusal InstallFault)) (is_due : Bool)
    → r ≡ (step s e).0 → (r ≡ Err (WrongUse NotDue) → is_due ≡ false) → is_due ≡ true
    → is_some (after s.due e s) ≡ true
fits s e r is_due same wrong is = answered_fits s (after s.due e s) r is_due same wrong is

-- The event that the signature file was read has the signature file of the inputs.
pub signature_is : (w : World) (s : State) (op : Operation) (text : Result SignatureTextRecord Fault)
    (time : Option ℕ) (old new : Snapshot) → Performs w s op (fsm.SignatureRead text time) old new
    → (op ≡ fsm.ReadSignature) × (text ≡ w.text)
signature_is w s fsm.ReadSignature text time old new is = (refl, is.0)
signature_is w s op text time old new is = absurd is

-- == The message of the question ==

abbrev ok : SignatureTextRecord → Result SignatureTextRecord Fault
ok t = Ok t

same_ok : (t u : SignatureTextRecord) → ok t ≡ ok u → t ≡ u
same_ok t u is = cc is

-- A world with this signature file and no other inputs. The lemma text_parsed holds for every world.
abbrev world_of_text : Result SignatureTextRecord Fault → World
world_of_text text = record {
  accepts = λ message key signature. false;
  found_record = None;
  text = text;
  update = [];
  list = [];
  name = [];
  max_size = 0;
}

written : (o : Options) (text : Result SignatureTextRecord Fault) (judged : Passed) (n : ℕ)
    (before now : List ℕ) → judge_text o text ≡ judged → HasMessage (comment_message judged) n before now
    → 0 < n → (t : SignatureTextRecord) → text ≡ Ok t
    → take n now ≡ t.signature.signature ++ t.comments.trusted
written o text (Ok (u, keys)) n before now judged (long, room, is, rest) some t parsed =
    let one = same_ok u t (sym (text_parsed (world_of_text text) o text u keys judged) ∙ parsed) in
    is ∙ ap (λ (x : SignatureTextRecord). x.signature.signature ++ x.comments.trusted) one
written o text (Err e) n before now judged (none, same) some t parsed = absurd (omega (arith, none, some))

-- After `signature`, the buffer holds the message that is signed for the trusted comment.
pub message_is : (w : World) (s : State) (text : List ℕ) (n : ℕ) (before now : List ℕ)
    → w.text ≡ read_utf8 read_signature text
    → HasMessage (comment_message (judged_text s text)) n before now → HasCommentMessage w n now
message_is w s text n before now is has =
    λ some t parsed.
    written s.options (read_utf8 read_signature text) (judged_text s text) n before now refl has some t
    (sym is ∙ parsed)

-- If the check of the comment is due next, the message is complete.
message_of : (o : Options) (text : Result SignatureTextRecord Fault) (judged : Passed) (n : ℕ)
    (before now : List ℕ) → judge_text o text ≡ judged → HasMessage (comment_message judged) n before now
    → (t : SignatureTextRecord) → text ≡ Ok t → (op : Operation)
    → (IfErr judged (λ e. op ≡ fsm.CheckComment → ⊥)) → op ≡ fsm.CheckComment
    → (n ≡ length (t.signature.signature ++ t.comments.trusted)) × (n ≤ length now)
message_of o text (Ok (u, keys)) n before now judged (long, room, is, rest) t parsed op not at =
    let one = same_ok u t (sym (text_parsed (world_of_text text) o text u keys judged) ∙ parsed) in
    (long ∙ ap (λ (x : SignatureTextRecord). length (x.signature.signature ++ x.comments.trusted)) one, room)
message_of o text (Err e) n before now judged has t parsed op not at = absurd (not at)

not_due_after_rejection : (is : Bool) → (if is then fsm.RemoveFiles else fsm.Rejected) ≡ fsm.CheckComment → ⊥
not_due_after_rejection true = λ at. cc at
not_due_after_rejection false = λ at. cc at

not_due : (judged : Passed) (time : Option ℕ) (s : State)
    → IfErr judged (λ e. (fsm.after_signature judged time s).due ≡ fsm.CheckComment → ⊥)
not_due (Ok (t, keys)) time s = tt
not_due (Err e) time s = not_due_after_rejection (fsm.has_files s.due)

due_after : (s : State) (op : Operation) (text : Result SignatureTextRecord Fault) (time : Option ℕ)
    → op ≡ fsm.ReadSignature
    → (answer s (after op (fsm.SignatureRead text time) s)).1
    ≡ fsm.after_signature (judge_text s.options text) time s
due_after s fsm.ReadSignature text time is = refl
due_after s op text time is = cc is

-- If the question about the comment is due next, all of its message is in the buffer.
pub whole_is : (w : World) (s : State) (text : List ℕ) (time : Option ℕ) (n : ℕ) (before now : List ℕ)
    → w.text ≡ read_utf8 read_signature text → s.due ≡ fsm.ReadSignature
    → HasMessage (comment_message (judged_text s text)) n before now
    → HasWholeMessage w (step s (fsm.SignatureRead (read_utf8 read_signature text) time)).1.due n now
whole_is w s text time n before now is at has =
    λ asked t parsed.
    let next = due_after s s.due (read_utf8 read_signature text) time at in
    message_of s.options (read_utf8 read_signature text) (judged_text s text) n before now refl has t
    (sym is ∙ parsed) (fsm.after_signature (judged_text s text) time s).due
    (not_due (judged_text s text) time s) (sym (ap (λ (x : State). x.due) next) ∙ asked)

-- == Steps ==

-- A value that exists has the property that IfSome states.
pub some_of : {A : Type 0} (r : Option A) (P : A → Type 0) → IfSome r P → is_some r ≡ true → (x : A) × P x
some_of (Some x) P holds is = (x, holds)
some_of None P holds is = absurd (true≢false (sym is))

-- A property that follows from another one may replace it in IfSome.
pub if_some : {A : Type 0} (r : Option A) (P Q : A → Type 0) → ((x : A) → P x → Q x) → IfSome r P
    → IfSome r Q
if_some (Some x) P Q leads holds = leads x holds
if_some None P Q leads holds = tt

-- The flags is_nothing and is_growing (not_growing) decide which effect it is.
pub is_nothing_effect : (did : Effect) → is_nothing did ≡ true → did ≡ effect.Nothing
is_nothing_effect effect.Nothing is = refl
is_nothing_effect did is = absurd (true≢false (sym is))

pub not_growing : (did : Effect) → ((piece : Bor (List ℕ)) → did ≢ effect.DataGrown piece)
    → is_growing did ≡ false
not_growing (effect.DataGrown piece) other = absurd (other piece refl)
not_growing did other = refl

grown_is : (place : Option File) (v : Option FileView) (bytes piece : List ℕ)
    → option_map seen place ≡ option_map seen_as v → bytes ≡ bytes_seen v ++ piece
    → option_map seen (grown piece place) ≡ with_bytes bytes (option_map seen_as v)
grown_is (Some file) (Some v) bytes piece is same =
    ap (λ (x : Seen). Some (record { number = x.number; bytes = x.bytes ++ piece }))
    (same_Some (seen file) (seen_as v) is)
    ∙ ap (λ (b : List ℕ). Some (record { number = v.number; bytes = b })) (sym same)
grown_is (Some file) None bytes piece is same = absurd (none-some (seen file) (sym is))
grown_is None (Some v) bytes piece is same = absurd (none-some (seen_as v) is)
grown_is None None bytes piece is same = refl

-- Appending a piece to the temporary file, and to what the follower knows of it, keeps them the same.
pub grown_seen : (f : Files) (g : Option FileView) (m : Snapshot) (bytes piece : List ℕ) → AreFilesOf f m
    → bytes ≡ bytes_seen f.data_file ++ piece
    → option_map seen_as g ≡ with_bytes bytes (option_map seen_as f.data_file)
    → AreFilesOf (record f { data_file = g }) (record m { data_file = grown piece m.data_file })
grown_seen f g m bytes piece present is same = record {
  target = present.target;
  recorded = present.recorded;
  data_file = grown_is m.data_file f.data_file bytes piece present.data_file is ∙ sym same;
  record_file = present.record_file;
  locked = present.locked;
  busy = present.busy;
}

-- == The bytes that were read ==

-- The bytes that were read so far, after this event: none if the update is to be installed.
abbrev Reads : Event → List ℕ → State → Type 0
Reads e read t = t.read ≡ (if installs t.due then [] else read_after e read)

-- The bytes that were read so far are unchanged, or discarded if the update is to be installed.
abbrev Keeps : List ℕ → State → Type 0
Keeps read t = t.read ≡ (if installs t.due then [] else read)

-- After an error, the run removes its temporary files, or it has ended.
after_rejection : (is : Bool) (fault : InstallFault) (s : State)
    → Keeps s.read (record s { due = if is then fsm.RemoveFiles else fsm.Rejected; error = Some fault })
after_rejection true fault s = refl
after_rejection false fault s = refl

-- The next lemmas have the names of the functions in Step.antt that choose the next state. Each proves that
-- its function keeps the bytes that were read, or discards them to install the update.
reject : (fault : InstallFault) (s : State) → Keeps s.read (fsm.reject fault s)
reject fault s = after_rejection (fsm.has_files s.due) fault s

-- The operation after `install`, in a check and in an installation.
to_install : (check : Bool) (read : List ℕ) (s : State)
    → Keeps read (record s { due = if check then fsm.WouldInstall else fsm.RemoveLeftovers; read = [] })
to_install true read s = refl
to_install false read s = refl

install : (s : State) → Keeps s.read (fsm.install s)
install s = to_install s.options.check s.read s

-- The result of a conditional has the property if both branches have it.
both_branches : (is : Bool) (read : List ℕ) (x y : State) → Keeps read x → Keeps read y
    → Keeps read (if is then x else y)
both_branches true read x y one other = one
both_branches false read x y one other = other

compare : (s : State) → Keeps s.read (fsm.compare s)
compare s =
    let older =
    both_branches (fsm.is_rolling_back s) s.read (fsm.install s) (fsm.go fsm.ReadTarget s) (install s)
    refl in
    let same = both_branches (is_some s.recorded.digest) s.read (fsm.go fsm.CheckRecord s)
    (if fsm.is_rolling_back s then fsm.install s else fsm.go fsm.ReadTarget s) refl older in
    both_branches (fsm.is_newer s) s.read (fsm.install s)
    (if is_some s.recorded.digest then fsm.go fsm.CheckRecord s
    else if fsm.is_rolling_back s then fsm.install s else fsm.go fsm.ReadTarget s) (install s) same

after_record : (r : Result Recorded InstallFault) (s : State) → Keeps s.read (fsm.after_record r s)
after_record (Ok r) s = refl
after_record (Err fault) s = reject fault s

after_signature : (r : Passed) (time : Option ℕ) (s : State) → Keeps s.read (fsm.after_signature r time s)
after_signature (Ok (t, keys)) time s = refl
after_signature (Err fault) time s = reject (Library fault) s

after_comment : (fault : Option InstallFault) (s : State)
    → Keeps s.read (fsm.after_comment fault (record s { is_signed = true }))
after_comment None s =
    both_branches (is_some s.options.list) s.read (fsm.go fsm.ReadList (record s { is_signed = true }))
    (fsm.compare (record s { is_signed = true })) refl (compare (record s { is_signed = true }))
after_comment (Some fault) s = reject fault (record s { is_signed = true })

next_key : (signers : List PublicKeyValue) (s : State) → s.due ≡ fsm.CheckComment
    → Keeps s.read (fsm.next_key signers s)
next_key [] s at = reject (Library (Named named.CommentSignatureRefused)) s
next_key (v ∷ []) s at = reject (Library (Named named.CommentSignatureRefused)) s
next_key (v ∷ u ∷ more) s at = rw at refl

after_listing : (listed : Result ListedDigest InstallFault) (s : State)
    → Keeps s.read (fsm.after_listing listed s)
after_listing (Ok digest) s = compare s
after_listing (Err fault) s = reject fault s

after_data : (listed : Bool) (s : State) → Keeps s.read (fsm.after_data listed s)
after_data true s = refl
after_data false s = reject DigestMismatch s

after_digest : (accepted : Bool) (s : State) → Keeps s.read (fsm.after_digest accepted s)
after_digest accepted s =
    both_branches (not accepted && fsm.is_rolling_back s) s.read (fsm.install s)
    (record s { due = fsm.ReadTarget; is_recorded = accepted }) (install s) refl

target_is_update : (check : Bool) (s : State)
    → Keeps s.read (fsm.go (if check then fsm.AlreadyInstalled else fsm.SyncTarget) s)
target_is_update true s = refl
target_is_update false s = refl

after_target : (accepted : Bool) (s : State) → Keeps s.read (fsm.after_target accepted s)
after_target true s = target_is_update s.options.check s
after_target false s =
    both_branches (s.is_recorded || s.options.again) s.read (fsm.install s) (fsm.reject SameNumber s)
    (install s)
    (reject SameNumber s)

after_piece : (n : ℕ) (left : Option ℕ) (s : State) → s.due ≡ fsm.CopyData
    → Keeps s.read (fsm.after_piece n left s)
after_piece n None s at = rw at refl
after_piece n (Some left) s at =
    both_branches (nat_le n left) s.read (record s { left = Some (left - n) }) (fsm.reject OtherSize s)
    (rw at refl)
    (reject OtherSize s)

after_copy : (left : Option ℕ) (s : State) → Keeps s.read (fsm.after_copy left s)
after_copy None s = refl
after_copy (Some left) s =
    both_branches (left == 0) s.read (fsm.go fsm.ReadBack s) (fsm.reject OtherSize s) refl
    (reject OtherSize s)

-- Nothing has to be proved if the event does not fit.
holds_if_some : (is : Bool) (e : Event) (read : List ℕ) (t : State) → Reads e read t
    → IfSome (if is then Some t else None) (Reads e read)
holds_if_some true e read t holds = holds
holds_if_some false e read t holds = tt

-- An event appends to the bytes that were read, keeps them, or discards them.
event_reads : (op : Operation) (e : Event) (s : State) → s.due ≡ op → IfSome (after op e s) (Reads e s.read)
event_reads fsm.Nothing (fsm.Failed f) s at = tt
event_reads fsm.Installed (fsm.Failed f) s at = tt
event_reads fsm.AlreadyInstalled (fsm.Failed f) s at = tt
event_reads fsm.WouldInstall (fsm.Failed f) s at = tt
event_reads fsm.Rejected (fsm.Failed f) s at = tt
event_reads fsm.RemoveFiles (fsm.Failed f) s at =
    holds_if_some (fsm.is_failure f) (fsm.Failed f) s.read (fsm.go fsm.Rejected s) refl
event_reads op (fsm.Failed f) s at =
    holds_if_some (fsm.is_failure f) (fsm.Failed f) s.read (fsm.reject (fsm.failure s.due f) s)
    (reject (fsm.failure s.due f) s)
event_reads fsm.Lock fsm.InUse s at = reject TargetInUse s
event_reads fsm.ReadRecord (fsm.RecordRead found) s at = after_record (judge_record s.options found) s
event_reads fsm.ReadSignature (fsm.SignatureRead text time) s at =
    after_signature (judge_text s.options text) time s
event_reads fsm.CheckComment (fsm.Answered true) s at = after_comment s.fault s
event_reads fsm.CheckComment (fsm.Answered false) s at = next_key s.signers s at
event_reads fsm.ReadList (fsm.ListRead list name) s at = refl
event_reads fsm.CheckList (fsm.Answered true) s at =
    after_listing s.listing.listed (record s { is_list_signed = true })
event_reads fsm.CheckList (fsm.Answered false) s at = reject (Library (Named named.SignatureRefused)) s
event_reads fsm.CheckRecord (fsm.Answered accepted) s at = after_digest accepted s
event_reads fsm.ReadTarget (fsm.PieceRead bytes) s at = rw at refl
event_reads fsm.ReadTarget fsm.TargetMissing s at = install s
event_reads fsm.CheckTarget (fsm.Answered accepted) s at = after_target (accepted && fsm.is_listed s) s
event_reads fsm.CopyData (fsm.PieceCopied n) s at = after_piece n s.left s at
event_reads fsm.CopyData fsm.Done s at = after_copy s.left s
event_reads fsm.ReadBack (fsm.PieceRead bytes) s at = rw at refl
event_reads fsm.CheckData (fsm.Answered true) s at = after_data (fsm.is_listed s) s
event_reads fsm.CheckData (fsm.Answered false) s at = reject (Library (Named named.SignatureRefused)) s
event_reads fsm.Lock fsm.Done s at = refl
event_reads fsm.ReadTarget fsm.Done s at = refl
event_reads fsm.SyncTarget fsm.Done s at = refl
event_reads fsm.SyncTargetName fsm.Done s at = refl
event_reads fsm.RemoveLeftovers fsm.Done s at = refl
event_reads fsm.CreateFile fsm.Done s at = refl
event_reads fsm.ReadBack fsm.Done s at = refl
event_reads fsm.SetPermissions fsm.Done s at = refl
event_reads fsm.SyncFile fsm.Done s at = refl
event_reads fsm.CreateRecord fsm.Done s at = refl
event_reads fsm.WriteRecord fsm.Done s at = refl
event_reads fsm.SyncRecord fsm.Done s at = refl
event_reads fsm.RenameRecord fsm.Done s at = refl
event_reads fsm.SyncRecordName fsm.Done s at = refl
event_reads fsm.RenameFile fsm.Done s at = refl
event_reads fsm.SyncFileName fsm.Done s at = refl
event_reads fsm.RemoveFiles fsm.Done s at = refl
event_reads op e s at = tt

-- The same for the state that `step` returns, if the event fits.
answer_reads : (s : State) (next : Option State) (e : Event) → is_some next ≡ true
    → IfSome next (Reads e s.read)
    → Reads e s.read (answer s next).1
answer_reads s (Some t) e is holds = holds
answer_reads s None e is holds = absurd (true≢false (sym is))

-- The bytes that were read so far, in the state after an event that fits.
pub read_is : (s : State) (e : Event) → is_some (after s.due e s) ≡ true
    → (step s e).1.read ≡ (if installs (step s e).1.due then [] else read_after e s.read)
read_is s e fits = answer_reads s (after s.due e s) e fits (event_reads s.due e s refl)

-- == Whole runs ==

-- A run with one more call at its end is a run.
snoc : (w : World) (s : State) (m : Snapshot) (calls : List Call) (t : State) (end : Snapshot) (c : Call)
    → Applies w s m calls t end → Others end c.before → is_some (after t.due c.event t) ≡ true
    → Performs w t t.due c.event c.before c.after
    → Applies w s m (calls ++ c ∷ []) (step t c.event).1 c.after
snoc w s m [] t end c (is, same) others fits done =
    (rw same at others, rw is at fits, rw is at done, (rw is refl, refl))
snoc w s m (d ∷ more) t end c (other, fit, is, run) others fits done =
    (other, fit, is, snoc w (step s d.event).1 d.after more t end c run others fits done)

-- The invariant holds after a run that starts in a state in which it holds.
pub known_from : (w : World) (o : Options) (n : ℕ) (s : State) (m : Snapshot) (calls : List Call) (t : State)
    (end : Snapshot) → Invariant w o ⊤ ⊥ n s m → Applies w s m calls t end
    → (k : ℕ) × Invariant w o ⊤ ⊥ k t end
known_from w o n s m [] t end known (is, same) = (n, rw (is, same) known)
known_from w o n s m (c ∷ more) t end known (others, fits, is, run) =
    known_from w o (count n c.event) (step s c.event).1 c.after more t end
    (next w o ⊤ ⊥ n s m c known others (λ q. absurd q) fits is (λ found. tt)) run

-- The invariant says which file name, which signature and which signature file the state has.
file_name_is : (w : World) (o : Options) (op : Operation) (s : State) → InvariantAt w o op s
    → op ≡ fsm.ReadSignature
    → s.options.file ≡ o.file
file_name_is w o fsm.ReadSignature s known is = ap (λ (x : Options). x.file) known.0
file_name_is w o op s known is = cc is

signature_from_text : (w : World) (o : Options) (op : Operation) (s : State) → InvariantAt w o op s
    → op ≡ fsm.CheckComment → (t : SignatureTextRecord) → w.text ≡ Ok t
    → s.signature ≡ t.signature.signature
signature_from_text w o fsm.CheckComment s known is t parsed =
    known.11 ∙ ap (λ (x : SignatureTextRecord). x.signature.signature)
    (same_ok known.0 t (sym known.6 ∙ parsed))
signature_from_text w o op s known is t parsed = cc is

text_was_parsed : (w : World) (o : Options) (op : Operation) (s : State) → InvariantAt w o op s
    → op ≡ fsm.CheckComment
    → (t : SignatureTextRecord) × (w.text ≡ Ok t)
text_was_parsed w o fsm.CheckComment s known is = (known.0, known.6)
text_was_parsed w o op s known is = cc is

-- After a lawful run, HasInputs holds.
pub knows_of : (w : World) (o : Options) (m : Snapshot) (calls : List Call) (s : State) (end : Snapshot)
    → Applies w (begin o) m calls s end → HasInputs w o.file s
knows_of w o m calls s end run =
    let (k, invariant) = known_from w o 0 (begin o) m calls s end (safe_calls.begins w o ⊤ ⊥ m) run in
    let known = state_invariant w o ⊤ ⊥ k s end invariant in record {
      named = λ is. file_name_is w o s.due s known is;
      signature = λ is t parsed. signature_from_text w o s.due s known is t parsed;
      parsed = λ is. text_was_parsed w o s.due s known is;
    }

-- The first lines of the trace are those of a lawful application, and the follower represents the state and
-- the files after them. If a trace that begins with them satisfies IsRecorded, so do the lines after them.
abbrev pub Reached : RunInputs → Options → Snapshot → Follower → List ℕ → List Line → Type 0
Reached g o m f message front =
    (calls : List Call) × (s : State) × (last : Snapshot) × (now : Snapshot)
    × Applies (world_of g) (begin o) m calls s last × Others last now
    × FollowerHolds (world_of g) f message s now
    × ((more : List Line) → calls_of m (front ++ more) ≡ calls ++ calls_of now more)
    × ((more : List Line) → IsRecorded g (begin o) m [] (front ++ more)
    → IsRecorded g s now f.source.now more)

-- Two changes by other processes, one after the other, are also allowed.
others_in_sequence : (one two three : Snapshot) → Others one two → Others two three → Others one three
others_in_sequence one two three a b = record {
  data_stays = b.data_stays ∙ a.data_stays;
  record_stays = b.record_stays ∙ a.record_stays;
  opened_stays = b.opened_stays ∙ a.opened_stays;
  lock_stays = b.lock_stays ∙ a.lock_stays;
  recorded_stays = λ is. b.recorded_stays (a.lock_stays ∙ is) ∙ a.recorded_stays is;
  left_stays = λ is. b.left_stays (a.lock_stays ∙ is) ∙ a.left_stays is;
  leftovers_stay = λ is. b.leftovers_stay (a.lock_stays ∙ is) ∙ a.leftovers_stay is;
}

-- Other processes may also change nothing.
others_do_nothing : (m : Snapshot) → Others m m
others_do_nothing m = record {
  data_stays = refl;
  record_stays = refl;
  opened_stays = refl;
  lock_stays = refl;
  recorded_stays = λ is. refl;
  left_stays = λ is. refl;
  leftovers_stay = λ is. refl;
}

-- A trace without lines is followed to its end.
pub starts : (g : RunInputs) (o : Options) (m : Snapshot) (f : Follower) (message : List ℕ)
    → FollowerHolds (world_of g) f message (begin o) m → f.source.now ≡ [] → Reached g o m f message []
starts g o m f message follows none = (
  [],
  begin o,
  m,
  m,
  (refl, refl),
  others_do_nothing m,
  follows,
  λ more. refl,
  λ more is. rw none is,
)

-- Moving the next line from the rest of a trace to its front does not change the trace.
longer : (g : RunInputs) (s : State) (m : Snapshot) (source : List ℕ) (front : List Line) (line : Line)
    (more : List Line) → IsRecorded g s m source ((front ++ line ∷ []) ++ more)
    → IsRecorded g s m source (front ++ line ∷ more)
longer g s m source front line more is =
    subst (IsRecorded g s m source) (append_assoc front (line ∷ []) more) is

-- If a trace is followed to its end, and then one more line, the longer trace is followed to its end.
pub goes_on : (g : RunInputs) (o : Options) (m : Snapshot) (f h : Follower) (message written : List ℕ)
    (front : List Line) (next : Line) → Reached g o m f message front
    → IsFollowed (world_of g) o.file next f h message written
    → Reached g o m h written (front ++ next ∷ [])
goes_on g o m f h message written front (line.Others other)
    (calls, s, last, now, run, others, follows, same, recorded) followed =
    let (allowed, after_it, source) = followed s now follows in (
      calls,
      s,
      last,
      changed other now,
      run,
      others_in_sequence last now (changed other now) others allowed,
      after_it,
      λ more. ap (calls_of m) (append_assoc front (line.Others other ∷ []) more)
          ∙ same (line.Others other ∷ more),
      λ more is. rw source
          (recorded (line.Others other ∷ more) (longer g (begin o) m [] front (line.Others other) more is)).1,
    )
goes_on g o m f h message written front (line.Call reported did)
    (calls, s, last, now, run, others, follows, same, recorded) followed =
    let w = world_of g in
    let ((fits, performs), after_it, source) =
    followed s now (knows_of w o m calls s last run) follows in
    let c : Call = record { event = event_of reported; before = now; after = affected did now } in
    let next = line.Call reported did in (
      calls ++ c ∷ [],
      (step s (event_of reported)).1,
      affected did now,
      affected did now,
      snoc w (begin o) m calls s last c run others fits performs,
      others_do_nothing (affected did now),
      after_it,
      λ more. ap (calls_of m) (append_assoc front (next ∷ []) more) ∙ same (next ∷ more)
          ∙ sym (append_assoc calls (c ∷ []) (calls_of (affected did now) more)),
      λ more is. rw source (recorded (next ∷ more) (longer g (begin o) m [] front next more is)).2,
    )

-- A line that is never used. It stands for a line beyond the end of the trace.
abbrev pub no_line : Line
no_line = line.Others (change.Target None)

-- The rest of a trace from a line on begins with this line.
split_at : (trace : List Line) (at : ℕ) → at < length trace
    → drop at trace ≡ get_or trace at no_line ∷ drop (at + 1) trace
split_at trace at within =
    drop-cons trace at no_line within
    ∙ ap (λ (j : ℕ). get_or trace at no_line ∷ drop j trace) (sym (add-one at))

-- The first lines of a trace, and the next one.
pub one_more : (trace : List Line) (at : ℕ) → at < length trace
    → take (at + 1) trace ≡ take at trace ++ get_or trace at no_line ∷ []
one_more trace at within =
    take-add at 1 trace ∙ ap (λ (l : List Line). take at trace ++ take 1 l) (split_at trace at within)

-- The same as goes_on, for the line with this index.
pub goes_on_at : (g : RunInputs) (o : Options) (m : Snapshot) (f h : Follower) (message written : List ℕ)
    (trace : List Line) (at : ℕ) → at < length trace → Reached g o m f message (take at trace)
    → IsFollowed (world_of g) o.file (get_or trace at no_line) f h message written
    → Reached g o m h written (take (at + 1) trace)
goes_on_at g o m f h message written trace at within reached followed =
    subst (Reached g o m h written) (sym (one_more trace at within))
    (goes_on g o m f h message written (take at trace) (get_or trace at no_line) reached followed)

-- A trace that is followed to its end is that of a lawful application.
pub arrives : (g : RunInputs) (o : Options) (m : Snapshot) (f : Follower) (message : List ℕ)
    (front : List Line)
    → Reached g o m f message front → IsLawful (world_of g) o m front
arrives g o m f message front (calls, s, last, now, run, others, follows, same, recorded) =
    (s, last, rw (ap (calls_of m) (sym (append-nil front)) ∙ same [] ∙ append-nil calls) run)

-- If the follower rejects the next line, the trace up to it does not satisfy IsRecorded.
pub unlawful : (g : RunInputs) (o : Options) (m : Snapshot) (f : Follower) (message : List ℕ)
    (trace : List Line) (at : ℕ) → at < length trace → Reached g o m f message (take at trace)
    → MessageFits (world_of g) message
    → ((s : State) (now : Snapshot) → HasInputs (world_of g) o.file s
    → FollowerHolds (world_of g) f message s now
    → MessageFits (world_of g) message
    → IsRecorded g s now f.source.now (get_or trace at no_line ∷ []) → false ≡ true)
    → IsRecorded g (begin o) m [] (take (at + 1) trace) → ⊥
unlawful g o m f message trace at within
    (calls, s, last, now, run, others, follows, same, recorded) room finds is =
    true≢false (sym (finds s now (knows_of (world_of g) o m calls s last run) follows room
    (recorded (get_or trace at no_line ∷ [])
    (subst (IsRecorded g (begin o) m []) (one_more trace at within) is))))
