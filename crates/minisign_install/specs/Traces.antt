-- A recorded run (trace) of an application: the changes by other processes, and for each operation its effect
-- on the files and the event that the application reported. calls_of converts a trace to a run as
-- Applications defines it. IsLawful states that it is a run of a lawful application. A trace cannot record
-- that a signed list was read, so it can only show the beginning of a run with a list.
use Rattle.std.specs.Prelude.{◌≤◌, if◌then◌else◌, ⊤}
use Rattle.std.specs.Prelude.{◌≡◌, ◌<◌, ◌++◌, ◌==◌, ◌&&◌, ℕ, Bool, true, false, not, bytes_eq, length, take}
use Rattle.std.specs.Prelude.{List, [], ◌∷◌, Option, Some, None, option_map, is_some, Ok}
use Rattle.std.specs.List.{list_any}
use Rattle.minisign.specs.SignatureText.{SignatureTextRecord, read_signature}
use Rattle.minisign_external.specs.PublicKeys.{read_utf8}
use Rattle.minisign_install.specs.Applications.{Applies, Call, File, Snapshot, Performs, data_renamed}
use Rattle.minisign_install.specs.Applications.{bytes_of}
use Rattle.minisign_install.specs.Applications.{Others, empty_file, grown, names_synced, permitted}
use Rattle.minisign_install.specs.Applications.{record_renamed}
use Rattle.minisign_install.specs.Applications.{synced, synced_if, written}
use Rattle.minisign_install.specs.Decisions.{Options}
use Rattle.minisign_install.specs.Installations.{Represents, question_due, record_due}
use Rattle.minisign_install.specs.Step.{Event, Operation, State, after, begin, new_record, step}
use Rattle.minisign_install.specs.Step as fsm
use Rattle.minisign_install.specs.StepRuns.{World}
use Rattle.minisign_install.specs.declared.traces.Change.{Change}
use Rattle.minisign_install.specs.declared.traces.Change.TheVariants as change
use Rattle.minisign_install.specs.declared.traces.Effect.{Effect}
use Rattle.minisign_install.specs.declared.traces.Effect.TheVariants as effect
use Rattle.minisign_install.specs.declared.traces.FileView.{FileView}
use Rattle.minisign_install.specs.declared.traces.Files.{Files}
use Rattle.minisign_install.specs.declared.traces.RunInputs.{RunInputs}
use Rattle.minisign_install.specs.declared.traces.Follower.{Follower}
use Rattle.minisign_install.specs.declared.traces.Line.{Line}
use Rattle.minisign_install.specs.declared.traces.Line.TheVariants as line
use Rattle.minisign_install.specs.declared.traces.Report.{Report}
use Rattle.minisign_install.specs.declared.traces.Report.TheVariants as report
use Rattle.minisign_install.specs.declared.traces.Signed.{Signed}

-- == The inputs of a run ==

-- Ed25519 accepts the listed signatures, and no others.
abbrev pub is_listed : List Signed → List ℕ → List ℕ → List ℕ → Bool
is_listed table message key signature =
    list_any (λ t. bytes_eq t.message.now message && (bytes_eq t.key key && bytes_eq t.signature signature))
    table

abbrev pub world_of : RunInputs → World
world_of f = record {
  accepts = is_listed f.signed.now;
  found_record = option_map (λ r. r.now) f.recorded;
  text = read_utf8 read_signature f.sig_text.now;
  update = f.update.now;
  list = [];
  name = [];
  max_size = f.max_size;
}

-- == From a trace to a run ==

abbrev pub event_of : Report → Event
event_of report.Done = fsm.Done
event_of report.InUse = fsm.InUse
event_of (report.Failed fault) = fsm.Failed fault
event_of (report.Recorded found) = fsm.RecordRead (option_map (λ r. r.now) found)
event_of (report.Signature text time) = fsm.SignatureRead (read_utf8 read_signature text.now) time
event_of (report.Answered accepted) = fsm.Answered accepted
event_of report.NoTarget = fsm.TargetMissing
event_of (report.Piece bytes) = fsm.PieceRead bytes.now
event_of (report.Copied length) = fsm.PieceCopied length

-- The files after the effect of an operation.
abbrev pub affected : Effect → Snapshot → Snapshot
affected effect.Nothing m = m
affected effect.Locked m = record m { locked = true }
affected (effect.TargetOpened number) m = record m { opened = Some number }
affected effect.TargetSynced m = record m { target = synced_if m.opened m.target }
affected effect.NamesSynced m = names_synced m
affected effect.LeftoversRemoved m = record m { leftovers = false }
affected (effect.DataCreated number) m = record m { data_file = empty_file number }
affected (effect.DataGrown piece) m = record m { data_file = grown piece.now m.data_file }
affected effect.DataPermitted m = record m { data_file = permitted m.data_file }
affected effect.DataSynced m = record m { data_file = synced m.data_file }
affected effect.DataRenamed m = data_renamed m
affected (effect.RecordCreated number) m = record m { record_file = empty_file number }
affected (effect.RecordWritten bytes) m = record m { record_file = written bytes.now m.record_file }
affected effect.RecordSynced m = record m { record_file = synced m.record_file }
affected effect.RecordRenamed m = record_renamed m
affected effect.FilesRemoved m = record m { data_file = None; record_file = None }

-- A file that another process has put at a name. It is not synced.
abbrev pub new_file : FileView → File
new_file v = record { number = v.number; bytes = v.bytes.now; synced = false; permissions = false }

-- The files after the change that another process made.
abbrev pub changed : Change → Snapshot → Snapshot
changed (change.Target file) m =
    record m { target = option_map new_file file; target_left = m.target ∷ m.target_left }
changed (change.Recorded file) m =
    record m { recorded = option_map new_file file; recorded_left = m.recorded ∷ m.recorded_left }
changed (change.Busy busy) m = record m { busy = busy }

-- The calls of a recorded run that begins with these files.
abbrev pub calls_of : Snapshot → List Line → List Call
calls_of m [] = []
calls_of m (line.Others other ∷ more) = calls_of (changed other m) more
calls_of m (line.Call reported did ∷ more) =
    record { event = event_of reported; before = m; after = affected did m } ∷ calls_of (affected did m) more

-- == Files without their flags ==

-- The number and the bytes of a file, which are all that a FileView of a trace has.
pub record Seen : Type 0 where
  pub number : ℕ
  pub bytes : List ℕ

abbrev pub seen : File → Seen
seen file = record { number = file.number; bytes = file.bytes }

abbrev pub seen_as : FileView → Seen
seen_as v = record { number = v.number; bytes = v.bytes.now }

-- The file with other bytes.
abbrev pub with_bytes : List ℕ → Option Seen → Option Seen
with_bytes bytes (Some v) = Some (record { number = v.number; bytes = bytes })
with_bytes bytes None = None

-- `f` are the files of this snapshot: the numbers and the bytes are the same, and so are the locks.
pub record AreFilesOf (f : Files) (m : Snapshot) : Type 0 where
  pub target : option_map seen m.target ≡ option_map seen_as f.target
  pub recorded : option_map seen m.recorded ≡ option_map seen_as f.recorded
  pub data_file : option_map seen m.data_file ≡ option_map seen_as f.data_file
  pub record_file : option_map seen m.record_file ≡ option_map seen_as f.record_file
  pub locked : m.locked ≡ f.is_locked
  pub busy : m.busy ≡ f.is_busy

-- == A lawful run ==

-- The recorded run, which begins with the files `m`, is that of a lawful application.
abbrev pub IsLawful : World → Options → Snapshot → List Line → Type 0
IsLawful w o m trace = (t : State) × (end : Snapshot) × Applies w (begin o) m (calls_of m trace) t end

-- A call with this event and this effect is lawful in this state.
abbrev pub IsLawfulCall : World → State → Snapshot → Event → Effect → Type 0
IsLawfulCall w s m e did = (is_some (after s.due e s) ≡ true) × Performs w s s.due e m (affected did m)

-- == The decision ==

-- The report is one that the function `has_reported` passes on: not a signature file, and not an empty piece.
abbrev pub is_reported : Report → Bool
is_reported (report.Signature text time) = false
is_reported (report.Piece bytes) = not (length bytes.now == 0)
is_reported reported = true

abbrev pub bytes_seen : Option FileView → List ℕ
bytes_seen (Some v) = v.bytes.now
bytes_seen None = []

abbrev pub is_nothing : Effect → Bool
is_nothing effect.Nothing = true
is_nothing did = false

-- The operation has this effect whenever it succeeds, whatever the files contain.
abbrev pub is_plain : Operation → Effect → Bool
is_plain fsm.SyncTarget effect.TargetSynced = true
is_plain fsm.SyncTargetName effect.NamesSynced = true
is_plain fsm.RemoveLeftovers effect.LeftoversRemoved = true
is_plain fsm.CreateFile (effect.DataCreated number) = true
is_plain fsm.SetPermissions effect.DataPermitted = true
is_plain fsm.SyncFile effect.DataSynced = true
is_plain fsm.CreateRecord (effect.RecordCreated number) = true
is_plain fsm.SyncRecord effect.RecordSynced = true
is_plain fsm.RenameRecord effect.RecordRenamed = true
is_plain fsm.SyncRecordName effect.NamesSynced = true
is_plain fsm.RenameFile effect.DataRenamed = true
is_plain fsm.SyncFileName effect.NamesSynced = true
is_plain fsm.RemoveFiles effect.FilesRemoved = true
is_plain op did = false

-- The file at the target has this number, and these bytes were read.
abbrev pub is_read : ℕ → List ℕ → Option FileView → Bool
is_read number read (Some v) = (v.number == number) && bytes_eq v.bytes.now read
is_read number read None = false

-- The operation may be reported as done with this effect, if these bytes were read so far and this is the
-- update.
abbrev pub is_done : Operation → Effect → Files → List ℕ → List ℕ → Bool
is_done fsm.Lock effect.Locked f read update = not f.is_busy
is_done fsm.ReadTarget (effect.TargetOpened number) f read update = is_read number read f.target
is_done fsm.CopyData effect.Nothing f read update = bytes_eq (bytes_seen f.data_file) update
is_done fsm.ReadBack effect.Nothing f read update = bytes_eq read (bytes_seen f.data_file)
is_done op did f read update = is_plain op did

-- A failed operation may have had this effect.
abbrev pub has_failed : Operation → Effect → Bool
has_failed fsm.RenameRecord effect.RecordRenamed = true
has_failed fsm.RenameFile effect.DataRenamed = true
has_failed fsm.RemoveFiles effect.FilesRemoved = true
has_failed op did = is_nothing did

-- == Traces that record each effect ==

-- The bytes begin with `front`, followed by `piece`.
abbrev pub IsPieceOf : List ℕ → List ℕ → List ℕ → Type 0
IsPieceOf whole front piece = (rest : List ℕ) × (whole ≡ (front ++ piece) ++ rest)

-- The next operation writes the new record, and these are its bytes.
abbrev pub IsRecordDue : State → List ℕ → Type 0
IsRecordDue s bytes =
    (s.due ≡ fsm.WriteRecord) × (is_some (record_due s) ≡ true) × (bytes ≡ new_record s)
    × (length bytes ≤ 224)

-- The effect is that the new record was written.
abbrev pub HasWritten : State → Effect → Type 0
HasWritten s (effect.RecordWritten bytes) = IsRecordDue s bytes.now
HasWritten s did = ⊥

-- The effect is that the next piece of the data, of n bytes, was appended.
abbrev pub HasCopied : List ℕ → List ℕ → ℕ → Effect → Type 0
HasCopied update front n (effect.DataGrown piece) =
    (0 < n) × (length piece.now ≡ n) × IsPieceOf update front piece.now
HasCopied update front n did = ⊥

-- If the effect is that a piece of the data was appended, the operation that is due copies data, and the
-- piece is the next one.
abbrev pub CanGrow : State → List ℕ → List ℕ → Effect → Type 0
CanGrow s update front (effect.DataGrown piece) =
    (s.due ≡ fsm.CopyData) × HasCopied update front (length piece.now) (effect.DataGrown piece)
CanGrow s update front did = ⊤

-- The effect is one that this operation has if it succeeds.
abbrev pub is_effect : Operation → Effect → Bool
is_effect fsm.Lock effect.Locked = true
is_effect fsm.ReadTarget (effect.TargetOpened number) = true
is_effect fsm.CopyData effect.Nothing = true
is_effect fsm.ReadBack effect.Nothing = true
is_effect op did = is_plain op did

-- The effect is that of the operation that is due in this state, if it succeeds.
abbrev pub IsDoneAs : State → Operation → Effect → Type 0
IsDoneAs s fsm.WriteRecord did = HasWritten s did
IsDoneAs s op did = is_effect op did ≡ true

-- The content of the file that is being read: the file that was at the target when reading began.
abbrev pub source_at : State → Snapshot → List ℕ → List ℕ
source_at s m source = if length s.read == 0 then bytes_of m.target else source

-- If the installed file is being read, the piece is its next one.
abbrev pub IsNextRead : State → List ℕ → List ℕ → Type 0
IsNextRead s source piece = s.due ≡ fsm.ReadTarget → IsPieceOf source s.read piece

-- If the report is a piece that was read, it is the next one.
abbrev pub IsReadFrom : State → List ℕ → Report → Type 0
IsReadFrom s source (report.Piece bytes) = IsNextRead s source bytes.now
IsReadFrom s source reported = ⊤

-- The report and the effect on one line of the trace match. An operation that succeeded has its effect. One
-- that failed has no effect, or it has renamed or removed files. A new record has at most 224 bytes. The
-- signature file is that of the inputs. The pieces that are read are those of the file that was at the target
-- when reading began. An Ed25519 result is reported only if a check is due.
abbrev pub ReportMatches : RunInputs → State → Snapshot → List ℕ → Report → Effect → Type 0
ReportMatches f s m source report.Done did = IsDoneAs s s.due did
ReportMatches f s m source (report.Failed fault) did = has_failed s.due did ≡ true
ReportMatches f s m source (report.Signature text time) did =
    (is_nothing did ≡ true) × (text.now ≡ f.sig_text.now)
ReportMatches f s m source (report.Answered accepted) did =
    (is_nothing did ≡ true) × (is_some (question_due s) ≡ true)
ReportMatches f s m source (report.Piece bytes) did = (is_nothing did ≡ true) × IsNextRead s source bytes.now
ReportMatches f s m source (report.Copied n) did = HasCopied f.update.now (bytes_of m.data_file) n did
ReportMatches f s m source reported did = is_nothing did ≡ true

-- From this state and these files on, the trace is that of a lawful application, and report and effect match
-- on each line. `source` is the content of the file that is being read.
abbrev pub IsRecorded : RunInputs → State → Snapshot → List ℕ → List Line → Type 0
IsRecorded f s m source [] = ⊤
IsRecorded f s m source (line.Others other ∷ more) =
    Others m (changed other m) × IsRecorded f s (changed other m) source more
IsRecorded f s m source (line.Call reported did ∷ more) =
    IsLawfulCall (world_of f) s m (event_of reported) did
    × ReportMatches f s m (source_at s m source) reported did
    × IsRecorded f (step s (event_of reported)).1 (affected did m) (source_at s m source) more

-- The message that is signed for the trusted comment fits into the buffer.
abbrev pub MessageFits : World → List ℕ → Type 0
MessageFits w message =
    (t : SignatureTextRecord) → w.text ≡ Ok t
    → length (t.signature.signature ++ t.comments.trusted) ≤ length message

-- == Following a run ==

-- When this operation is due, the update is to be installed, and the bytes that were read before are
-- discarded.
abbrev pub installs : Operation → Bool
installs fsm.RemoveLeftovers = true
installs fsm.WouldInstall = true
installs op = false

-- The bytes read so far, after an event.
abbrev pub read_after : Event → List ℕ → List ℕ
read_after (fsm.PieceRead bytes) read = read ++ bytes
read_after (fsm.ListRead list name) read = []
read_after e read = read

-- The effect is that a piece of the data was appended.
abbrev pub is_growing : Effect → Bool
is_growing (effect.DataGrown piece) = true
is_growing did = false

-- The state has the file name, and the data signature of the signature file, at the operations that need
-- them.
pub record HasInputs (w : World) (file : List ℕ) (s : State) : Type 0 where
  pub named : s.due ≡ fsm.ReadSignature → s.options.file ≡ file
  pub signature : s.due ≡ fsm.CheckComment → (t : SignatureTextRecord) → w.text ≡ Ok t
      → s.signature ≡ t.signature.signature
  pub parsed : s.due ≡ fsm.CheckComment → (t : SignatureTextRecord) × (w.text ≡ Ok t)

-- If n is not 0, the first n bytes of the buffer are the message that is signed for the trusted comment.
abbrev pub HasCommentMessage : World → ℕ → List ℕ → Type 0
HasCommentMessage w n message =
    0 < n → (t : SignatureTextRecord) → w.text ≡ Ok t
    → take n message ≡ t.signature.signature ++ t.comments.trusted

-- If the check of the trusted comment is due, n is the length of its message, which fits into the buffer.
abbrev pub HasWholeMessage : World → Operation → ℕ → List ℕ → Type 0
HasWholeMessage w op n message =
    op ≡ fsm.CheckComment → (t : SignatureTextRecord) → w.text ≡ Ok t
    → (n ≡ length (t.signature.signature ++ t.comments.trusted)) × (n ≤ length message)

-- The follower represents the state and the files.
pub record FollowerHolds (w : World) (f : Follower) (message : List ℕ) (s : State)
    (m : Snapshot) : Type 0 where
  pub stored : Represents f.installation s
  pub read : f.read.now ≡ s.read
  pub seen : AreFilesOf f.files m
  pub asked : HasCommentMessage w f.message_len message
  pub whole : HasWholeMessage w s.due f.message_len message

-- The follower has followed a call with this event and effect.
abbrev pub HasFollowed : World → List ℕ → Event → Effect → Follower → Follower → List ℕ → List ℕ → Type 0
HasFollowed w file e did old new before now =
    (s : State) (m : Snapshot) → HasInputs w file s → FollowerHolds w old before s m
    → IsLawfulCall w s m e did × FollowerHolds w new now (step s e).1 (affected did m)
    × (new.source.now ≡ source_at s m old.source.now)

-- The event was reported to the installer, and it fitted the operation that was due.
pub record HasReported (w : World) (e : Event) (s : State) (new : Follower) (message : List ℕ) : Type 0 where
  pub stored : Represents new.installation (step s e).1
  pub fits : is_some (after s.due e s) ≡ true
  pub asked : HasCommentMessage w new.message_len message
  pub whole : HasWholeMessage w (step s e).1.due new.message_len message

-- The follower has followed a line of a trace.
abbrev pub IsFollowed : World → List ℕ → Line → Follower → Follower → List ℕ → List ℕ → Type 0
IsFollowed w file (line.Others other) old new before now =
    (s : State) (m : Snapshot) → FollowerHolds w old before s m
    → Others m (changed other m) × FollowerHolds w new now s (changed other m)
    × (new.source.now ≡ old.source.now)
IsFollowed w file (line.Call reported did) old new before now =
    HasFollowed w file (event_of reported) did old new before now
