-- The installer as one function. An application performs the operation that is due, reports what happened
-- as an event, and continues with the state that `step` returns, until the run has ended.
--
-- | Operation due   | What the application does                                | What it reports           |
-- |-----------------|----------------------------------------------------------|---------------------------|
-- | Lock            | locks the target, and waits as long as the user allows   | Done, or InUse            |
-- | ReadRecord      | reads the record                                         | RecordRead                |
-- | ReadSignature   | reads the signature file and the clock, once             | SignatureRead             |
-- | CheckComment    | verifies the signature of the trusted comment            | Answered                  |
-- | ReadList        | reads the signed list, once                              | ListRead                  |
-- | CheckList       | verifies the signature for the digest of the list        | Answered                  |
-- | CheckRecord     | verifies the signature for the digest in the record      | Answered                  |
-- | ReadTarget      | reads the installed file, piece by piece                 | PieceRead and then Done,  |
-- |                 |                                                          | or TargetMissing          |
-- | CheckTarget     | verifies the signature for the digest of the installed   | Answered                  |
-- |                 | file or, with a list, for that of the list               |                           |
-- | SyncTarget      | syncs the installed file                                 | Done                      |
-- | SyncTargetName  | syncs the directory                                      | Done                      |
-- | RemoveLeftovers | removes temporary files of killed runs, if it can        | Done                      |
-- | CreateFile      | creates a temporary file                                 | Done                      |
-- | CopyData        | copies the data to the temporary file, piece by piece    | PieceCopied and then Done |
-- | ReadBack        | reads the temporary file through the same descriptor     | PieceRead and then Done   |
-- | CheckData       | verifies the signature for the digest of the bytes that  | Answered                  |
-- |                 | were read back or, with a list, for that of the list     |                           |
-- | SetPermissions  | gives the temporary file the permissions of the old file | Done                      |
-- | SyncFile        | syncs the temporary file                                 | Done                      |
-- | CreateRecord    | creates a temporary file for the record                  | Done                      |
-- | WriteRecord     | writes `new_record` to it                                | Done                      |
-- | SyncRecord      | syncs it                                                 | Done                      |
-- | RenameRecord    | renames it to the record                                 | Done                      |
-- | SyncRecordName  | syncs the directory                                      | Done                      |
-- | RenameFile      | renames the temporary file of the data to the target     | Done                      |
-- | SyncFileName    | syncs the directory                                      | Done                      |
-- | RemoveFiles     | removes the temporary files that this run has made and   | Done                      |
-- |                 | not renamed                                              |                           |
--
-- The application verifies signatures with Ed25519. ReadList and CheckList are due only with a list, that is,
-- if the signature is that of a signed list of files. CheckTarget and CheckData then verify the signature of
-- the list again, and `step` itself compares the file that was read with the digest that the list has for
-- the name.
--
-- With Installed, AlreadyInstalled, WouldInstall and Rejected the run has ended.
--
-- An application reports Failed if an operation fails. The result of a step is Ok, or the error for which
-- this event ends the run, or NotDue if the event does not fit the operation. After NotDue the state is
-- unchanged.
--
-- To install from a pipe, run a check with the same options first. If it ends with WouldInstall, read the
-- pipe into an unnamed file, at most `size` bytes if that is known, and install from this file. If it ends
-- with AlreadyInstalled, install from an empty file: that run syncs the installed file.
use Rattle.std.specs.Prelude.{ℕ, Bool, true, false, not, ◌&&◌, ◌||◌, ◌==◌, ◌-◌, ◌++◌, nat_le, if◌then◌else◌}
use Rattle.std.specs.Prelude.{List, [], ◌∷◌, take, is_some, Option, Some, None, Result, Ok, Err}
use Rattle.std.specs.Option.{unwrap_or}
use Rattle.minisign.specs.SignatureText.{SignatureTextRecord}
use Rattle.minisign_base.specs.declared.faults.NamedFault.{NamedFault}
use Rattle.minisign_base.specs.declared.faults.NamedFault.TheVariants as named
use Rattle.minisign_external.specs.declared.public_keys.PublicKeyValue.{PublicKeyValue}
use Rattle.minisign_external.specs.declared.state.Misuse.TheVariants.{NotDue}
use Rattle.minisign_external.specs.declared.state.Refusal.{Refusal}
use Rattle.minisign_external.specs.declared.state.Refusal.TheVariants.{Refused, WrongUse}
use Rattle.minisign_hash.specs.Blake2b.{blake2b_digest}
use Rattle.minisign_install.specs.Decisions.{Options, Recorded, comment_fault, is_below, judge_record}
use Rattle.minisign_install.specs.Decisions.{judge_text, nothing_recorded, signed_size, version_in}
use Rattle.minisign_install.specs.Faults.{DigestMismatch, DirectoryNotSynced, Fault, InstallFault, Library}
use Rattle.minisign_install.specs.Faults.{Named, OtherSize, SameNumber, TargetInUse}
use Rattle.minisign_install.specs.Listings.{Listing, fits_listed, judge_list, nothing_listed}
use Rattle.minisign_install.specs.RecordTexts.{record_of}
use Rattle.minisign_lists.specs.declared.digests.ListedDigest.{ListedDigest}
use Rattle.minisign_lists.specs.declared.lines.LongDigest.TheVariants as long
pub use Rattle.minisign_install.specs.declared.installation.Operation.{Operation}
pub use Rattle.minisign_install.specs.declared.installation.Operation.TheVariants.{Nothing, Lock, ReadRecord}
pub use Rattle.minisign_install.specs.declared.installation.Operation.TheVariants.{ReadSignature}
pub use Rattle.minisign_install.specs.declared.installation.Operation.TheVariants.{CheckComment, CheckRecord}
pub use Rattle.minisign_install.specs.declared.installation.Operation.TheVariants.{ReadList, CheckList}
pub use Rattle.minisign_install.specs.declared.installation.Operation.TheVariants.{ReadTarget, CheckTarget}
pub use Rattle.minisign_install.specs.declared.installation.Operation.TheVariants.{SyncTarget, SyncTargetName}
pub use Rattle.minisign_install.specs.declared.installation.Operation.TheVariants.{RemoveLeftovers}
pub use Rattle.minisign_install.specs.declared.installation.Operation.TheVariants.{CreateFile, CopyData}
pub use Rattle.minisign_install.specs.declared.installation.Operation.TheVariants.{ReadBack, CheckData}
pub use Rattle.minisign_install.specs.declared.installation.Operation.TheVariants.{SetPermissions, SyncFile}
pub use Rattle.minisign_install.specs.declared.installation.Operation.TheVariants.{CreateRecord, WriteRecord}
pub use Rattle.minisign_install.specs.declared.installation.Operation.TheVariants.{SyncRecord, RenameRecord}
pub use Rattle.minisign_install.specs.declared.installation.Operation.TheVariants.{SyncRecordName, RenameFile}
pub use Rattle.minisign_install.specs.declared.installation.Operation.TheVariants.{SyncFileName, RemoveFiles}
pub use Rattle.minisign_install.specs.declared.installation.Operation.TheVariants.{Installed}
pub use Rattle.minisign_install.specs.declared.installation.Operation.TheVariants.{AlreadyInstalled}
pub use Rattle.minisign_install.specs.declared.installation.Operation.TheVariants.{WouldInstall, Rejected}

-- == States ==

-- The operations by their numbers, from 0 on. Nothing is due in a state that was never begun.
abbrev pub operations : List Operation
operations =
    Nothing ∷ Lock ∷ ReadRecord ∷ ReadSignature ∷ CheckComment ∷ ReadList ∷ CheckList ∷ CheckRecord
    ∷ ReadTarget ∷ CheckTarget ∷ SyncTarget ∷ SyncTargetName ∷ RemoveLeftovers ∷ CreateFile ∷ CopyData
    ∷ ReadBack ∷ CheckData ∷ SetPermissions ∷ SyncFile ∷ CreateRecord ∷ WriteRecord ∷ SyncRecord
    ∷ RenameRecord ∷ SyncRecordName ∷ RenameFile ∷ SyncFileName ∷ RemoveFiles ∷ Installed
    ∷ AlreadyInstalled ∷ WouldInstall ∷ Rejected ∷ []

-- The state of the installer. After the record was read, `recorded` is the part of it that applies. After
-- the signature file was read, `signers` are the keys that may have signed, `signature` is the signature of
-- the data, and `comment_signature` is that of the trusted comment. The comment has then been checked:
-- `fault` is the error for which it is rejected, `version` its version number (0 if it has none), and `size`
-- the signed size. None of these may be relied on before `is_signed` is true; then the first of the signers
-- has signed the comment. After the list was read, `listing` is its digest and the result of looking up
-- the name. It may not be relied on before `is_list_signed` is true; then the first of the signers has also
-- signed the list. `is_recorded` says whether the digest in the record is that of the update or, with a list,
-- of its list. `read` holds the bytes of the file that is being read, `left` is the number of bytes of the
-- signed size that were not copied yet, and `error` is the error for which the run is rejected.
pub record State : Type 0 where
  pub due : Operation
  pub options : Options
  pub recorded : Recorded
  pub signers : List PublicKeyValue
  pub signature : List ℕ
  pub comment_signature : List ℕ
  pub fault : Option InstallFault
  pub version : ℕ
  pub size : Option ℕ
  pub is_signed : Bool
  pub listing : Listing
  pub is_list_signed : Bool
  pub is_recorded : Bool
  pub read : List ℕ
  pub left : Option ℕ
  pub error : Option InstallFault

-- The state at the beginning of a run. With --check, no lock is taken.
abbrev pub begin : Options → State
begin o = record {
  due = if o.check then ReadRecord else Lock;
  options = o;
  recorded = nothing_recorded;
  signers = [];
  signature = [];
  comment_signature = [];
  fault = None;
  version = 0;
  size = None;
  is_signed = false;
  listing = nothing_listed;
  is_list_signed = false;
  is_recorded = false;
  read = [];
  left = None;
  error = None;
}

-- == Events ==

-- The events that the application reports. RecordRead: the bytes of the record, or None if there is none.
-- SignatureRead: the result of parsing the signature file, and the time in seconds since the beginning of
-- 1970, or None for a time before 1970. ListRead: the list, and the name to look up in it. Answered: true if
-- Ed25519 accepts the signature. PieceRead: the next bytes of the file. PieceCopied: the number of bytes
-- that were copied. Failed: out of memory, or an operation of the system failed.
pub data Event : Type 0 where
  Done : Event
  InUse : Event
  Failed : NamedFault → Event
  RecordRead : Option (List ℕ) → Event
  SignatureRead : Result SignatureTextRecord Fault → Option ℕ → Event
  ListRead : List ℕ → List ℕ → Event
  Answered : Bool → Event
  TargetMissing : Event
  PieceRead : List ℕ → Event
  PieceCopied : ℕ → Event

-- == The questions for Ed25519 ==

-- A question for Ed25519: is the signature of the message valid under the key?
pub record Question : Type 0 where
  pub key : List ℕ
  pub message : List ℕ
  pub signature : List ℕ

-- The key of the next question: that of the first signer.
abbrev pub key_of : List PublicKeyValue → List ℕ
key_of [] = []
key_of (v ∷ more) = v.key

-- The question about a trusted comment, which is signed together with the signature of the data.
abbrev pub comment_question : State → List ℕ → Question
comment_question s comment = record {
  key = key_of s.signers;
  message = s.signature ++ comment;
  signature = s.comment_signature;
}

-- The digest for which the signature must be valid: that of the list, or without a list that of the file
-- that was read.
abbrev pub signed_digest : State → List ℕ
signed_digest s = if is_some s.options.list then s.listing.digest else blake2b_digest 64 s.read

-- The digest for which this operation verifies the signature.
abbrev pub digest_due : Operation → State → List ℕ
digest_due CheckRecord s = unwrap_or s.recorded.digest []
digest_due op s = signed_digest s

-- The question about data, at this operation. If the record has no digest, CheckRecord is never due.
abbrev pub data_question : Operation → State → Question
data_question op s =
    record { key = key_of s.signers; message = digest_due op s; signature = s.signature }

-- == Decisions ==

-- This operation is due next.
abbrev pub go : Operation → State → State
go op s = record s { due = op }

-- When this operation is due, the run has a temporary file that it has not renamed.
abbrev pub has_files : Operation → Bool
has_files CopyData = true
has_files ReadBack = true
has_files CheckData = true
has_files SetPermissions = true
has_files SyncFile = true
has_files CreateRecord = true
has_files WriteRecord = true
has_files SyncRecord = true
has_files RenameRecord = true
has_files SyncRecordName = true
has_files RenameFile = true
has_files op = false

-- The state after the run is rejected with this error. Its temporary files are removed first.
abbrev pub reject : InstallFault → State → State
reject fault s = record s { due = if has_files s.due then RemoveFiles else Rejected; error = Some fault }

-- The error of an operation that failed. If the update is installed and was not synced, a crash may undo it.
abbrev pub failure : Operation → NamedFault → InstallFault
failure SyncTarget f = DirectoryNotSynced
failure SyncTargetName f = DirectoryNotSynced
failure SyncFileName f = DirectoryNotSynced
failure op f = Library (Named f)

-- An operation can fail for one of these reasons.
abbrev pub is_failure : NamedFault → Bool
is_failure named.OutOfMemory = true
is_failure named.ReadingFailed = true
is_failure named.WritingFailed = true
is_failure named.RandomSourceFailed = true
is_failure f = false

-- The state after a failed operation, if it can fail for this reason.
abbrev pub fail : NamedFault → State → Option State
fail f s = if is_failure f then Some (reject (failure s.due f) s) else None

-- The state in which the update is to be installed; a check ends here. The bytes that were read of the
-- installed file are discarded.
abbrev pub install : State → State
install s = record s { due = if s.options.check then WouldInstall else RemoveLeftovers; read = [] }

-- The state after the record was read, with its contents or the error with which it is rejected.
abbrev pub after_record : Result Recorded InstallFault → State → State
after_record (Ok recorded) s = record s { due = ReadSignature; recorded = recorded }
after_record (Err fault) s = reject fault s

-- The state after the signature file was read. Its comment is checked only here; `fault` keeps the result
-- until the signature of the comment is found valid.
abbrev pub after_signature : Result (SignatureTextRecord × List PublicKeyValue) Fault → Option ℕ → State
    → State
after_signature (Ok (t, signers)) time s = record s {
  due = CheckComment;
  signers = signers;
  signature = t.signature.signature;
  comment_signature = take 64 t.comments.signature;
  fault = comment_fault s.options s.recorded.version time t.comments.trusted;
  version = unwrap_or (version_in s.options.numbering t.comments.trusted) 0;
  size = signed_size s.options.list t.comments.trusted;
  left = signed_size s.options.list t.comments.trusted;
}
after_signature (Err fault) time s = reject (Library fault) s

-- The update is newer than the recorded version, or there is none.
abbrev pub is_newer : State → Bool
is_newer s = not (is_some s.recorded.version) || is_below s.recorded.version (Some s.version)

-- The update is older than the recorded version. Without --roll-back its comment is rejected.
abbrev pub is_rolling_back : State → Bool
is_rolling_back s = is_below (Some s.version) s.recorded.version

-- The state after the comment, and the list if there is one, were accepted. If the update is newer, it is
-- installed without reading the installed file. Otherwise it may be installed already.
abbrev pub compare : State → State
compare s =
    if is_newer s then install s
    else if is_some s.recorded.digest then go CheckRecord s
    else if is_rolling_back s then install s
    else go ReadTarget s

-- The state after the signature of the comment was found valid. If there is an error, the run is rejected
-- with it. Otherwise the run continues with the list, if it uses one.
abbrev pub after_comment : Option InstallFault → State → State
after_comment None s = if is_some s.options.list then go ReadList s else compare s
after_comment (Some fault) s = reject fault s

-- The state after the list was read. The name is looked up here, and nowhere else. `listing` keeps the result
-- until the signature of the list is found valid.
abbrev pub after_list : List ℕ → List ℕ → State → State
after_list list name s = record s {
  due = CheckList;
  listing = judge_list (unwrap_or s.options.list long.Rejected) list name;
  read = [];
}

-- The state after the signature of the list was found valid. The run continues if looking up the name in the
-- list had a digest as its result. Otherwise it is rejected with the error of the lookup.
abbrev pub after_listing : Result ListedDigest InstallFault → State → State
after_listing (Ok digest) s = compare s
after_listing (Err fault) s = reject fault s

-- The file that was read has the listed digest, or there is no list.
abbrev pub is_listed : State → Bool
is_listed s = fits_listed s.options.list s.listing.listed s.read

-- The state after Ed25519 rejected the signature of the comment under the first of these keys. The second key
-- with this key ID is tried, if there is one.
abbrev pub next_key : List PublicKeyValue → State → State
next_key (v ∷ w ∷ more) s = record s { signers = w ∷ more }
next_key signers s = reject (Library (Named named.CommentSignatureRefused)) s

-- The state after Ed25519 accepted or rejected the signature for the digest in the record: true if this is
-- the digest of the update. If it is false and the update is older, the update is installed, which is a
-- roll-back.
abbrev pub after_digest : Bool → State → State
after_digest accepted s =
    if not accepted && is_rolling_back s then install s
    else record s { due = ReadTarget; is_recorded = accepted }

-- The state after Ed25519 accepted or rejected the signature for the installed file: true if this file is the
-- update. If it is false, the update replaces the file only if the record is that of the update, or if
-- --again is given.
abbrev pub after_target : Bool → State → State
after_target true s = go (if s.options.check then AlreadyInstalled else SyncTarget) s
after_target false s =
    if s.is_recorded || s.options.again then install s else reject SameNumber s

-- The state after the signature was found valid for the digest of the data or, with a list, for that of the
-- list. The flag is true if the data has the listed digest, and without a list.
abbrev pub after_data : Bool → State → State
after_data true s = go SetPermissions s
after_data false s = reject DigestMismatch s

-- The state after a piece of n bytes was copied. The run is rejected if the data is longer than the signed
-- size.
abbrev pub after_piece : ℕ → Option ℕ → State → State
after_piece n None s = s
after_piece n (Some left) s =
    if nat_le n left then record s { left = Some (left - n) } else reject OtherSize s

-- The state after all data was copied. The run is rejected if the data is shorter than the signed size.
abbrev pub after_copy : Option ℕ → State → State
after_copy None s = go ReadBack s
after_copy (Some left) s = if left == 0 then go ReadBack s else reject OtherSize s

-- == The step ==

-- The operation that always follows this one when it is done, or None if the next operation depends on the
-- state.
abbrev pub next : Operation → Option Operation
next Lock = Some ReadRecord
next ReadTarget = Some CheckTarget
next SyncTarget = Some SyncTargetName
next SyncTargetName = Some AlreadyInstalled
next RemoveLeftovers = Some CreateFile
next CreateFile = Some CopyData
next ReadBack = Some CheckData
next SetPermissions = Some SyncFile
next SyncFile = Some CreateRecord
next CreateRecord = Some WriteRecord
next WriteRecord = Some SyncRecord
next SyncRecord = Some RenameRecord
next RenameRecord = Some SyncRecordName
next SyncRecordName = Some RenameFile
next RenameFile = Some SyncFileName
next SyncFileName = Some Installed
next RemoveFiles = Some Rejected
next op = None

-- The state in which this operation is due, if there is one.
abbrev pub proceed : Option Operation → State → Option State
proceed (Some op) s = Some (go op s)
proceed None s = None

-- The state after an event, if the event fits the operation. If removing the temporary files fails, the run
-- is still rejected with the error for which they are removed.
abbrev pub after : Operation → Event → State → Option State
after Lock InUse s = Some (reject TargetInUse s)
after ReadRecord (RecordRead found) s = Some (after_record (judge_record s.options found) s)
after ReadSignature (SignatureRead text time) s = Some (after_signature (judge_text s.options text) time s)
after CheckComment (Answered true) s = Some (after_comment s.fault (record s { is_signed = true }))
after CheckComment (Answered false) s = Some (next_key s.signers s)
after ReadList (ListRead list name) s = Some (after_list list name s)
after CheckList (Answered true) s = Some (after_listing s.listing.listed (record s { is_list_signed = true }))
after CheckList (Answered false) s = Some (reject (Library (Named named.SignatureRefused)) s)
after CheckRecord (Answered accepted) s = Some (after_digest accepted s)
after ReadTarget (PieceRead bytes) s = Some (record s { read = s.read ++ bytes })
after ReadTarget TargetMissing s = Some (install s)
after CheckTarget (Answered accepted) s = Some (after_target (accepted && is_listed s) s)
after CopyData (PieceCopied n) s = Some (after_piece n s.left s)
after CopyData Done s = Some (after_copy s.left s)
after ReadBack (PieceRead bytes) s = Some (record s { read = s.read ++ bytes })
after CheckData (Answered true) s = Some (after_data (is_listed s) s)
after CheckData (Answered false) s = Some (reject (Library (Named named.SignatureRefused)) s)
after RemoveFiles (Failed f) s = if is_failure f then Some (go Rejected s) else None
after Nothing (Failed f) s = None
after Installed (Failed f) s = None
after AlreadyInstalled (Failed f) s = None
after WouldInstall (Failed f) s = None
after Rejected (Failed f) s = None
after op (Failed f) s = fail f s
after op Done s = proceed (next op) s
after op e s = None

-- The result of an event that fits: success, or the error for which this event ends the run.
abbrev pub result_of : Option InstallFault → Option InstallFault → Result Unit (Refusal InstallFault)
result_of None (Some fault) = Err (Refused fault)
result_of before now = Ok tt

-- The result and the new state, if the event fits. Otherwise the result is NotDue, and the state is
-- unchanged.
abbrev pub answer : State → Option State → Result Unit (Refusal InstallFault) × State
answer s (Some t) = (result_of s.error t.error, t)
answer s None = (Err (WrongUse NotDue), s)

-- One step of the installer.
abbrev pub step : State → Event → Result Unit (Refusal InstallFault) × State
step s e = answer s (after s.due e s)

-- The run has ended.
abbrev pub has_ended : Operation → Bool
has_ended Installed = true
has_ended AlreadyInstalled = true
has_ended WouldInstall = true
has_ended Rejected = true
has_ended op = false

-- == The new record ==

-- A roll-back keeps the recorded version and its key, so that the newer version is not installed again. The
-- digest is always that of the data that is installed, or that of its list.
abbrev pub new_version : State → ℕ
new_version s = if is_rolling_back s then unwrap_or s.recorded.version s.version else s.version

abbrev pub new_key : State → List ℕ
new_key s = if is_rolling_back s then unwrap_or s.recorded.key (key_of s.signers) else key_of s.signers

abbrev pub new_record : State → List ℕ
new_record s = record_of s.options.numbering (new_version s) (new_key s) (signed_digest s)

-- == The line at fault ==

-- The number of the line of the list for which the run is rejected. It is 0 if no line is at fault, or the
-- list was not found to be signed.
abbrev pub line_at_fault : State → ℕ
line_at_fault s = if s.is_list_signed then s.listing.line else 0
