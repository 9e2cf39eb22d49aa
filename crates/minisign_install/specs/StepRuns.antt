-- Runs of an application that performs the operation that is due and reports what happened, and the
-- properties that all runs have. The clock may show any time at any event. Other processes may do anything to
-- the installed file. They leave the record and the temporary files of this run alone while it holds the
-- lock. proofs/StepSafety, StepReasons, StepArrivals, StepEnds, StepSyncs, StepFiles and StepChecks prove the
-- laws.
use Rattle.std.specs.Prelude.{◌≡◌, ◌≢◌, ◌<◌, ◌≤◌, ◌+◌, ◌++◌, ◌⊎◌, ◌||◌, ◌&&◌, ⊤, ℕ, Bool, true, false}
use Rattle.std.specs.Prelude.{if◌then◌else◌, List, [], ◌∷◌, length, take, is_some, Option, Some, None}
use Rattle.std.specs.Prelude.{Result, Ok, Err}
use Rattle.std.specs.Option.{unwrap_or}
use Rattle.minisign.specs.Acceptance.{Verifier}
use Rattle.minisign.specs.SignatureText.{SignatureTextRecord}
use Rattle.minisign_base.specs.declared.faults.NamedFault.TheVariants as named
use Rattle.minisign_external.specs.declared.public_keys.PublicKeyValue.{PublicKeyValue}
use Rattle.minisign_hash.specs.Blake2b.{blake2b_digest}
use Rattle.minisign_install.specs.Decisions.{Options, Recorded, comment_fault, judge_record, judge_text}
use Rattle.minisign_install.specs.Decisions.{names_other_key, recorded_version, signed_size, version_in}
use Rattle.minisign_install.specs.Faults.{DigestMismatch, Fault, InstallFault, Library, Named, OtherSize}
use Rattle.minisign_install.specs.Faults.{SameNumber, TargetInUse}
use Rattle.minisign_install.specs.Listings.{digest_found, digest_to_sign, entry_in, fits_list, judge_list}
use Rattle.minisign_install.specs.Step.{AlreadyInstalled, Answered, CheckComment, CheckData, CopyData, Done}
use Rattle.minisign_install.specs.Step.{Event, Failed, InUse, Installed, Operation, PieceCopied, PieceRead}
use Rattle.minisign_install.specs.Step.{Question, ReadBack, ReadTarget, RecordRead, RenameFile}
use Rattle.minisign_install.specs.Step.{RenameRecord, SignatureRead, State, WouldInstall, after, begin}
use Rattle.minisign_install.specs.Step.{comment_question, CheckRecord, CheckTarget, ReadRecord}
use Rattle.minisign_install.specs.Step.{CheckList, ListRead, ReadList}
use Rattle.minisign_install.specs.Step.{ReadSignature, RemoveLeftovers, CreateFile, RemoveFiles}
use Rattle.minisign_install.specs.Step.{CreateRecord, SetPermissions, SyncFile, SyncFileName, SyncRecord}
use Rattle.minisign_install.specs.Step.{SyncRecordName, SyncTarget, SyncTargetName, WriteRecord}
use Rattle.minisign_install.specs.Step.{data_question, failure, new_record, new_version, step}
use Rattle.minisign_lists.specs.declared.digests.ListedDigest.{ListedDigest}
use Rattle.minisign_lists.specs.declared.lines.LongDigest.{LongDigest}
use Rattle.minisign_lists.specs.declared.lines.LongDigest.TheVariants as long

-- The inputs of a run: the signatures that Ed25519 accepts (message, key and signature), the record, the
-- parsed signature file, and the data; if the signature is that of a list, also the list, and the name that
-- the application looks up in it. The installed file never has more than `max_size` bytes.
pub record World : Type 0 where
  pub accepts : Verifier
  pub found_record : Option (List ℕ)
  pub text : Result SignatureTextRecord Fault
  pub update : List ℕ
  pub list : List ℕ
  pub name : List ℕ
  pub max_size : ℕ

-- Ed25519 accepts the signature in this question.
abbrev pub accepts_question : World → Question → Bool
accepts_question w q = w.accepts q.message q.key q.signature

-- `accepted` is the result of Ed25519 for the question at this operation.
abbrev pub IsAnswer : World → State → Operation → Bool → Type 0
IsAnswer w s CheckComment accepted =
    (t : SignatureTextRecord) → w.text ≡ Ok t
    → accepted ≡ accepts_question w (comment_question s t.comments.trusted)
IsAnswer w s op accepted = accepted ≡ accepts_question w (data_question op s)

-- The event is true at this operation: it reports what happened. A lawful application reports only true
-- events. n is the number of bytes that were copied so far. A piece is not empty, and not longer than the
-- rest of the file. Copying ends at the end of the data. The temporary file has the bytes that were copied.
abbrev pub IsTrueEvent : World → ℕ → State → Operation → Event → Type 0
IsTrueEvent w n s op (RecordRead found) = found ≡ w.found_record
IsTrueEvent w n s op (SignatureRead text time) = text ≡ w.text
IsTrueEvent w n s op (ListRead list name) = (list ≡ w.list) × (name ≡ w.name)
IsTrueEvent w n s op (Answered accepted) = IsAnswer w s op accepted
IsTrueEvent w n s ReadTarget (PieceRead bytes) =
    (0 < length bytes) × (length (s.read ++ bytes) ≤ w.max_size)
IsTrueEvent w n s ReadBack (PieceRead bytes) =
    (0 < length bytes) × ((rest : List ℕ) × ((s.read ++ bytes) ++ rest ≡ w.update))
IsTrueEvent w n s op (PieceCopied k) = (0 < k) × (n + k ≤ length w.update)
IsTrueEvent w n s CopyData Done = n ≡ length w.update
IsTrueEvent w n s ReadBack Done = s.read ≡ w.update
IsTrueEvent w n s op e = ⊤

-- The number of bytes copied after an event.
abbrev pub count : ℕ → Event → ℕ
count n (PieceCopied k) = n + k
count n e = n

-- The number of bytes that were copied, after several events.
abbrev pub total : ℕ → List Event → ℕ
total n [] = n
total n (e ∷ more) = total (count n e) more

-- These events lead from one state to another, and each of them has the property Holds. A run may be cut off
-- anywhere.
abbrev pub IsRun : (ℕ → State → Event → Type 0) → ℕ → State → List Event → State → Type 0
IsRun Holds n s [] t = t ≡ s
IsRun Holds n s (e ∷ more) t = Holds n s e × IsRun Holds (count n e) (step s e).1 more t

-- The event fits the operation that is due.
abbrev pub EventFits : State → Event → Type 0
EventFits s e = is_some (after s.due e s) ≡ true

-- The event fits and is true, so a lawful application may report it.
abbrev pub IsLawfulEvent : World → ℕ → State → Event → Type 0
IsLawfulEvent w n s e = EventFits s e × IsTrueEvent w n s s.due e

-- == A good update ==

-- The comment signature is valid under this key.
abbrev pub signs_comment : World → SignatureTextRecord → PublicKeyValue → Bool
signs_comment w t v =
    w.accepts (t.signature.signature ++ t.comments.trusted) v.key (take 64 t.comments.signature)

-- The first of the keys under which the comment signature is valid.
abbrev pub first_signer : World → SignatureTextRecord → List PublicKeyValue → Option (List ℕ)
first_signer w t [] = None
first_signer w t (v ∷ more) = if signs_comment w t v then Some v.key else first_signer w t more

-- The update ought to be installed. The record is accepted, or is missing and not needed. The signature file
-- has passed the checks that need no Ed25519, and keys are the keys with its key ID. The first of them that
-- signed the comment also signed the data; with a list, it signed the list instead, and the list has the
-- digest of the data for the name. The comment has a version number that is greater than the recorded one,
-- and the data has the signed size.
pub record IsGoodUpdate (w : World) (o : Options) : Type 0 where
  pub installs : o.check ≡ false
  pub recorded : Recorded
  pub record_applies : judge_record o w.found_record ≡ Ok recorded
  pub text : SignatureTextRecord
  pub parsed : w.text ≡ Ok text
  pub keys : List PublicKeyValue
  pub passed : judge_text o (Ok text) ≡ Ok (text, keys)
  pub key : List ℕ
  pub signed_comment : first_signer w text keys ≡ Some key
  pub signed_data : w.accepts (digest_to_sign o.list w.list w.update) key text.signature.signature ≡ true
  pub listed : fits_list o.list w.list w.name w.update ≡ true
  pub version : ℕ
  pub numbered : version_in o.numbering text.comments.trusted ≡ Some version
  pub newer : (k : ℕ) → recorded.version ≡ Some k → k < version
  pub sized : (size : ℕ) → signed_size o.list text.comments.trusted ≡ Some size → length w.update ≡ size

-- The event is not a failure, and the comment is not rejected at the time that is passed in.
abbrev pub IsAcceptable : {w : World} {o : Options} → IsGoodUpdate w o → Event → Type 0
IsAcceptable g (Failed f) = ⊥
IsAcceptable g InUse = ⊥
IsAcceptable {o = o} g (SignatureRead text time) =
    comment_fault o g.recorded.version time g.text.comments.trusted ≡ None
IsAcceptable g e = ⊤

-- A run without failures so far, with these inputs.
abbrev pub IsGoodRun : {w : World} {o : Options} → IsGoodUpdate w o → List Event → State → Type 0
IsGoodRun {w = w} {o = o} g = IsRun (λ n s e. IsLawfulEvent w n s e × IsAcceptable g e) 0 (begin o)

-- == What a run changes ==

-- The bytes of the installed file and of the record.
pub record Disk : Type 0 where
  pub target : Option (List ℕ)
  pub record_bytes : Option (List ℕ)

-- The effect of an operation with this event on the target and the record. Only the two renames change them.
-- A rename that is reported as failed may have been done.
abbrev pub Changes : Operation → State → Event → Disk → Disk → Type 0
Changes RenameRecord s Done old new = new ≡ record old { record_bytes = Some (new_record s) }
Changes RenameRecord s (Failed f) old new =
    (new ≡ old) ⊎ (new ≡ record old { record_bytes = Some (new_record s) })
Changes RenameFile s Done old new = new ≡ record old { target = Some s.read }
Changes RenameFile s (Failed f) old new = (new ≡ old) ⊎ (new ≡ record old { target = Some s.read })
Changes op s e old new = new ≡ old

-- A run, possibly with failures, from one state and disk to another. The list has each event with the disk
-- after it. The run may be cut off anywhere.
abbrev pub Runs : World → ℕ → State → Disk → List (Event × Disk) → State → Disk → Type 0
Runs w n s d [] t d' = (t ≡ s) × (d' ≡ d)
Runs w n s d ((e, mid) ∷ more) t d' =
    IsLawfulEvent w n s e × Changes s.due s e d mid × Runs w (count n e) (step s e).1 mid more t d'

-- The event does not report a failed operation or a lock that is in use.
abbrev pub Succeeds : Event → Type 0
Succeeds (Failed f) = ⊥
Succeeds InUse = ⊥
Succeeds e = ⊤

-- Each event succeeds.
abbrev pub AllSucceed : List (Event × Disk) → Type 0
AllSucceed [] = ⊤
AllSucceed ((e, disk) ∷ more) = Succeeds e × AllSucceed more

-- No version is compared: there is no record with a version number, and --first was given; or the record
-- names a key that was not given, and --first or --new-key was given.
abbrev pub ComparesNoVersion : Options → Option (List ℕ) → Type 0
ComparesNoVersion o None = o.first ≡ true
ComparesNoVersion o (Some bytes) =
    ((o.first ≡ true) × (recorded_version o.numbering bytes ≡ None))
    ⊎ (((o.first || o.new_key) ≡ true) × (names_other_key o bytes ≡ true))

-- The record has this version number for the field of the options.
abbrev pub HasVersion : Options → Option (List ℕ) → ℕ → Type 0
HasVersion o found k =
    (bytes : List ℕ) × (found ≡ Some bytes) × (recorded_version o.numbering bytes ≡ Some k)

-- With a list, the state has the digest of the list and the result of looking up the name in it.
abbrev pub HasListing : World → Options → State → Type 0
HasListing w o s =
    is_some o.list ≡ true → s.listing ≡ judge_list (unwrap_or o.list long.Rejected) w.list w.name

-- The update that a run with these options may install: `keys` are the given keys that have the key ID of
-- the signature. The run has passed over those in `others`; the first key after them has signed the comment
-- and the data, and the comment is not rejected at the time that was passed in. If the signature is that of
-- a list, the key has signed the list instead of the data, and the list has the digest of the data for the
-- name. The version number that is recorded next is not below the recorded one.
pub record IsUpdate (w : World) (o : Options) (s : State) : Type 0 where
  pub same_options : s.options ≡ o
  pub record_applies : judge_record o w.found_record ≡ Ok s.recorded
  pub text : SignatureTextRecord
  pub parsed : w.text ≡ Ok text
  pub keys : List PublicKeyValue
  pub passed : judge_text o (Ok text) ≡ Ok (text, keys)
  pub passed_over : List PublicKeyValue
  pub keys_split : passed_over ++ s.signers ≡ keys
  pub time : Option ℕ
  pub comment_accepted : comment_fault o s.recorded.version time text.comments.trusted ≡ None
  pub version : s.version ≡ unwrap_or (version_in o.numbering text.comments.trusted) 0
  pub signature : s.signature ≡ text.signature.signature
  pub comment_signature : s.comment_signature ≡ take 64 text.comments.signature
  pub signed_comment : accepts_question w (comment_question s text.comments.trusted) ≡ true
  pub signed_data : accepts_question w (data_question CheckData s) ≡ true
  pub listing : HasListing w o s
  pub listed : fits_list o.list w.list w.name s.read ≡ true
  pub not_older : (k : ℕ) → s.recorded.version ≡ Some k → HasVersion o w.found_record k × (k ≤ new_version s)
  pub not_compared : s.recorded.version ≡ None → ComparesNoVersion o w.found_record

-- The disk is as it was before the run, or the record is that of an update (IsUpdate), and the target is
-- either unchanged or the update.
abbrev pub IsSafe : World → Options → Disk → Disk → Type 0
IsSafe w o old new =
    (new ≡ old)
    ⊎ ((s : State) × IsUpdate w o s × (new.record_bytes ≡ Some (new_record s))
    × ((new.target ≡ old.target) ⊎ (new.target ≡ Some s.read)))

-- == Reasons ==

-- The record is valid, or none is needed, and one of the given keys has signed the comment.
pub record IsSigned (w : World) (o : Options) : Type 0 where
  pub recorded : Recorded
  pub record_applies : judge_record o w.found_record ≡ Ok recorded
  pub text : SignatureTextRecord
  pub keys : List PublicKeyValue
  pub passed : judge_text o w.text ≡ Ok (text, keys)
  pub key : List ℕ
  pub signer : first_signer w text keys ≡ Some key

-- The signature is valid for data with this digest.
abbrev pub accepts_digest : {w : World} {o : Options} → IsSigned w o → List ℕ → Bool
accepts_digest {w = w} g digest = w.accepts digest g.key g.text.signature.signature

-- The signature is valid for the data. With a list, it is valid for the list instead, and the list has the
-- digest of the data for the name.
abbrev pub accepts_data : {w : World} {o : Options} → IsSigned w o → List ℕ → Bool
accepts_data {w = w} {o = o} g m =
    accepts_digest g (digest_to_sign o.list w.list m) && fits_list o.list w.list w.name m

-- If the signature is that of a list, it is valid for the list, and the list has a digest for the name.
abbrev pub IsListAccepted : {w : World} {o : Options} → IsSigned w o → Type 0
IsListAccepted {w = w} {o = o} g =
    (long : LongDigest) → o.list ≡ Some long → (accepts_digest g (blake2b_digest 64 w.list) ≡ true)
    × ((digest : ListedDigest) × (digest_found (entry_in long w.list w.name) ≡ Ok digest))

-- The signature is that of a list, and looking up the name in this list fails with this error.
abbrev pub IsListFault : World → Options → InstallFault → Type 0
IsListFault w o fault =
    (long : LongDigest) × (o.list ≡ Some long)
    × (digest_found (entry_in long w.list w.name) ≡ Err fault)

-- The update has the recorded version, --again is not given, and neither the digest in the record nor the
-- installed file is that of the update.
pub record IsSameVersion {w : World} {o : Options} (g : IsSigned w o) : Type 0 where
  pub not_again : o.again ≡ false
  pub version : ℕ
  pub recorded : g.recorded.version ≡ Some version
  pub offered : unwrap_or (version_in o.numbering g.text.comments.trusted) 0 ≡ version
  pub installed : List ℕ
  pub installed_differs : accepts_data g installed ≡ false
  pub recorded_differs : (digest : List ℕ) → g.recorded.digest ≡ Some digest → accepts_digest g digest ≡ false

-- If this event reports a time, which only SignatureRead does, the time is in the set.
abbrev pub IsAtTimeIn : (Option ℕ → Bool) → Event → Type 0
IsAtTimeIn times (SignatureRead text time) = times time ≡ true
IsAtTimeIn times e = ⊤

-- A time, with the proof that it is in the set.
abbrev pub TimeIn : (Option ℕ → Bool) → Type 0
TimeIn times = (time : Option ℕ) × (times time ≡ true)

-- The error is due to an input of the run. The causes are, in this order: the record is rejected; the
-- signature file is rejected; no given key has signed the comment; the signed comment is rejected at a time
-- in the set; the recorded version is installed with a different file; the data does not have the signed
-- size; the signature is not valid for the data or, with a list, for the list; looking up the name in the
-- signed list fails; the data does not have the digest in the signed list.
abbrev pub IsInputFault : World → Options → (Option ℕ → Bool) → InstallFault → Type 0
IsInputFault w o times fault =
    (judge_record o w.found_record ≡ Err fault)
    ⊎ ((f : Fault) × (fault ≡ Library f) × (judge_text o w.text ≡ Err f))
    ⊎ ((fault ≡ Library (Named named.CommentSignatureRefused))
    × ((t : SignatureTextRecord) × (keys : List PublicKeyValue) × (judge_text o w.text ≡ Ok (t, keys))
    × (first_signer w t keys ≡ None)))
    ⊎ ((g : IsSigned w o) × (time : TimeIn times)
    × (comment_fault o g.recorded.version time.0 g.text.comments.trusted ≡ Some fault))
    ⊎ ((g : IsSigned w o) × (fault ≡ SameNumber) × IsSameVersion g)
    ⊎ ((g : IsSigned w o) × (fault ≡ OtherSize)
    × ((size : ℕ) × (signed_size o.list g.text.comments.trusted ≡ Some size) × (length w.update ≢ size)))
    ⊎ ((g : IsSigned w o) × (fault ≡ Library (Named named.SignatureRefused))
    × (accepts_digest g (digest_to_sign o.list w.list w.update) ≡ false))
    ⊎ ((g : IsSigned w o) × (accepts_digest g (digest_to_sign o.list w.list w.update) ≡ true)
    × IsListFault w o fault)
    ⊎ ((g : IsSigned w o) × (fault ≡ DigestMismatch)
    × (accepts_digest g (digest_to_sign o.list w.list w.update) ≡ true)
    × (fits_list o.list w.list w.name w.update ≡ false))

-- The error with which an event in this state ends the run: the operation failed, the lock is in use, or an
-- input is rejected.
abbrev pub IsReason : World → Options → (Option ℕ → Bool) → State → Event → InstallFault → Type 0
IsReason w o times s (Failed f) fault = fault ≡ failure s.due f
IsReason w o times s InUse fault = fault ≡ TargetInUse
IsReason w o times s e fault = IsInputFault w o times fault

-- The meaning of the end of a run. After Installed, AlreadyInstalled and WouldInstall, a given key has signed
-- the trusted comment, and the comment is not rejected at a time in the set. After Installed, this key has
-- also signed the data. After AlreadyInstalled, it has signed the digest of some data; `EndIsDurable` says
-- that this is the data that the run read at the target. If the signature is that of a list, the key has
-- signed the list instead, and the list has the digest of the data for the name.
abbrev pub IsEnd : World → Options → (Option ℕ → Bool) → Operation → Type 0
IsEnd w o times Installed =
    (g : IsSigned w o) × (time : TimeIn times)
    × (comment_fault o g.recorded.version time.0 g.text.comments.trusted ≡ None)
    × (accepts_data g w.update ≡ true)
IsEnd w o times AlreadyInstalled =
    (g : IsSigned w o) × (time : TimeIn times)
    × (comment_fault o g.recorded.version time.0 g.text.comments.trusted ≡ None)
    × ((installed : List ℕ) × (accepts_data g installed ≡ true))
IsEnd w o times WouldInstall =
    (o.check ≡ true) × ((g : IsSigned w o) × (time : TimeIn times)
    × (comment_fault o g.recorded.version time.0 g.text.comments.trusted ≡ None) × IsListAccepted g)
IsEnd w o times op = ⊤

-- == Checks ==

-- The operation of a check: it ends at the operation with which an installation would start to change files.
abbrev pub check_due : Operation → Operation
check_due RemoveLeftovers = WouldInstall
check_due SyncTarget = AlreadyInstalled
check_due op = op

-- The state of a check with the same options.
abbrev pub as_check : State → State
as_check s = record s { due = check_due s.due; options = record s.options { check = true } }

-- The operation serves to decide whether to install the update. Installations and checks both perform it.
abbrev pub decides : Operation → Bool
decides ReadRecord = true
decides ReadSignature = true
decides CheckComment = true
decides ReadList = true
decides CheckList = true
decides CheckRecord = true
decides ReadTarget = true
decides CheckTarget = true
decides op = false

-- == What is on the disk ==

-- The files and names that were synced since their last change: the temporary files of the data and of the
-- record, the name of the record, the installed file, and its name.
pub record OnDisk : Type 0 where
  pub data_file : Bool
  pub record_file : Bool
  pub record_name : Bool
  pub target_file : Bool
  pub target_name : Bool

abbrev pub nothing_synced : OnDisk
nothing_synced = record {
  data_file = false;
  record_file = false;
  record_name = false;
  target_file = false;
  target_name = false;
}

-- The flags after an event at this operation.
abbrev pub syncs : Operation → Event → OnDisk → OnDisk
syncs CopyData (PieceCopied k) d = record d { data_file = false }
syncs SetPermissions Done d = record d { data_file = false }
syncs SyncFile Done d = record d { data_file = true }
syncs WriteRecord Done d = record d { record_file = false }
syncs SyncRecord Done d = record d { record_file = true }
syncs RenameRecord Done d = record d { record_name = false }
syncs SyncRecordName Done d = record d { record_name = true }
syncs RenameFile Done d = record d { target_name = false }
syncs SyncFileName Done d = record d { target_name = true }
syncs SyncTarget Done d = record d { target_file = true }
syncs SyncTargetName Done d = record d { target_name = true }
syncs op e d = d

-- The flags after a run.
abbrev pub synced_by : State → List Event → OnDisk → OnDisk
synced_by s [] d = d
synced_by s (e ∷ more) d = synced_by (step s e).1 more (syncs s.due e d)

-- The files that are synced when this operation is due. A file is synced before it is renamed, and the name
-- of the record before the update is renamed to the target. A run ends with Installed or AlreadyInstalled
-- only if the file and its name are synced; a check syncs nothing.
abbrev pub IsSynced : Operation → State → OnDisk → Type 0
IsSynced CreateRecord s d = d.data_file ≡ true
IsSynced WriteRecord s d = d.data_file ≡ true
IsSynced SyncRecord s d = d.data_file ≡ true
IsSynced RenameRecord s d = (d.data_file ≡ true) × (d.record_file ≡ true)
IsSynced SyncRecordName s d = (d.data_file ≡ true) × (d.record_file ≡ true)
IsSynced RenameFile s d = (d.data_file ≡ true) × (d.record_file ≡ true) × (d.record_name ≡ true)
IsSynced SyncFileName s d = (d.data_file ≡ true) × (d.record_file ≡ true) × (d.record_name ≡ true)
IsSynced Installed s d =
    (d.data_file ≡ true) × (d.record_file ≡ true) × (d.record_name ≡ true) × (d.target_name ≡ true)
IsSynced SyncTargetName s d = d.target_file ≡ true
IsSynced AlreadyInstalled s d =
    (s.options.check ≡ true) ⊎ ((d.target_file ≡ true) × (d.target_name ≡ true))
IsSynced op s d = ⊤

-- == Temporary files ==

-- Says which temporary files this run has made, and neither renamed nor tried to remove: that of the data,
-- and that of the record.
pub record Owned : Type 0 where
  pub data_file : Bool
  pub record_file : Bool

abbrev pub nothing_owned : Owned
nothing_owned = record { data_file = false; record_file = false }

-- The temporary files of this run after an event at this operation.
abbrev pub owns : Operation → Event → Owned → Owned
owns CreateFile Done d = record d { data_file = true }
owns CreateRecord Done d = record d { record_file = true }
owns RenameRecord Done d = record d { record_file = false }
owns RenameFile Done d = record d { data_file = false }
owns RemoveFiles Done d = nothing_owned
owns RemoveFiles (Failed f) d = nothing_owned
owns op e d = d

-- The temporary files of a run after these events.
abbrev pub owned_by : State → List Event → Owned → Owned
owned_by s [] d = d
owned_by s (e ∷ more) d = owned_by (step s e).1 more (owns s.due e d)
