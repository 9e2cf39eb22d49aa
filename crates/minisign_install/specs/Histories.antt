-- A directory in which lawful applications run, over time. Each run is complete or cut off anywhere. Between
-- runs the machine may crash, other processes may act, and the clock may change.
use Rattle.std.specs.Prelude.{Bool, IfSome, if◌then◌else◌, is_some, map}
use Rattle.std.specs.Prelude.{◌≡◌, ◌<◌, ◌≤◌, ◌⊎◌, ◌||◌, ◌++◌, ⊤, false, ℕ, true, false, List, [], ◌∷◌}
use Rattle.std.specs.Prelude.{length, Option}
use Rattle.std.specs.Prelude.{Some}
use Rattle.std.specs.Prelude.{None, Ok}
use Rattle.minisign.specs.Acceptance.{Verifier}
use Rattle.minisign.specs.SignatureText.{SignatureTextRecord}
use Rattle.minisign_external.specs.declared.public_keys.PublicKeyValue.{PublicKeyValue}
use Rattle.minisign_install.specs.Applications.{Applies, Call, Crashes, File, IsBeforeRun, RecordMayBe}
use Rattle.minisign_install.specs.Applications.{content}
use Rattle.minisign_install.specs.Applications.{TargetMayBe, Snapshot}
use Rattle.minisign_install.specs.Comments.{Numbering}
use Rattle.minisign_install.specs.Decisions.{Options, Recorded, comment_fault, judge_record, judge_text}
use Rattle.minisign_install.specs.Decisions.{names_other_key, recorded_version, signed_size, version_in}
use Rattle.minisign_install.specs.Listings.{digest_to_sign, fits_list}
use Rattle.minisign_install.specs.RecordTexts.{HasNoNumber, IsNumberFor, used_record}
use Rattle.minisign_install.specs.Step.{AlreadyInstalled, CheckTarget, Event, Failed, InUse, Installed}
use Rattle.minisign_install.specs.Step.{CheckData, CopyData, CreateFile, CreateRecord, Operation, ReadBack}
use Rattle.minisign_install.specs.Step.{CheckList, CheckRecord, ReadList, ReadTarget, SyncTarget}
use Rattle.minisign_install.specs.Step.{SyncTargetName}
use Rattle.minisign_install.specs.Step.{RemoveLeftovers, RenameFile, RenameRecord, SetPermissions, SyncFile}
use Rattle.minisign_install.specs.Step.{SyncFileName, SyncRecord, SyncRecordName, WouldInstall, WriteRecord}
use Rattle.minisign_install.specs.Step.{SignatureRead, State, begin, data_question, new_record}
use Rattle.minisign_install.specs.StepRuns.{HasListing, IsUpdate, World, accepts_question, first_signer}

-- == One operation ==

-- `found` is the data of an update that a given key has signed, and nothing but the record of this update can
-- be found at the record.
abbrev pub IsRecordedUpdate : World → Options → Snapshot → Option (List ℕ) → Type 0
IsRecordedUpdate w o m found =
    (s : State) × IsUpdate w o s × (found ≡ Some s.read)
    × ((other : Option (List ℕ)) → RecordMayBe m other → other ≡ Some (new_record s))

-- `found` is the record of an update that a given key has signed.
abbrev pub IsUpdateRecord : World → Options → Option (List ℕ) → Type 0
IsUpdateRecord w o found = (s : State) × IsUpdate w o s × (found ≡ Some (new_record s))

-- Everything that can be found at the target after the operation, at once or after a crash, could be found
-- there before it, or is a recorded update. Everything that can be found at the record could be found there
-- before it, or is the record of an update.
pub record IsSafeCall (w : World) (o : Options) (old new : Snapshot) : Type 0 where
  pub target_is : (found : Option (List ℕ)) → TargetMayBe new found
      → TargetMayBe old found ⊎ IsRecordedUpdate w o new found
  pub record_is : (found : Option (List ℕ)) → RecordMayBe new found
      → RecordMayBe old found ⊎ IsUpdateRecord w o found

-- P holds for the files before and after each operation.
abbrev pub AllCalls : (Snapshot → Snapshot → Type 0) → List Call → Type 0
AllCalls P [] = ⊤
AllCalls P (c ∷ more) = P c.before c.after × AllCalls P more

-- The content of the target and of the record is the same in both snapshots.
abbrev pub LeavesContent : Snapshot → Snapshot → Type 0
LeavesContent old new =
    (content new.target ≡ content old.target) × (content new.recorded ≡ content old.recorded)

-- The run has no temporary files.
abbrev pub HasNoFiles : Snapshot → Type 0
HasNoFiles m = (m.data_file ≡ None) × (m.record_file ≡ None)

-- Between two operations, other processes leave the target alone.
abbrev pub LeavesTarget : Snapshot → Snapshot → Type 0
LeavesTarget old new = (new.target ≡ old.target) × (new.target_left ≡ old.target_left)

abbrev pub OthersLeaveTarget : Snapshot → List Call → Type 0
OthersLeaveTarget m [] = ⊤
OthersLeaveTarget m (c ∷ more) = LeavesTarget m c.before × OthersLeaveTarget c.after more

-- == The files after a run ==

-- The name refers to a file with these bytes, now and after any crash.
abbrev pub IsDurable : Option File → List (Option File) → List ℕ → Type 0
IsDurable place left bytes =
    (file : File) × (place ≡ Some file) × (file.bytes ≡ bytes) × (file.synced ≡ true) × (left ≡ [])

-- The files after a run, if other processes leave the target alone. After Installed, the update is at the
-- target, its permissions were set, its record is beside it, no crash can undo this, and no temporary files
-- of killed runs are left. After AlreadyInstalled, the signature is valid for the bytes that were read from
-- the target; with a list, it is valid for the list instead, and the list has the digest of these bytes for
-- the name. Unless the run is a check, the target has these bytes, and no crash can undo this.
abbrev pub EndIsDurable : World → Options → Operation → State → Snapshot → Type 0
EndIsDurable w o Installed s m =
    IsUpdate w o s × IsDurable m.recorded m.recorded_left (new_record s)
    × ((file : File) × (m.target ≡ Some file) × (file.bytes ≡ s.read) × (file.permissions ≡ true)
    × (file.synced ≡ true) × (m.target_left ≡ [])) × (m.leftovers ≡ false)
EndIsDurable w o AlreadyInstalled s m =
    (accepts_question w (data_question CheckTarget s) ≡ true) × HasListing w o s
    × (fits_list o.list w.list w.name s.read ≡ true)
    × ((s.options.check ≡ true) ⊎ IsDurable m.target m.target_left s.read)
EndIsDurable w o op s m = ⊤

-- == The recorded version ==

-- This is a record with a version number that is k or greater.
abbrev pub IsVersionFrom : Numbering → ℕ → Option (List ℕ) → Type 0
IsVersionFrom numbering k found =
    (bytes : List ℕ) × (version : ℕ) × (found ≡ Some bytes)
    × (recorded_version numbering bytes ≡ Some version) × (k ≤ version)

-- The record has a version number that is k or greater, now and after a crash.
abbrev pub HasVersionFrom : Numbering → ℕ → Snapshot → Type 0
HasVersionFrom numbering k m =
    (found : Option (List ℕ)) → RecordMayBe m found → IsVersionFrom numbering k found

-- The recorded version does not decrease.
abbrev pub KeepsVersion : Numbering → Snapshot → Snapshot → Type 0
KeepsVersion numbering old new = (k : ℕ) → HasVersionFrom numbering k old → HasVersionFrom numbering k new

-- Other processes do not decrease the recorded version between the operations of a run. While the run holds
-- the lock, they leave the record alone anyway.
abbrev pub OthersKeepVersion : Numbering → Snapshot → List Call → Type 0
OthersKeepVersion numbering m [] = ⊤
OthersKeepVersion numbering m (c ∷ more) =
    KeepsVersion numbering m c.before × OthersKeepVersion numbering c.after more

-- Ed25519 accepts nothing under a key that does not have 32 bytes.
abbrev pub AcceptsWholeKeys : Verifier → Type 0
AcceptsWholeKeys accepts =
    (message key signature : List ℕ) → accepts message key signature ≡ true → length key ≡ 32

-- == Histories ==

-- A run of an application that performs the operations of `step`, complete or interrupted anywhere. If
-- --first or --new-key is given, the record does not name a key that was not given. Otherwise the run would
-- ignore the record, and might install an older version.
pub record UpdaterRun (numbering : Numbering) : Type 0 where
  pub world : World
  pub options : Options
  pub begun : Snapshot
  pub calls : List Call
  pub state : State
  pub ended : Snapshot
  pub is_before_run : IsBeforeRun begun
  pub applies : Applies world (begin options) begun calls state ended
  pub field : options.numbering ≡ numbering
  pub accepts_whole : AcceptsWholeKeys world.accepts
  pub compares : (bytes : List ℕ) → world.found_record ≡ Some bytes
      → (options.first || options.new_key) ≡ true
      → names_other_key options bytes ≡ false
  pub others_keep : OthersKeepVersion numbering begun calls

-- A run begins after the previous one has ended or was killed, or after the machine was started again. The
-- target and the record are unchanged. The temporary files of the previous run are now leftovers.
pub record RunBeginsAfter (old new : Snapshot) : Type 0 where
  pub is_before_run : IsBeforeRun new
  pub target_stays : new.target ≡ old.target
  pub target_left_stays : new.target_left ≡ old.target_left
  pub record_stays : new.recorded ≡ old.recorded
  pub record_left_stays : new.recorded_left ≡ old.recorded_left
  pub left_over : new.leftovers ≡ false
      → (old.leftovers ≡ false) × (old.data_file ≡ None) × (old.record_file ≡ None)

-- An event in the history of a directory: a run; a crash, with the files after it; or a change by other
-- processes, with the files after it.
pub data HistoryEvent (numbering : Numbering) : Type 0 where
  Runs : UpdaterRun numbering → HistoryEvent numbering
  Crashed : Snapshot → HistoryEvent numbering
  OthersChangeFiles : Snapshot → HistoryEvent numbering

-- These events happen one after another, and lead from the files `old` to the files `new`. Other processes do
-- not decrease the recorded version.
abbrev pub IsHistory : (numbering : Numbering) → Snapshot → List (HistoryEvent numbering) → Snapshot → Type 0
IsHistory numbering old [] new = new ≡ old
IsHistory numbering old (Runs r ∷ later) new =
    RunBeginsAfter old r.begun × IsHistory numbering r.ended later new
IsHistory numbering old (Crashed m ∷ later) new = Crashes old m × IsHistory numbering m later new
IsHistory numbering old (OthersChangeFiles m ∷ later) new =
    KeepsVersion numbering old m × IsHistory numbering m later new

-- == An interrupted run ==

-- An update that a run can install again or roll back to. The record is accepted, and its version is not
-- below that of the update. Either the digest in the record is that of the data (with a list, that of the
-- list), as after an interrupted run, or the update is older, which needs --roll-back. The signature file has
-- passed the checks that need no Ed25519, and keys are the keys with its key ID. The first of them that
-- signed the comment also signed the data; with a list, it signed the list instead, and the list has the
-- digest of the data for the name. The data has the signed size.
pub record IsOldUpdate (w : World) (o : Options) : Type 0 where
  pub installs : o.check ≡ false
  pub recorded : Recorded
  pub record_applies : judge_record o w.found_record ≡ Ok recorded
  pub last_version : ℕ
  pub last_recorded : recorded.version ≡ Some last_version
  pub text : SignatureTextRecord
  pub parsed : w.text ≡ Ok text
  pub keys : List PublicKeyValue
  pub passed : judge_text o (Ok text) ≡ Ok (text, keys)
  pub key : List ℕ
  pub signed_comment : first_signer w text keys ≡ Some key
  pub signed_data : w.accepts (digest_to_sign o.list w.list w.update) key text.signature.signature ≡ true
  pub listed : fits_list o.list w.list w.name w.update ≡ true
  pub version : ℕ
  pub numbered : version_in o.numbering text.comments.trusted ≡ Some version
  pub not_newer : version ≤ last_version
  pub recorded_or_older : (recorded.digest ≡ Some (digest_to_sign o.list w.list w.update))
      ⊎ (version < last_version)
  pub sized : (size : ℕ) → signed_size o.list text.comments.trusted ≡ Some size → length w.update ≡ size

-- The event is not a failure, and the comment is not rejected at the time that is passed in.
abbrev pub IsAcceptableFor : {w : World} {o : Options} → IsOldUpdate w o → Event → Type 0
IsAcceptableFor g (Failed f) = ⊥
IsAcceptableFor g InUse = ⊥
IsAcceptableFor {o = o} g (SignatureRead text time) =
    comment_fault o g.recorded.version time g.text.comments.trusted ≡ None
IsAcceptableFor g e = ⊤

-- The run ended with the update installed by this run or before it.
abbrev pub IsInstalled : Operation → Type 0
IsInstalled op = (op ≡ Installed) ⊎ (op ≡ AlreadyInstalled)

-- P holds for each event.
abbrev pub AllEvents : (Event → Type 0) → List Call → Type 0
AllEvents P [] = ⊤
AllEvents P (c ∷ more) = P c.event × AllEvents P more

-- == Records of version 0.2 ==

-- A run of version 0.2 compares the update with this version number, which the record has with or without a
-- label. With None, it compares nothing: --first is given, and either there is no record or the record has no
-- version number for this field.
abbrev pub AppliesAs : Numbering → Bool → Option (List ℕ) → Option ℕ → Type 0
AppliesAs numbering first found (Some version) =
    (bytes : List ℕ) × (found ≡ Some bytes) × IsNumberFor numbering bytes version
AppliesAs numbering first found None = (first ≡ true) × IfSome found (HasNoNumber numbering)

-- The record, or None if it is ignored because --first is given and the record names a key that was not
-- given.
abbrev pub used_record_for : Options → Option (List ℕ) → Option (List ℕ)
used_record_for o found = used_record o.first (map (λ (v : PublicKeyValue). v.key) o.keys) found

-- == After a roll-back ==

-- The signature file is that of an update with this version. Its signature is not valid for this digest,
-- which is that of the installed data or, with a list, of its list, under any key that may have made it.
pub record IsOtherUpdate (w : World) (o : Options) (k : ℕ) (digest : List ℕ) : Type 0 where
  pub numbered : (t : SignatureTextRecord) → w.text ≡ Ok t
      → version_in o.numbering t.comments.trusted ≡ Some k
  pub not_signed : (t : SignatureTextRecord) (keys others more : List PublicKeyValue) (v : PublicKeyValue)
      → judge_text o w.text ≡ Ok (t, keys) → others ++ v ∷ more ≡ keys
      → w.accepts digest v.key t.signature.signature ≡ false

-- A run with these options, after a run that has ended in state `s`. It reads the record of that run. Neither
-- --first nor --new-key is given, with which it might ignore the record, nor --again, with which it might
-- replace other data of the same version.
pub record IsLaterRun (w : World) (o : Options) (numbering : Numbering) (s : State) : Type 0 where
  pub reads_record : w.found_record ≡ Some (new_record s)
  pub same_field : o.numbering ≡ numbering
  pub not_first : o.first ≡ false
  pub not_new_key : o.new_key ≡ false
  pub not_again : o.again ≡ false

-- The event is not a failure, and the comment is not rejected at the time that is passed in if version k is
-- recorded.
abbrev pub IsAcceptableAt : Options → ℕ → SignatureTextRecord → Event → Type 0
IsAcceptableAt o k t (Failed f) = ⊥
IsAcceptableAt o k t InUse = ⊥
IsAcceptableAt o k t (SignatureRead text time) = comment_fault o (Some k) time t.comments.trusted ≡ None
IsAcceptableAt o k t e = ⊤

-- The update is being installed or was installed, or a check found that it would be.
abbrev pub leads_to_install : Operation → Bool
leads_to_install RemoveLeftovers = true
leads_to_install CreateFile = true
leads_to_install CopyData = true
leads_to_install ReadBack = true
leads_to_install CheckData = true
leads_to_install SetPermissions = true
leads_to_install SyncFile = true
leads_to_install CreateRecord = true
leads_to_install WriteRecord = true
leads_to_install SyncRecord = true
leads_to_install RenameRecord = true
leads_to_install SyncRecordName = true
leads_to_install RenameFile = true
leads_to_install SyncFileName = true
leads_to_install Installed = true
leads_to_install WouldInstall = true
leads_to_install op = false

-- == The time ==

-- The signature file is read at this time.
abbrev pub IsAtTime : Option ℕ → Event → Type 0
IsAtTime time (SignatureRead text other) = other ≡ time
IsAtTime time e = ⊤

-- The number of calls that a run makes only if the signature is that of a list.
abbrev pub list_calls : Options → ℕ
list_calls o = if is_some o.list then 2 else 0

-- The operation reads the list, or checks its signature.
abbrev pub is_for_list : Operation → Bool
is_for_list ReadList = true
is_for_list CheckList = true
is_for_list op = false

-- The comment was accepted: the list is being read, the update is being compared or installed, or the run has
-- ended without an error.
abbrev pub is_past_comment : Operation → Bool
is_past_comment ReadList = true
is_past_comment CheckList = true
is_past_comment CheckRecord = true
is_past_comment ReadTarget = true
is_past_comment CheckTarget = true
is_past_comment SyncTarget = true
is_past_comment SyncTargetName = true
is_past_comment AlreadyInstalled = true
is_past_comment op = leads_to_install op
