-- Whole runs of the installer. Each fact gives the options and the events of a run, and one thing that
-- follows from them: the operations that were due, the exit status, the error or a field of the last state.
-- Runs of different names may have the same events, if they are different situations for a user. The expected
-- results are those of docs/INSTALLING.md. The keys, digests and signatures are not real: the events say
-- whether Ed25519 accepts a signature.
use Rattle.std.proofs.Common.{◌≡◌, refl, ℕ, true, false, List, [], ◌∷◌, ◌++◌, codes}
use Rattle.std.specs.Prelude.{Option, Some, None, Result, Ok, Err, replicate, take}
use Rattle.std.specs.Str.{chars, is_utf8}
use lib.Utf8.{encode}
use Rattle.hex.specs.Hex.{decode_pairs}
use Rattle.minisign.specs.Records.{prehashed_algorithm}
use Rattle.minisign.specs.SignatureText.{SignatureTextRecord}
use Rattle.minisign_base.specs.declared.faults.NamedFault.{NamedFault}
use Rattle.minisign_base.specs.declared.faults.NamedFault.TheVariants as named
use Rattle.minisign_external.specs.declared.public_keys.PublicKeyValue.{PublicKeyValue}
use Rattle.minisign_external.specs.declared.state.Misuse.TheVariants.{NotDue}
use Rattle.minisign_external.specs.declared.state.Refusal.TheVariants.{Refused, WrongUse}
use Rattle.minisign_install.specs.Comments.{Timestamp, Version}
use Rattle.minisign_install.specs.Decisions.{Options}
use Rattle.minisign_install.specs.Faults.{BadExpiry, BadSize, DamagedRecord, DirectoryNotSynced, Expired}
use Rattle.minisign_install.specs.Faults.{Fault, InstallFault, KeptByTimestamp, KeptByVersion, Library}
use Rattle.minisign_install.specs.Faults.{Named, NoExpiry, NoNumber, NoRecord, OlderUpdate, OtherFile}
use Rattle.minisign_install.specs.Faults.{BadName, MalformedLine, NotListed, OtherSize, SameNumber}
use Rattle.minisign_install.specs.Faults.{TargetInUse}
use Rattle.minisign_lists.specs.Lists.{listed_entry}
use Rattle.minisign_lists.specs.declared.lines.LongDigest.TheVariants as long
use Rattle.minisign_install.specs.Step.{Operation, Event, Done, InUse, Failed, RecordRead, SignatureRead}
use Rattle.minisign_install.specs.Step.{Answered, TargetMissing, PieceRead, PieceCopied, State, begin, step}
use Rattle.minisign_install.specs.Step.{ListRead, line_at_fault, new_key, new_version}
use Rattle.minisign_install.specs.Step as fsm

-- == Keys, signature files and records ==

abbrev key_a : PublicKeyValue
key_a = record { mark = 0; key = replicate 32 0; key_id = 1 ∷ [] }

-- A key with the key ID of the first one.
abbrev key_b : PublicKeyValue
key_b = record { mark = 0; key = replicate 32 17; key_id = 1 ∷ [] }

-- A key with another key ID.
abbrev key_c : PublicKeyValue
key_c = record { mark = 0; key = replicate 32 17; key_id = 2 ∷ [] }

-- A signature file with this trusted comment, by a key with the first key ID.
abbrev signed : List ℕ → Result SignatureTextRecord Fault
signed comment = Ok (record {
  signature = record { algorithm = prehashed_algorithm; keynum = 1 ∷ []; signature = replicate 64 5 };
  comments = record { untrusted = []; trusted = comment; signature = replicate 64 6 };
})

-- A legacy signature.
abbrev legacy : List ℕ → Result SignatureTextRecord Fault
legacy comment = Ok (record {
  signature = record { algorithm = codes "Ed"; keynum = 1 ∷ []; signature = replicate 64 5 };
  comments = record { untrusted = []; trusted = comment; signature = replicate 64 6 };
})

-- Two fields of a comment.
abbrev two_fields : List ℕ → List ℕ → List ℕ
two_fields a b = a ++ 9 ∷ b

abbrev version_1 : List ℕ
version_1 = two_fields (codes "version:1") (codes "file:app")

abbrev version_2 : List ℕ
version_2 = two_fields (codes "version:2") (codes "file:app")

abbrev version_3 : List ℕ
version_3 = two_fields (codes "version:3") (codes "file:app")

-- The record of version 2 with the first key and a digest of bytes 0x22.
abbrev record_2 : List ℕ
record_2 = codes "version:2" ++ 10 ∷ replicate 64 48 ++ 10 ∷ replicate 128 50

-- The same record with a key of bytes 0x11.
abbrev record_of_other_key : List ℕ
record_of_other_key = codes "version:2" ++ 10 ∷ replicate 64 49 ++ 10 ∷ replicate 128 50

-- A record that version 0.2 of the program wrote, which names neither key nor digest.
abbrev old_record : List ℕ
old_record = codes "version:2"

-- The options `--numbering version`.
abbrev usual : Options
usual = record {
  keys = key_a ∷ [];
  file = codes "app";
  numbering = Version;
  first = false;
  again = false;
  check = false;
  must_expire = false;
  new_key = false;
  roll_back = false;
  list = None;
}

-- == Runs ==

-- The state after these events.
abbrev after : State → List Event → State
after s [] = s
after s (e ∷ more) = after (step s e).1 more

-- The operations that were due, including the one after the last event.
abbrev course : State → List Event → List Operation
course s [] = s.due ∷ []
course s (e ∷ more) = s.due ∷ course (step s e).1 more

-- The exit status of minisign-install, by the table of its manual page.
abbrev status_of : InstallFault → ℕ
status_of (Library (Named named.OutOfMemory)) = 1
status_of (Library (Named named.ReadingFailed)) = 1
status_of (Library (Named named.WritingFailed)) = 1
status_of (Library (Named named.RandomSourceFailed)) = 1
status_of OlderUpdate = 4
status_of TargetInUse = 5
status_of DirectoryNotSynced = 6
status_of NoRecord = 7
status_of DamagedRecord = 7
status_of KeptByVersion = 7
status_of KeptByTimestamp = 7
status_of SameNumber = 8
status_of Expired = 9
status_of fault = 3

abbrev status : Operation → Option InstallFault → Option ℕ
status fsm.Installed error = Some 0
status fsm.WouldInstall error = Some 0
status fsm.AlreadyInstalled error = Some 10
status fsm.Rejected (Some fault) = Some (status_of fault)
status operation error = None

-- The exit status of a run, if it has ended.
abbrev exits : Options → List Event → Option ℕ
exits o events = status (after (begin o) events).due (after (begin o) events).error

-- The error of a run.
abbrev error_of : Options → List Event → Option InstallFault
error_of o events = (after (begin o) events).error

-- == Parts of runs ==

-- The target was locked, the record was read, and the signature file was read at this time.
abbrev begun : Option (List ℕ) → Result SignatureTextRecord Fault → Option ℕ → List Event
begun found text time = Done ∷ RecordRead found ∷ SignatureRead text time ∷ []

-- The same for a check, which takes no lock.
abbrev checked : Option (List ℕ) → Result SignatureTextRecord Fault → Option ℕ → List Event
checked found text time = RecordRead found ∷ SignatureRead text time ∷ []

abbrev valid : Event
valid = Answered true

abbrev invalid : Event
invalid = Answered false

-- Leftovers were removed, a file was created, and data of 5 bytes was copied and read back.
abbrev copied : List Event
copied =
    Done ∷ Done ∷ PieceCopied 3 ∷ PieceCopied 2 ∷ Done ∷ PieceRead (codes "he") ∷ PieceRead (codes "llo") ∷ Done
    ∷ []

-- The operations from setting the permissions to the last sync succeeded.
abbrev put_in_place : List Event
put_in_place = Done ∷ Done ∷ Done ∷ Done ∷ Done ∷ Done ∷ Done ∷ Done ∷ Done ∷ []

-- The events after the check of the trusted comment succeeded, until the target is installed.
abbrev installed : List Event
installed = copied ++ valid ∷ put_in_place

-- The installed file was read.
abbrev target_read : List Event
target_read = PieceRead (codes "there") ∷ Done ∷ []

-- == Options ==

abbrev with_first : Options
with_first = record usual { first = true }

abbrev with_again : Options
with_again = record usual { again = true }

abbrev with_check : Options
with_check = record usual { check = true }

abbrev with_must_expire : Options
with_must_expire = record usual { must_expire = true }

abbrev with_new_key : Options
with_new_key = record usual { new_key = true }

abbrev with_roll_back : Options
with_roll_back = record usual { roll_back = true }

-- == Installations ==

-- An upgrade performs these operations in this order.
upgrade : course (begin usual) (begun (Some record_2) (signed version_3) (Some 5) ++ valid ∷ installed) ≡
    fsm.Lock ∷ fsm.ReadRecord ∷ fsm.ReadSignature ∷ fsm.CheckComment ∷ fsm.RemoveLeftovers ∷ fsm.CreateFile
    ∷ fsm.CopyData ∷ fsm.CopyData ∷ fsm.CopyData ∷ fsm.ReadBack ∷ fsm.ReadBack ∷ fsm.ReadBack ∷ fsm.CheckData
    ∷ fsm.SetPermissions ∷ fsm.SyncFile ∷ fsm.CreateRecord ∷ fsm.WriteRecord ∷ fsm.SyncRecord
    ∷ fsm.RenameRecord ∷ fsm.SyncRecordName ∷ fsm.RenameFile ∷ fsm.SyncFileName ∷ fsm.Installed ∷ []
unfolding is_utf8 chars encode decode_pairs
upgrade = refl

upgrade_exits : exits usual (begun (Some record_2) (signed version_3) (Some 5) ++ valid ∷ installed) ≡
    Some 0
unfolding is_utf8 chars encode decode_pairs
upgrade_exits = refl

first_installation : exits with_first (begun None (signed version_3) (Some 5) ++ valid ∷ installed) ≡ Some 0
unfolding is_utf8 chars encode decode_pairs
first_installation = refl

missing_record : error_of usual (Done ∷ RecordRead None ∷ []) ≡ Some NoRecord
unfolding is_utf8 chars encode decode_pairs
missing_record = refl

missing_record_exits : exits usual (Done ∷ RecordRead None ∷ []) ≡ Some 7
unfolding is_utf8 chars encode decode_pairs
missing_record_exits = refl

damaged_record : error_of usual (Done ∷ RecordRead (Some (codes "damage")) ∷ []) ≡ Some DamagedRecord
unfolding is_utf8 chars encode decode_pairs
damaged_record = refl

damaged_record_exits : exits usual (Done ∷ RecordRead (Some (codes "damage")) ∷ []) ≡ Some 7
unfolding is_utf8 chars encode decode_pairs
damaged_record_exits = refl

damaged_record_and_first : exits with_first (begun (Some (codes "damage")) (signed version_1) (Some 5)
    ++ valid ∷ installed) ≡ Some 0
unfolding is_utf8 chars encode decode_pairs
damaged_record_and_first = refl

record_of_a_version : error_of (record usual { numbering = Timestamp }) (Done ∷ RecordRead (Some
    record_2) ∷ []) ≡ Some KeptByVersion
unfolding is_utf8 chars encode decode_pairs
record_of_a_version = refl

record_of_a_timestamp : error_of usual (Done ∷ RecordRead (Some (codes "timestamp:2")) ∷ []) ≡
    Some KeptByTimestamp
unfolding is_utf8 chars encode decode_pairs
record_of_a_timestamp = refl

record_of_a_timestamp_exits : exits usual (Done ∷ RecordRead (Some (codes "timestamp:2")) ∷ []) ≡ Some 7
unfolding is_utf8 chars encode decode_pairs
record_of_a_timestamp_exits = refl

record_without_a_label : exits usual (begun (Some (codes "2")) (signed version_1) (Some 5) ++ valid ∷
    []) ≡ Some 4
unfolding is_utf8 chars encode decode_pairs
record_without_a_label = refl

-- == Updates with the recorded version ==

-- The installed file is the update: it is synced, and nothing is written.
already : course (begin usual) (begun (Some record_2) (signed version_2) (Some 5) ++ valid ∷ valid ∷
    target_read ++ valid ∷ Done ∷ Done ∷ []) ≡
    fsm.Lock ∷ fsm.ReadRecord ∷ fsm.ReadSignature ∷ fsm.CheckComment ∷ fsm.CheckRecord ∷ fsm.ReadTarget
    ∷ fsm.ReadTarget ∷ fsm.CheckTarget ∷ fsm.SyncTarget ∷ fsm.SyncTargetName ∷ fsm.AlreadyInstalled ∷ []
unfolding is_utf8 chars encode decode_pairs
already = refl

already_exits : exits usual (begun (Some record_2) (signed version_2) (Some 5) ++ valid ∷ valid ∷ target_read
    ++ valid ∷ Done ∷ Done ∷ []) ≡ Some 10
unfolding is_utf8 chars encode decode_pairs
already_exits = refl

already_under_an_old_record : exits usual (begun (Some old_record) (signed version_2) (Some 5) ++ valid
    ∷ target_read ++ valid ∷ Done ∷ Done ∷ []) ≡ Some 10
unfolding is_utf8 chars encode decode_pairs
already_under_an_old_record = refl

already_and_again : exits with_again (begun (Some record_2) (signed version_2) (Some 5) ++ valid ∷ valid
    ∷ target_read ++ valid ∷ Done ∷ Done ∷ []) ≡ Some 10
unfolding is_utf8 chars encode decode_pairs
already_and_again = refl

already_and_not_synced : exits usual (begun (Some record_2) (signed version_2) (Some 5) ++ valid ∷ valid
    ∷ target_read ++ valid ∷ Failed named.WritingFailed ∷ []) ≡ Some 6
unfolding is_utf8 chars encode decode_pairs
already_and_not_synced = refl

already_and_name_not_synced : exits usual (begun (Some record_2) (signed version_2) (Some 5) ++ valid ∷
    valid ∷ target_read ++ valid ∷ Done ∷ Failed named.WritingFailed ∷ []) ≡ Some 6
unfolding is_utf8 chars encode decode_pairs
already_and_name_not_synced = refl

-- Neither the digest in the record nor the installed file is that of the update.
two_updates_of_one_version : error_of usual (begun (Some record_2) (signed version_2) (Some 5) ++ valid
    ∷ invalid ∷ target_read ++ invalid ∷ []) ≡ Some SameNumber
unfolding is_utf8 chars encode decode_pairs
two_updates_of_one_version = refl

two_updates_of_one_version_exits : exits usual (begun (Some record_2) (signed version_2) (Some 5) ++
    valid ∷ invalid ∷ target_read ++ invalid ∷ []) ≡ Some 8
unfolding is_utf8 chars encode decode_pairs
two_updates_of_one_version_exits = refl

other_data_under_an_old_record : exits usual (begun (Some old_record) (signed version_2) (Some 5) ++
    valid ∷ target_read ++ invalid ∷ []) ≡ Some 8
unfolding is_utf8 chars encode decode_pairs
other_data_under_an_old_record = refl

two_updates_of_one_version_and_again : exits with_again (begun (Some record_2) (signed version_2) (Some
    5) ++ valid ∷ invalid ∷ target_read ++ invalid ∷ installed) ≡ Some 0
unfolding is_utf8 chars encode decode_pairs
two_updates_of_one_version_and_again = refl

changed_file_is_repaired : exits usual (begun (Some record_2) (signed version_2) (Some 5) ++ valid ∷
    valid ∷ target_read ++ invalid ∷ installed) ≡ Some 0
unfolding is_utf8 chars encode decode_pairs
changed_file_is_repaired = refl

-- Reading back starts anew: the bytes that were read from the installed file are discarded.
read_back_starts_anew : (after (begin usual) (begun (Some record_2) (signed version_2) (Some 5) ++ valid
    ∷ valid ∷ target_read ++ invalid ∷ copied)).read ≡ codes "hello"
unfolding is_utf8 chars encode decode_pairs
read_back_starts_anew = refl

removed_file_is_repaired : exits usual (begun (Some record_2) (signed version_2) (Some 5) ++ valid ∷
    invalid ∷ TargetMissing ∷ installed) ≡ Some 0
unfolding is_utf8 chars encode decode_pairs
removed_file_is_repaired = refl

file_that_cannot_be_read : exits usual (begun (Some record_2) (signed version_2) (Some 5) ++ valid ∷
    valid ∷ Failed named.ReadingFailed ∷ []) ≡ Some 1
unfolding is_utf8 chars encode decode_pairs
file_that_cannot_be_read = refl

-- == The same command finishes an interrupted run ==

-- The record is still that of version 2.
killed_before_the_record : exits usual (begun (Some record_2) (signed version_3) (Some 5) ++ valid ∷
    installed) ≡ Some 0
unfolding is_utf8 chars encode decode_pairs
killed_before_the_record = refl

-- The record is that of the update, and the target is the old file.
killed_after_the_record : exits usual (begun (Some record_2) (signed version_2) (Some 5) ++ valid ∷
    valid ∷ target_read ++ invalid ∷ installed) ≡ Some 0
unfolding is_utf8 chars encode decode_pairs
killed_after_the_record = refl

killed_after_the_target : exits usual (begun (Some record_2) (signed version_2) (Some 5) ++ valid ∷
    valid ∷ target_read ++ valid ∷ Done ∷ Done ∷ []) ≡ Some 10
unfolding is_utf8 chars encode decode_pairs
killed_after_the_target = refl

-- == Rejected comments ==

-- A comment of version 3 with another field.
abbrev with_field : List ℕ → Result SignatureTextRecord Fault
with_field field = signed (two_fields version_3 field)

older_version : exits usual (begun (Some record_2) (signed version_1) (Some 5) ++ valid ∷ []) ≡ Some 4
unfolding is_utf8 chars encode decode_pairs
older_version = refl

expired : exits usual (begun (Some record_2) (with_field (codes "expires:100")) (Some 100) ++ valid ∷
    []) ≡ Some 9
unfolding is_utf8 chars encode decode_pairs
expired = refl

not_yet_expired : exits usual (begun (Some record_2) (with_field (codes "expires:100")) (Some 99) ++
    valid ∷ installed) ≡ Some 0
unfolding is_utf8 chars encode decode_pairs
not_yet_expired = refl

expires_and_clock_before_1970 : exits usual (begun (Some record_2) (with_field (codes "expires:100"))
    None ++ valid ∷ []) ≡ Some 9
unfolding is_utf8 chars encode decode_pairs
expires_and_clock_before_1970 = refl

clock_before_1970 : exits usual (begun (Some record_2) (signed version_3) None ++ valid ∷ installed) ≡
    Some 0
unfolding is_utf8 chars encode decode_pairs
clock_before_1970 = refl

expired_and_older : exits usual (begun (Some record_2) (signed (two_fields version_1 (codes "expires:100")))
    (Some 100) ++ valid ∷ []) ≡ Some 9
unfolding is_utf8 chars encode decode_pairs
expired_and_older = refl

expiry_that_is_no_number : error_of usual (begun (Some record_2) (with_field (codes "expires:+9")) (Some
    5) ++ valid ∷ []) ≡ Some BadExpiry
unfolding is_utf8 chars encode decode_pairs
expiry_that_is_no_number = refl

two_expiries : error_of usual (begun (Some record_2) (signed (two_fields (two_fields version_3
    (codes "expires:9"))
    (codes "expires:9"))) (Some 5) ++ valid ∷ []) ≡ Some BadExpiry
unfolding is_utf8 chars encode decode_pairs
two_expiries = refl

no_expiry : error_of with_must_expire (begun (Some record_2) (signed version_3) (Some 5) ++ valid ∷ []) ≡
    Some NoExpiry
unfolding is_utf8 chars encode decode_pairs
no_expiry = refl

no_expiry_exits : exits with_must_expire (begun (Some record_2) (signed version_3) (Some 5) ++ valid ∷
    []) ≡ Some 3
unfolding is_utf8 chars encode decode_pairs
no_expiry_exits = refl

expiry_in_capitals : error_of with_must_expire (begun (Some record_2) (with_field (codes "Expires:100"))
    (Some 5) ++ valid ∷ []) ≡ Some BadExpiry
unfolding is_utf8 chars encode decode_pairs
expiry_in_capitals = refl

expiry_in_time : exits with_must_expire (begun (Some record_2) (with_field (codes "expires:100")) (Some
    5) ++ valid ∷ installed) ≡ Some 0
unfolding is_utf8 chars encode decode_pairs
expiry_in_time = refl

other_file : error_of usual (begun (Some record_2) (signed (two_fields (codes "version:3")
    (codes "file:tool"))) (Some 5) ++ valid ∷ []) ≡ Some OtherFile
unfolding is_utf8 chars encode decode_pairs
other_file = refl

other_file_exits : exits usual (begun (Some record_2) (signed (two_fields (codes "version:3")
    (codes "file:tool"))) (Some 5) ++ valid ∷ []) ≡ Some 3
unfolding is_utf8 chars encode decode_pairs
other_file_exits = refl

no_version : error_of usual (begun (Some record_2) (signed (two_fields (codes "timestamp:3")
    (codes "file:app"))) (Some 5) ++ valid ∷ []) ≡ Some NoNumber
unfolding is_utf8 chars encode decode_pairs
no_version = refl

version_of_2_to_the_64 : error_of usual (begun (Some record_2) (signed (two_fields
    (codes "version:18446744073709551616") (codes "file:app"))) (Some 5) ++ valid ∷ []) ≡ Some NoNumber
unfolding is_utf8 chars encode decode_pairs
version_of_2_to_the_64 = refl

bad_size : error_of usual (begun (Some record_2) (with_field (codes "size:x")) (Some 5) ++ valid ∷ []) ≡
    Some BadSize
unfolding is_utf8 chars encode decode_pairs
bad_size = refl

-- == Rejected data ==

signed_size : exits usual (begun (Some record_2) (with_field (codes "size:5")) (Some 5) ++ valid ∷
    installed) ≡ Some 0
unfolding is_utf8 chars encode decode_pairs
signed_size = refl

data_is_too_long : error_of usual (begun (Some record_2) (with_field (codes "size:4")) (Some 5) ++ valid
    ∷ Done ∷ Done ∷ PieceCopied 3 ∷ PieceCopied 2 ∷ []) ≡ Some OtherSize
unfolding is_utf8 chars encode decode_pairs
data_is_too_long = refl

data_is_too_long_exits : exits usual (begun (Some record_2) (with_field (codes "size:4")) (Some 5) ++
    valid ∷ Done ∷ Done ∷ PieceCopied 3 ∷ PieceCopied 2 ∷ Done ∷ []) ≡ Some 3
unfolding is_utf8 chars encode decode_pairs
data_is_too_long_exits = refl

data_is_too_short : exits usual (begun (Some record_2) (with_field (codes "size:6")) (Some 5) ++ valid ∷
    Done ∷ Done ∷ PieceCopied 5 ∷ Done ∷ Done ∷ []) ≡ Some 3
unfolding is_utf8 chars encode decode_pairs
data_is_too_short = refl

other_data : error_of usual (begun (Some record_2) (signed version_3) (Some 5) ++ valid ∷ copied ++
    invalid ∷ []) ≡ Some (Library (Named named.SignatureRefused))
unfolding is_utf8 chars encode decode_pairs
other_data = refl

other_data_exits : exits usual (begun (Some record_2) (signed version_3) (Some 5) ++ valid ∷ copied ++
    invalid ∷ Done ∷ []) ≡ Some 3
unfolding is_utf8 chars encode decode_pairs
other_data_exits = refl

other_data_is_removed : course (after (begin usual) (begun (Some record_2) (signed version_3) (Some 5)
    ++ valid ∷ copied)) (invalid ∷ Done ∷ []) ≡ fsm.CheckData ∷ fsm.RemoveFiles ∷ fsm.Rejected ∷ []
unfolding is_utf8 chars encode decode_pairs
other_data_is_removed = refl

-- == Keys ==

comment_that_was_changed : error_of usual (begun (Some record_2) (signed version_3) (Some 5) ++ invalid
    ∷ []) ≡ Some (Library (Named named.CommentSignatureRefused))
unfolding is_utf8 chars encode decode_pairs
comment_that_was_changed = refl

comment_that_was_changed_exits : exits usual (begun (Some record_2) (signed version_3) (Some 5) ++
    invalid ∷ []) ≡ Some 3
unfolding is_utf8 chars encode decode_pairs
comment_that_was_changed_exits = refl

comment_that_was_changed_and_is_older : exits usual (begun (Some record_2) (signed version_1) (Some 5)
    ++ invalid ∷ []) ≡ Some 3
unfolding is_utf8 chars encode decode_pairs
comment_that_was_changed_and_is_older = refl

legacy_signature : error_of usual (begun (Some record_2) (legacy version_3) (Some 5)) ≡
    Some (Library (Named named.LegacyNotAccepted))
unfolding is_utf8 chars encode decode_pairs
legacy_signature = refl

legacy_signature_exits : exits usual (begun (Some record_2) (legacy version_3) (Some 5)) ≡ Some 3
unfolding is_utf8 chars encode decode_pairs
legacy_signature_exits = refl

signature_file_that_does_not_parse : error_of usual (begun (Some record_2) (Err (Named
    named.MissingSignature)) (Some 5)) ≡ Some (Library (Named named.MissingSignature))
unfolding is_utf8 chars encode decode_pairs
signature_file_that_does_not_parse = refl

key_of_another_id : error_of (record usual { keys = key_c ∷ [] }) (begun (Some record_2) (signed
    version_3) (Some 5)) ≡ Some (Library (Named (named.DifferentKeyIds (1 ∷ []) (2 ∷ []))))
unfolding is_utf8 chars encode decode_pairs
key_of_another_id = refl

second_key : exits (record usual { keys = key_c ∷ key_a ∷ [] }) (begun (Some record_2) (signed
    version_3) (Some 5) ++ valid ∷ installed) ≡ Some 0
unfolding is_utf8 chars encode decode_pairs
second_key = refl

second_key_of_one_id : exits (record usual { keys = key_a ∷ key_b ∷ [] }) (begun (Some record_2) (signed
    version_3) (Some 5) ++ invalid ∷ valid ∷ installed) ≡ Some 0
unfolding is_utf8 chars encode decode_pairs
second_key_of_one_id = refl

second_key_is_recorded : new_key (after (begin (record usual { keys = key_a ∷ key_b ∷ [] })) (begun
    (Some record_2) (signed version_3) (Some 5) ++ invalid ∷ valid ∷ installed)) ≡ replicate 32 17
unfolding is_utf8 chars encode decode_pairs
second_key_is_recorded = refl

neither_key_of_one_id : exits (record usual { keys = key_a ∷ key_b ∷ [] }) (begun (Some record_2)
    (signed version_3) (Some 5) ++ invalid ∷ invalid ∷ []) ≡ Some 3
unfolding is_utf8 chars encode decode_pairs
neither_key_of_one_id = refl

second_key_and_older : exits (record usual { keys = key_a ∷ key_b ∷ [] }) (begun (Some record_2) (signed
    version_1) (Some 5) ++ invalid ∷ valid ∷ []) ≡ Some 4
unfolding is_utf8 chars encode decode_pairs
second_key_and_older = refl

-- == The lock ==

-- An application that waits for the lock reports InUse only when it gives up.
lock_in_use : exits usual (InUse ∷ []) ≡ Some 5
unfolding is_utf8 chars encode decode_pairs
lock_in_use = refl

lock_file_that_cannot_be_opened : exits usual (Failed named.WritingFailed ∷ []) ≡ Some 1
unfolding is_utf8 chars encode decode_pairs
lock_file_that_cannot_be_opened = refl

check_takes_no_lock : (begin with_check).due ≡ fsm.ReadRecord
check_takes_no_lock = refl

-- == Each operation fails ==

-- The first operations of an upgrade succeed, the next one fails, and the temporary files are removed.
abbrev failing : ℕ → NamedFault → Option ℕ
failing n fault =
    exits usual (take n (begun (Some record_2) (signed version_3) (Some 5) ++ valid ∷ installed)
    ++ Failed fault ∷ Done ∷ [])

-- The same, but removing the temporary files fails too.
abbrev failing_twice : ℕ → NamedFault → Option ℕ
failing_twice n fault =
    exits usual (take n (begun (Some record_2) (signed version_3) (Some 5) ++ valid ∷ installed)
    ++ Failed fault ∷ Failed named.OutOfMemory ∷ [])

lock_fails : failing 0 named.ReadingFailed ≡ Some 1
unfolding is_utf8 chars encode decode_pairs
lock_fails = refl

read_record_fails : failing 1 named.ReadingFailed ≡ Some 1
unfolding is_utf8 chars encode decode_pairs
read_record_fails = refl

read_signature_fails : failing 2 named.ReadingFailed ≡ Some 1
unfolding is_utf8 chars encode decode_pairs
read_signature_fails = refl

check_comment_fails : failing 3 named.ReadingFailed ≡ Some 1
unfolding is_utf8 chars encode decode_pairs
check_comment_fails = refl

remove_leftovers_fails : failing 4 named.ReadingFailed ≡ Some 1
unfolding is_utf8 chars encode decode_pairs
remove_leftovers_fails = refl

create_file_fails : failing 5 named.ReadingFailed ≡ Some 1
unfolding is_utf8 chars encode decode_pairs
create_file_fails = refl

copy_data_fails : failing 6 named.ReadingFailed ≡ Some 1
unfolding is_utf8 chars encode decode_pairs
copy_data_fails = refl

read_back_fails : failing 9 named.ReadingFailed ≡ Some 1
unfolding is_utf8 chars encode decode_pairs
read_back_fails = refl

check_data_fails : failing 12 named.ReadingFailed ≡ Some 1
unfolding is_utf8 chars encode decode_pairs
check_data_fails = refl

set_permissions_fails : failing 13 named.ReadingFailed ≡ Some 1
unfolding is_utf8 chars encode decode_pairs
set_permissions_fails = refl

sync_file_fails : failing 14 named.ReadingFailed ≡ Some 1
unfolding is_utf8 chars encode decode_pairs
sync_file_fails = refl

create_record_fails : failing 15 named.ReadingFailed ≡ Some 1
unfolding is_utf8 chars encode decode_pairs
create_record_fails = refl

write_record_fails : failing 16 named.ReadingFailed ≡ Some 1
unfolding is_utf8 chars encode decode_pairs
write_record_fails = refl

sync_record_fails : failing 17 named.ReadingFailed ≡ Some 1
unfolding is_utf8 chars encode decode_pairs
sync_record_fails = refl

rename_record_fails : failing 18 named.ReadingFailed ≡ Some 1
unfolding is_utf8 chars encode decode_pairs
rename_record_fails = refl

sync_record_name_fails : failing 19 named.ReadingFailed ≡ Some 1
unfolding is_utf8 chars encode decode_pairs
sync_record_name_fails = refl

rename_file_fails : failing 20 named.ReadingFailed ≡ Some 1
unfolding is_utf8 chars encode decode_pairs
rename_file_fails = refl

sync_file_name_fails : failing 21 named.ReadingFailed ≡ Some 6
unfolding is_utf8 chars encode decode_pairs
sync_file_name_fails = refl

first_error_counts : failing_twice 12 named.WritingFailed ≡ Some 1
unfolding is_utf8 chars encode decode_pairs
first_error_counts = refl

data_that_cannot_be_removed : exits usual (begun (Some record_2) (signed version_3) (Some 5) ++ valid ∷
    copied ++ invalid ∷ Failed named.WritingFailed ∷ []) ≡ Some 3
unfolding is_utf8 chars encode decode_pairs
data_that_cannot_be_removed = refl

no_sync_and_no_removal : failing_twice 21 named.WritingFailed ≡ Some 6
unfolding is_utf8 chars encode decode_pairs
no_sync_and_no_removal = refl

failed_rename_removes_files : course (after (begin usual) (take 20 (begun (Some record_2) (signed
    version_3) (Some 5) ++ valid ∷ installed))) (Failed named.WritingFailed ∷ Done ∷ []) ≡
    fsm.RenameFile ∷ fsm.RemoveFiles ∷ fsm.Rejected ∷ []
unfolding is_utf8 chars encode decode_pairs
failed_rename_removes_files = refl

-- == Checks ==

check_of_an_upgrade : exits with_check (checked (Some record_2) (signed version_3) (Some 5) ++ valid ∷
    []) ≡ Some 0
unfolding is_utf8 chars encode decode_pairs
check_of_an_upgrade = refl

check_of_a_first_installation : exits (record with_check { first = true }) (checked None (signed
    version_3) (Some 5) ++ valid ∷ []) ≡ Some 0
unfolding is_utf8 chars encode decode_pairs
check_of_a_first_installation = refl

check_without_a_record : exits with_check (RecordRead None ∷ []) ≡ Some 7
unfolding is_utf8 chars encode decode_pairs
check_without_a_record = refl

check_of_the_installed_update : exits with_check (checked (Some record_2) (signed version_2) (Some 5) ++
    valid ∷ valid ∷ target_read ++ valid ∷ []) ≡ Some 10
unfolding is_utf8 chars encode decode_pairs
check_of_the_installed_update = refl

check_of_other_data : exits with_check (checked (Some record_2) (signed version_2) (Some 5) ++ valid ∷
    invalid ∷ target_read ++ invalid ∷ []) ≡ Some 8
unfolding is_utf8 chars encode decode_pairs
check_of_other_data = refl

check_of_other_data_and_again : exits (record with_check { again = true }) (checked (Some record_2)
    (signed version_2) (Some 5) ++ valid ∷ invalid ∷ target_read ++ invalid ∷ []) ≡ Some 0
unfolding is_utf8 chars encode decode_pairs
check_of_other_data_and_again = refl

check_of_a_changed_file : exits with_check (checked (Some record_2) (signed version_2) (Some 5) ++ valid
    ∷ valid ∷ target_read ++ invalid ∷ []) ≡ Some 0
unfolding is_utf8 chars encode decode_pairs
check_of_a_changed_file = refl

check_of_a_missing_file : exits with_check (checked (Some record_2) (signed version_2) (Some 5) ++ valid
    ∷ valid ∷ TargetMissing ∷ []) ≡ Some 0
unfolding is_utf8 chars encode decode_pairs
check_of_a_missing_file = refl

check_of_an_older_version : exits with_check (checked (Some record_2) (signed version_1) (Some 5) ++
    valid ∷ []) ≡ Some 4
unfolding is_utf8 chars encode decode_pairs
check_of_an_older_version = refl

check_of_an_expired_update : exits with_check (checked (Some record_2) (with_field
    (codes "expires:100")) (Some 100) ++ valid ∷ []) ≡ Some 9
unfolding is_utf8 chars encode decode_pairs
check_of_an_expired_update = refl

check_of_a_changed_comment : exits with_check (checked (Some record_2) (signed version_3) (Some 5) ++
    invalid ∷ []) ≡ Some 3
unfolding is_utf8 chars encode decode_pairs
check_of_a_changed_comment = refl

check_of_another_file : exits with_check (checked (Some record_2) (signed (two_fields (codes "version:3")
    (codes "file:tool"))) (Some 5) ++ valid ∷ []) ≡ Some 3
unfolding is_utf8 chars encode decode_pairs
check_of_another_file = refl

-- A check shows the version and the comment if a key has signed them, even if the update is rejected.
check_shows_the_version : (after (begin with_check) (checked (Some record_2) (signed version_1) (Some 5)
    ++ valid ∷ [])).version ≡ 1
unfolding is_utf8 chars encode decode_pairs
check_shows_the_version = refl

check_shows_what_is_signed : (after (begin with_check) (checked (Some record_2) (signed version_1) (Some
    5) ++ valid ∷ [])).is_signed ≡ true
unfolding is_utf8 chars encode decode_pairs
check_shows_what_is_signed = refl

check_shows_nothing_else : (after (begin with_check) (checked (Some record_2) (signed version_3) (Some
    5) ++ invalid ∷ [])).is_signed ≡ false
unfolding is_utf8 chars encode decode_pairs
check_shows_nothing_else = refl

-- == A pipe: a check, and then an installation ==

pipe_is_read_up_to_the_signed_size : (after (begin with_check) (checked (Some record_2) (with_field
    (codes "size:5")) (Some 5) ++ valid ∷ [])).size ≡ Some 5
unfolding is_utf8 chars encode decode_pairs
pipe_is_read_up_to_the_signed_size = refl

pipe_is_checked : exits with_check (checked (Some record_2) (with_field (codes "size:5")) (Some 5) ++
    valid ∷ []) ≡ Some 0
unfolding is_utf8 chars encode decode_pairs
pipe_is_checked = refl

pipe_is_installed : exits usual (begun (Some record_2) (with_field (codes "size:5")) (Some 5) ++ valid ∷
    installed) ≡ Some 0
unfolding is_utf8 chars encode decode_pairs
pipe_is_installed = refl

pipe_and_another_run_was_faster : exits usual (begun (Some (codes "version:4")) (signed version_3) (Some
    5) ++ valid ∷ []) ≡ Some 4
unfolding is_utf8 chars encode decode_pairs
pipe_and_another_run_was_faster = refl

-- == --new-key ==

record_of_another_key : exits usual (begun (Some record_of_other_key) (signed version_1) (Some 5) ++
    valid ∷ []) ≡ Some 4
unfolding is_utf8 chars encode decode_pairs
record_of_another_key = refl

record_of_another_key_and_first : exits with_first (begun (Some record_of_other_key) (signed version_1)
    (Some 5) ++ valid ∷ installed) ≡ Some 0
unfolding is_utf8 chars encode decode_pairs
record_of_another_key_and_first = refl

record_of_another_key_and_new_key : exits with_new_key (begun (Some record_of_other_key) (signed
    version_1) (Some 5) ++ valid ∷ installed) ≡ Some 0
unfolding is_utf8 chars encode decode_pairs
record_of_another_key_and_new_key = refl

record_of_this_key_and_new_key : exits with_new_key (begun (Some record_2) (signed version_1) (Some 5)
    ++ valid ∷ []) ≡ Some 4
unfolding is_utf8 chars encode decode_pairs
record_of_this_key_and_new_key = refl

missing_record_and_new_key : exits with_new_key (Done ∷ RecordRead None ∷ []) ≡ Some 7
unfolding is_utf8 chars encode decode_pairs
missing_record_and_new_key = refl

damaged_record_and_new_key : exits with_new_key (Done ∷ RecordRead (Some (codes "damage")) ∷ []) ≡ Some 7
unfolding is_utf8 chars encode decode_pairs
damaged_record_and_new_key = refl

-- == --roll-back ==

roll_back : exits with_roll_back (begun (Some record_2) (signed version_1) (Some 5) ++ valid ∷ invalid ∷
    installed) ≡ Some 0
unfolding is_utf8 chars encode decode_pairs
roll_back = refl

roll_back_over_an_old_record : exits with_roll_back (begun (Some old_record) (signed version_1) (Some 5)
    ++ valid ∷ installed) ≡ Some 0
unfolding is_utf8 chars encode decode_pairs
roll_back_over_an_old_record = refl

roll_back_keeps_the_version : new_version (after (begin with_roll_back) (begun (Some record_2) (signed
    version_1) (Some 5) ++ valid ∷ invalid ∷ installed)) ≡ 2
unfolding is_utf8 chars encode decode_pairs
roll_back_keeps_the_version = refl

roll_back_keeps_the_key : new_key (after (begin (record with_roll_back { keys = key_b ∷ [] })) (begun
    (Some record_2) (signed version_1) (Some 5) ++ valid ∷ invalid ∷ installed)) ≡ replicate 32 0
unfolding is_utf8 chars encode decode_pairs
roll_back_keeps_the_key = refl

rolled_back_already : exits with_roll_back (begun (Some record_2) (signed version_1) (Some 5) ++ valid ∷
    valid ∷ target_read ++ valid ∷ Done ∷ Done ∷ []) ≡ Some 10
unfolding is_utf8 chars encode decode_pairs
rolled_back_already = refl

roll_back_was_interrupted : exits with_roll_back (begun (Some record_2) (signed version_1) (Some 5) ++
    valid ∷ valid ∷ target_read ++ invalid ∷ installed) ≡ Some 0
unfolding is_utf8 chars encode decode_pairs
roll_back_was_interrupted = refl

bad_version_is_not_installed_again : exits usual (begun (Some record_2) (signed version_2) (Some 5) ++
    valid ∷ invalid ∷ target_read ++ invalid ∷ []) ≡ Some 8
unfolding is_utf8 chars encode decode_pairs
bad_version_is_not_installed_again = refl

newer_version_after_a_roll_back : exits usual (begun (Some record_2) (signed version_3) (Some 5) ++
    valid ∷ installed) ≡ Some 0
unfolding is_utf8 chars encode decode_pairs
newer_version_after_a_roll_back = refl

roll_back_to_an_expired_update : exits with_roll_back (begun (Some record_2) (signed (two_fields version_1
    (codes "expires:100"))) (Some 100) ++ valid ∷ []) ≡ Some 9
unfolding is_utf8 chars encode decode_pairs
roll_back_to_an_expired_update = refl

check_of_a_roll_back : exits (record with_roll_back { check = true }) (checked (Some record_2) (signed
    version_1) (Some 5) ++ valid ∷ invalid ∷ []) ≡ Some 0
unfolding is_utf8 chars encode decode_pairs
check_of_a_roll_back = refl

-- == A signed list ==

abbrev with_list : Options
with_list = record usual { list = Some long.Rejected }

-- The comment is signed, and this list was read, in which the name is looked up.
abbrev listed : List ℕ → List ℕ → List Event
listed list name =
    begun (Some record_2) (signed version_3) (Some 5) ++ valid ∷ ListRead list name ∷ []

list_is_read_after_the_comment : course (begin with_list) (listed [] (codes "app")) ≡
    fsm.Lock ∷ fsm.ReadRecord ∷ fsm.ReadSignature ∷ fsm.CheckComment ∷ fsm.ReadList ∷ fsm.CheckList ∷ []
unfolding is_utf8 chars encode decode_pairs
list_is_read_after_the_comment = refl

list_that_is_not_signed : error_of with_list (listed (codes "x") (codes "app") ++ invalid ∷ []) ≡
    Some (Library (Named named.SignatureRefused))
unfolding is_utf8 chars encode decode_pairs
list_that_is_not_signed = refl

list_without_the_name : error_of with_list (listed (codes "# no files") (codes "app") ++ valid ∷ []) ≡
    Some NotListed
unfolding is_utf8 chars encode decode_pairs listed_entry
list_without_the_name = refl

list_without_the_name_exits : exits with_list (listed [] (codes "app") ++ valid ∷ []) ≡ Some 3
unfolding is_utf8 chars encode decode_pairs listed_entry
list_without_the_name_exits = refl

name_that_no_list_contains : error_of with_list (listed [] (codes "../app") ++ valid ∷ []) ≡ Some BadName
unfolding is_utf8 chars encode decode_pairs listed_entry
name_that_no_list_contains = refl

malformed_line : error_of with_list (listed (codes "# x" ++ 10 ∷ codes "x") (codes "app") ++ valid ∷ []) ≡
    Some MalformedLine
unfolding is_utf8 chars encode decode_pairs listed_entry
malformed_line = refl

malformed_line_has_a_number : line_at_fault (after (begin with_list) (listed (codes "# x" ++ 10 ∷ codes "x")
    (codes "app") ++ valid ∷ [])) ≡ 2
unfolding is_utf8 chars encode decode_pairs listed_entry
malformed_line_has_a_number = refl

unsigned_line_has_no_number : line_at_fault (after (begin with_list) (listed (codes "x") (codes "app") ++
    invalid ∷ [])) ≡ 0
unfolding is_utf8 chars encode decode_pairs listed_entry
unsigned_line_has_no_number = refl

size_of_a_list_is_ignored : (after (begin with_list) (begun (Some record_2) (with_field (codes "size:5"))
    (Some 5))).size ≡ None
unfolding is_utf8 chars encode decode_pairs
size_of_a_list_is_ignored = refl

-- == Results ==

rejection_is_returned : (step (begin usual) InUse).0 ≡ Err (Refused TargetInUse)
rejection_is_returned = refl

success_is_returned : (step (begin usual) Done).0 ≡ Ok tt
success_is_returned = refl

event_that_does_not_fit : step (begin usual) valid ≡ (Err (WrongUse NotDue), begin usual)
event_that_does_not_fit = refl
