-- The checks of the version record, the signature file and the trusted comment, as functions of the options
-- and of the file. Comments.antt defines the fields of a comment, and RecordTexts.antt the format of the
-- record. CommentChecks.antt states what the result of `comment_fault` means.
use Rattle.std.specs.Prelude.{ℕ, Bool, false, not, ◌&&◌, ◌||◌, ◌^◌, nat_lt, if◌then◌else◌, List, [], ◌∷◌}
use Rattle.std.specs.Prelude.{map, filter, bytes_eq, is_some, Option, Some, None, Result, Ok, Err}
use Rattle.std.specs.Char.{digit_value}
use Rattle.std.specs.List.{list_all}
use Rattle.std.specs.Option.{unwrap_or}
use Rattle.std.specs.Str.{is_utf8}
use Rattle.std.specs.Str.Parse.{digits_value}
use Rattle.minisign.specs.Records.{is_prehashed}
use Rattle.minisign.specs.SignatureText.{SignatureTextRecord}
use Rattle.minisign.specs.Texts.{and_then, require}
use Rattle.minisign_base.specs.declared.faults.NamedFault.TheVariants as named
use Rattle.minisign_external.specs.Questions.{has_whole_signature}
use Rattle.minisign_external.specs.declared.public_keys.PublicKeyValue.{PublicKeyValue}
use Rattle.minisign_install.specs.Comments.{Numbering, expiries, expiry_label, file_label, number_label}
use Rattle.minisign_install.specs.Comments.{size_label, strip, value_of, values_of}
use Rattle.minisign_install.specs.Faults.{BadExpiry, BadSize, DamagedRecord, Expired, Fault, InstallFault}
use Rattle.minisign_install.specs.Faults.{Library, Named, NoExpiry, NoNumber, NoRecord, OlderUpdate}
use Rattle.minisign_install.specs.Faults.{OtherFile}
use Rattle.minisign_install.specs.RecordTexts.{is_foreign_key, foreign_record_fault, other_field}
use Rattle.minisign_install.specs.RecordTexts.{record_digest}
use Rattle.minisign_install.specs.RecordTexts.{record_key}
use Rattle.minisign_install.specs.RecordTexts.{record_text}
use Rattle.minisign_lists.specs.declared.lines.LongDigest.{LongDigest}

-- The options of a run. `keys` are the public keys that were given, one or two. `file` is the name that the
-- trusted comment must contain. `numbering` says which field of the trusted comment has the version number:
-- `timestamp:` or `version:`. `list` is None if the signature is that of the data. If `list` is Some, the
-- signature is that of a list of files, which must have the digest of the data. The list may have lines with
-- a digest of 128 hexadecimal digits that do not name a hash function; the value in `list` is the hash
-- function of these lines, or says that they are malformed. Each other field is true if the option of
-- minisign-install with its name is given, such as --must-expire.
pub record Options : Type 0 where
  pub keys : List PublicKeyValue
  pub file : List ℕ
  pub numbering : Numbering
  pub first : Bool
  pub again : Bool
  pub check : Bool
  pub must_expire : Bool
  pub new_key : Bool
  pub roll_back : Bool
  pub list : Option LongDigest

-- --first must not be combined with --new-key or --roll-back: --first installs even if there is no record,
-- and the other two need one. --new-key and --roll-back may be combined.
abbrev pub fit_together : Options → Bool
fit_together o = not (o.first && (o.new_key || o.roll_back))

-- == Numbers ==

-- Each character is a decimal digit.
abbrev pub are_digits : List ℕ → Bool
are_digits text = list_all (λ c. nat_lt (digit_value c) 10) text

-- The text is a number: decimal digits without a sign, below 2^64.
abbrev pub is_number : List ℕ → Bool
is_number [] = false
is_number text = are_digits text && nat_lt (digits_value 10 text) (2 ^ 64)

-- The number in the text, if it is one.
abbrev pub number_in : List ℕ → Option ℕ
number_in text = if is_number text then Some (digits_value 10 text) else None

-- The number in the value of a field, if the comment has this field and the value is a number.
abbrev pub number_of : Option (List ℕ) → Option ℕ
number_of (Some text) = number_in text
number_of None = None

-- Both numbers exist, and the first is less than the second.
abbrev pub is_below : Option ℕ → Option ℕ → Bool
is_below (Some n) (Some m) = nat_lt n m
is_below n m = false

-- == The record ==

-- The contents of the record that this run uses. `version` is None if there is no record, or if the record is
-- ignored; then any version may be installed. `key` and `digest` are None if the record does not have them.
pub record Recorded : Type 0 where
  pub version : Option ℕ
  pub key : Option (List ℕ)
  pub digest : Option (List ℕ)

abbrev pub nothing_recorded : Recorded
nothing_recorded = record { version = None; key = None; digest = None }

-- The version number of a record, if it has one for this field. A number without a label, as older versions
-- of the installer wrote it, is valid for both fields.
abbrev pub recorded_version : Numbering → List ℕ → Option ℕ
recorded_version numbering bytes =
    number_in (unwrap_or (strip (number_label numbering) (record_text bytes)) (record_text bytes))

-- The record names a key that was not given.
abbrev pub names_other_key : Options → List ℕ → Bool
names_other_key o bytes = is_foreign_key (map (λ v. v.key) o.keys) (record_key bytes)

-- The error for a record without a version number for this field. If the record has a number for the other
-- field, the error says so.
abbrev pub record_fault : Numbering → List ℕ → InstallFault
record_fault numbering bytes =
    if is_some (recorded_version (other_field numbering) bytes) then
    foreign_record_fault (other_field numbering)
    else DamagedRecord

-- The contents of the record with these bytes, or the error with which the record is rejected. The version
-- number is that of the record for the field `numbering` of the options; it is None if the record has no
-- number for this field. Such a record is ignored with --first, and otherwise rejected. A record that names a
-- key which was not given is ignored with --first and with --new-key.
abbrev pub judge_version : Options → List ℕ → Option ℕ → Result Recorded InstallFault
judge_version o bytes (Some n) =
    if (o.first || o.new_key) && names_other_key o bytes then Ok nothing_recorded
    else Ok (record { version = Some n; key = record_key bytes; digest = record_digest bytes })
judge_version o bytes None =
    if o.first then Ok nothing_recorded else Err (record_fault o.numbering bytes)

-- The contents of the record, from its bytes, or the error with which it is rejected. If there is no record
-- (None), the run continues without one with --first, and otherwise the error is NoRecord.
abbrev pub judge_record : Options → Option (List ℕ) → Result Recorded InstallFault
judge_record o (Some bytes) = judge_version o bytes (recorded_version o.numbering bytes)
judge_record o None = if o.first then Ok nothing_recorded else Err NoRecord

-- == The signature file ==

-- The key ID in the error DifferentKeyIds: that of the key that was given last.
abbrev pub last_key_id : List PublicKeyValue → List ℕ
last_key_id [] = []
last_key_id (v ∷ []) = v.key_id
last_key_id (v ∷ more) = last_key_id more

-- The checks of a parsed signature file that need no Ed25519. `signers` are those of the given keys that have
-- the key ID of the signature. The result is the signature file with these keys, or the error of the first
-- check that fails.
abbrev pub judge_keys : Options → List PublicKeyValue → SignatureTextRecord
    → Result (SignatureTextRecord × List PublicKeyValue) Fault
judge_keys o [] t = Err (Named (named.DifferentKeyIds t.signature.keynum (last_key_id o.keys)))
judge_keys o signers t =
    require (is_prehashed t.signature) named.LegacyNotAccepted
    (require (has_whole_signature t.comments) named.CommentSignatureRefused
    (Ok (t, signers)))

-- The same checks for the result of parsing the signature file. Before that, the name in the options must be
-- UTF-8.
abbrev pub judge_text : Options → Result SignatureTextRecord Fault
    → Result (SignatureTextRecord × List PublicKeyValue) Fault
judge_text o text =
    require (is_utf8 o.file) named.NotUtf8
    (and_then text (λ t. judge_keys o (filter (λ v. bytes_eq t.signature.keynum v.key_id) o.keys) t))

-- == The trusted comment ==

-- The version number of the update, if the comment has one.
abbrev pub version_in : Numbering → List ℕ → Option ℕ
version_in numbering comment = number_of (value_of (number_label numbering) comment)

-- None if the check passes, otherwise this error.
abbrev pub unless : Bool → InstallFault → Option InstallFault
unless holds fault = if holds then None else Some fault

-- The field with the name of the file exists, and has this name.
abbrev pub is_named : List ℕ → Option (List ℕ) → Bool
is_named file (Some name) = bytes_eq name file
is_named file None = false

-- The error if the expiry fields are rejected at this time, in seconds since the beginning of 1970. None is a
-- time before 1970, at which every update that expires has expired. The list has the values of all expiry
-- fields, as `expiries` collects them: with --must-expire, also those whose label differs from `expires:` in
-- case or white space. `until` is the number in the first field whose label is exactly `expires:`. So a
-- single field with another spelling has no `until`, and is rejected with BadExpiry.
abbrev pub expiry_fault : Bool → Option ℕ → List (List ℕ) → Option ℕ → Option InstallFault
expiry_fault must_expire time [] until = if must_expire then Some NoExpiry else None
expiry_fault must_expire time (once ∷ []) (Some until) = unless (is_below time (Some until)) Expired
expiry_fault must_expire time fields until = Some BadExpiry

-- The signed size, if the comment has exactly one field `size:`, and its value is a number.
abbrev pub size_of : List (List ℕ) → Option ℕ
size_of (digits ∷ []) = number_in digits
size_of fields = None

-- The signed size in this comment.
abbrev pub size_in : List ℕ → Option ℕ
size_in comment = size_of (values_of size_label comment)

-- The signed size of the data. If the run uses a list (the first argument is Some), it is None, because the
-- comment of a list does not say how long the data is.
abbrev pub signed_size : Option LongDigest → List ℕ → Option ℕ
signed_size list comment = if is_some list then None else size_in comment

-- The error if there are several fields `size:`, or one whose value is not a number.
abbrev pub size_fault : List (List ℕ) → Option InstallFault
size_fault [] = None
size_fault fields = unless (is_some (size_of fields)) BadSize

-- The update is older than the recorded version, and --roll-back is not given.
abbrev pub is_too_old : Options → Option ℕ → Option ℕ → Bool
is_too_old o recorded version = is_below version recorded && not o.roll_back

-- The first of these errors, if there is one.
abbrev pub first_fault : List (Option InstallFault) → Option InstallFault
first_fault [] = None
first_fault (Some fault ∷ more) = Some fault
first_fault (None ∷ more) = first_fault more

-- The error if a trusted comment is rejected: that of the first check that fails.
abbrev pub comment_fault : Options → Option ℕ → Option ℕ → List ℕ → Option InstallFault
comment_fault o recorded time comment = first_fault
    (unless (is_named o.file (value_of file_label comment)) OtherFile
    ∷ unless (is_some (version_in o.numbering comment)) NoNumber
    ∷ expiry_fault o.must_expire time (expiries o.must_expire comment)
    (number_of (value_of expiry_label comment))
    ∷ size_fault (values_of size_label comment)
    ∷ unless (not (is_too_old o recorded (version_in o.numbering comment))) OlderUpdate
    ∷ [])

-- == Checking only a trusted comment ==

-- The error if a comment is rejected by an application that checks only a comment, and no files. The version
-- must not be below `least`. The comment need not have a field `expires:`, and `size:` is not checked.
abbrev pub comment_only_fault : List ℕ → Numbering → ℕ → ℕ → List ℕ → Option InstallFault
comment_only_fault file numbering time least comment = first_fault
    (unless (is_named file (value_of file_label comment)) OtherFile
    ∷ unless (is_some (version_in numbering comment)) NoNumber
    ∷ expiry_fault false (Some time) (expiries false comment) (number_of (value_of expiry_label comment))
    ∷ unless (not (is_below (version_in numbering comment) (Some least))) OlderUpdate
    ∷ [])

-- The version number if there is no error, otherwise the error.
abbrev pub version_unless : Option InstallFault → Option ℕ → Result ℕ InstallFault
version_unless None version = Ok (unwrap_or version 0)
version_unless (Some fault) version = Err fault

-- The result of checking only a comment.
abbrev pub judge_comment_only : List ℕ → Numbering → ℕ → ℕ → List ℕ → Result ℕ InstallFault
judge_comment_only file numbering time least comment =
    version_unless (comment_only_fault file numbering time least comment) (version_in numbering comment)

-- The same result for a comment and a file name as bytes, which must be UTF-8.
abbrev pub judge_comment : List ℕ → Numbering → ℕ → ℕ → List ℕ → Result ℕ InstallFault
judge_comment file numbering time least comment =
    if is_utf8 comment && is_utf8 file then judge_comment_only file numbering time least comment
    else Err (Library (Named named.NotUtf8))
