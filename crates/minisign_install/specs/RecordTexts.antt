-- The format of the record beside the target: the version number of the newest update after the label of its
-- field, the key that signed the update, and the digest of its data.
use Rattle.std.specs.Prelude.{◌≡◌, ℕ, Bool, false, List, [], ◌∷◌, ◌++◌, ◌-◌, ◌==◌, ◌&&◌, not, bytes_eq}
use Rattle.std.specs.Prelude.{Option}
use Rattle.std.specs.Prelude.{Some, None, Result, Ok, Err, length, take, drop, slice_index, nat_le}
use Rattle.std.specs.Prelude.{if◌then◌else◌}
use Rattle.std.specs.Fmt.{decimal}
use Rattle.std.specs.List.{list_any}
use Rattle.std.specs.Io.BufRead.{strip_last}
use Rattle.std.specs.Option.{unwrap_or}
use Rattle.std.specs.Str.{IsUtf8}
use Rattle.hex.specs.Hex.{decode_sized, encode_lower}
use Rattle.hex.specs.declared.error.FromHexError.{FromHexError}
use Rattle.minisign_install.specs.Comments.{IsNumberText, number_label, strip, Numbering, Timestamp, Version}
use Rattle.minisign_install.specs.Faults.{InstallFault, KeptByTimestamp, KeptByVersion}

-- The two lines after the version number: the key that signed the update and the digest of the data, in
-- hexadecimal digits, each with a line feed before it.
abbrev pub last_lines : List ℕ → List ℕ → List ℕ
last_lines key digest = (10 ∷ encode_lower key) ++ (10 ∷ encode_lower digest)

-- The record of an update: the label and the version number, as in the trusted comment, then the key and the
-- digest.
abbrev pub record_of : Numbering → ℕ → List ℕ → List ℕ → List ℕ
record_of numbering n key digest = (number_label numbering ++ decimal n) ++ last_lines key digest

-- The record is long enough for a first line of at most 64 bytes and the two last lines, and a line feed ends
-- the first line. The digits in the last lines are not checked here.
abbrev pub has_last_lines : List ℕ → Bool
has_last_lines bytes =
    nat_le 194 (length bytes) && nat_le (length bytes) 258 && (slice_index bytes (length bytes - 194) == 10)

-- The first line of a record of three lines, or nothing if the record does not have this form.
abbrev pub first_line : List ℕ → List ℕ
first_line bytes = if has_last_lines bytes then take (length bytes - 194) bytes else []

-- The text with the version number: the first of three lines, or all of a record of at most 64 bytes, except
-- for a line feed at its end. Older versions wrote such short records, without a key and a digest.
abbrev pub record_text : List ℕ → List ℕ
record_text bytes = if nat_le (length bytes) 64 then strip_last 10 bytes else first_line bytes

-- The bytes that hexadecimal digits encode, if they are valid.
abbrev pub decoded : Result (List ℕ) FromHexError → Option (List ℕ)
decoded (Ok bytes) = Some bytes
decoded (Err e) = None

-- The digest of the data for which the record was written, if the record has one.
abbrev pub record_digest : List ℕ → Option (List ℕ)
record_digest bytes =
    if has_last_lines bytes then decoded (decode_sized (drop (length bytes - 128) bytes) 64) else None

-- The key that signed the update, if the record names one.
abbrev pub record_key : List ℕ → Option (List ℕ)
record_key bytes =
    if has_last_lines bytes then decoded (decode_sized (take 64 (drop (length bytes - 193) bytes)) 32)
    else None

-- The record names a key, and it is none of these keys.
abbrev pub is_foreign_key : List (List ℕ) → Option (List ℕ) → Bool
is_foreign_key keys (Some named) = not (list_any (λ key. bytes_eq named key) keys)
is_foreign_key keys None = false

-- The record that version 0.2 used, or None if there is none or it was ignored. `first` is true if --first is
-- given; then a record that names a key other than these is ignored.
abbrev pub used_record : Bool → List (List ℕ) → Option (List ℕ) → Option (List ℕ)
used_record first keys (Some bytes) =
    if first && is_foreign_key keys (record_key bytes) then None else Some bytes
used_record first keys None = None

-- The record has this version number for this field: after the label of the field, or without a label.
-- Records without a label, which older versions wrote, are valid for both fields.
pub record IsNumberFor (numbering : Numbering) (bytes : List ℕ) (n : ℕ) : Type 0 where
  pub utf8 : IsUtf8 (record_text bytes)
  pub number : IsNumberText
      (unwrap_or (strip (number_label numbering) (record_text bytes)) (record_text bytes)) n

-- The record has no version number for this field.
abbrev pub HasNoNumber : Numbering → List ℕ → Type 0
HasNoNumber numbering bytes = (n : ℕ) → ¬ (IsNumberFor numbering bytes n)

-- The record has this version number for this field, this key and this digest.
pub record IsRecordOf (numbering : Numbering) (n : ℕ) (key digest bytes : List ℕ) : Type 0 where
  pub number : IsNumberFor numbering bytes n
  pub names : record_key bytes ≡ Some key
  pub fits : record_digest bytes ≡ Some digest

-- The other one of the two fields that can have the version number.
abbrev pub other_field : Numbering → Numbering
other_field Timestamp = Version
other_field Version = Timestamp

-- The error for a record whose version number is for this field, and not for the chosen one.
abbrev pub foreign_record_fault : Numbering → InstallFault
foreign_record_fault Timestamp = KeptByTimestamp
foreign_record_fault Version = KeptByVersion
