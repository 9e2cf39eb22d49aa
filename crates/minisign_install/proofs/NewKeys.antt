-- Proves the laws of `any_record_is_judged` about --new-key and about the record after a roll-back.
use Rattle.std.specs.Prelude.{◌≡◌, ◌<◌, ◌||◌, ℕ, true, false, List, Some, None, Ok, Err}
use Rattle.std.proofs.Common.{refl, lt-ltb}
use Rattle.minisign_install.specs.Decisions.{Options, judge_record, names_other_key}
use Rattle.minisign_install.specs.Decisions.{nothing_recorded, record_fault, recorded_version}
use Rattle.minisign_install.specs.Faults.{NoRecord}
use Rattle.minisign_install.specs.RecordTexts.{record_digest, record_key}
use Rattle.minisign_install.specs.Step.{State, new_key, new_version}

-- With --first or --new-key, a record that names a key which was not given is ignored.
pub other_key_is_ignored : (o : Options) (bytes : List ℕ) (n : ℕ) → (o.first || o.new_key) ≡ true
    → names_other_key o bytes ≡ true → recorded_version o.numbering bytes ≡ Some n
    → judge_record o (Some bytes) ≡ Ok nothing_recorded
other_key_is_ignored o bytes n ignores other is = rw (is, ignores, other) refl

-- Without these options, a record with a version number applies.
pub applies_to_record : (o : Options) (bytes : List ℕ) (n : ℕ) → (o.first || o.new_key) ≡ false
    → recorded_version o.numbering bytes ≡ Some n
    → judge_record o (Some bytes)
    ≡ Ok (record { version = Some n; key = record_key bytes; digest = record_digest bytes })
applies_to_record o bytes n record_applies is = rw (is, record_applies) refl

-- Without --first, a missing record is an error, and so is one without a version number (damaged_stops).
pub missing_stops : (o : Options) → o.first ≡ false → judge_record o None ≡ Err NoRecord
missing_stops o later = rw later refl

pub damaged_stops : (o : Options) (bytes : List ℕ) → o.first ≡ false
    → recorded_version o.numbering bytes ≡ None
    → judge_record o (Some bytes) ≡ Err (record_fault o.numbering bytes)
damaged_stops o bytes later is = rw (is, later) refl

-- A roll-back keeps the recorded version and the recorded key (key_is_kept).
pub version_is_kept : (s : State) (k : ℕ) → s.recorded.version ≡ Some k → s.version < k → new_version s ≡ k
version_is_kept s k is less = rw (is, lt-ltb s.version k less) refl

pub key_is_kept : (s : State) (k : ℕ) (key : List ℕ) → s.recorded.version ≡ Some k → s.version < k
    → s.recorded.key ≡ Some key → new_key s ≡ key
key_is_kept s k key is less named = rw (is, lt-ltb s.version k less, named) refl
