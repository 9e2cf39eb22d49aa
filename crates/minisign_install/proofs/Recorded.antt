-- Lemmas for the functions that read the version number of a record.
use Rattle.std.specs.Prelude.{◌≡◌, ◌⊎◌, ◌==◌, ◌++◌, ℕ, Bool, true, false, List, [], ◌∷◌, Option, Some, None}
use Rattle.std.specs.Prelude.{MatchOption, is_some, if◌then◌else◌}
use Rattle.std.specs.Option.{unwrap_or}
use Rattle.std.specs.Str.{IsUtf8}
use Rattle.std.proofs.Common.{refl, sym, ap, ◌∙◌, subst, eqb-true, inl, inr}
use Rattle.std.proofs.lemmas.Fmt.{IsAscii-from_digits}
use Rattle.std.proofs.lemmas.Option.{none-some, same_Some}
use Rattle.std.proofs.lemmas.Str.{IsUtf8-append, IsUtf8-from_ascii}
use Rattle.minisign_install.specs.Comments.{IsNumberText, Numbering, number_label, strip}
use Rattle.minisign_install.specs.Decisions.{record_fault, recorded_version}
use Rattle.minisign_install.specs.Faults.{DamagedRecord, InstallFault}
use Rattle.minisign_install.specs.RecordTexts.{HasNoNumber, IsNumberFor, foreign_record_fault, other_field}
use Rattle.minisign_install.specs.RecordTexts.{record_text}
use Rattle.minisign_install.proofs.Decisions.{number_reads, reads_number}
use Rattle.minisign_install.proofs.RecordTexts.{label_utf8}

value_if_chosen : (is : Bool) (o : Option (List ℕ)) (rest : List ℕ) → (if is then o else None) ≡ Some rest
    → (is ≡ true) × (o ≡ Some rest)
value_if_chosen true o rest is = (refl, is)
value_if_chosen false o rest is = absurd (none-some rest is)

strip_is : (label text rest : List ℕ) → strip label text ≡ Some rest → text ≡ label ++ rest
strip_is [] text rest is = same_Some text rest is
strip_is (b ∷ label) [] rest is = absurd (none-some rest is)
strip_is (b ∷ label) (c ∷ text) rest is =
    let (same, more) = value_if_chosen (c == b) (strip label text) rest is in
    ap (λ (d : ℕ). d ∷ text) (eqb-true c b same) ∙ ap (λ (l : List ℕ). b ∷ l) (strip_is label text rest more)

digits_utf8 : (text : List ℕ) (n : ℕ) → IsNumberText text n → IsUtf8 text
digits_utf8 text n is = IsUtf8-from_ascii text (IsAscii-from_digits text is.numeral.1)

text_utf8 : (numbering : Numbering) (text : List ℕ) (n : ℕ) (o : Option (List ℕ))
    → strip (number_label numbering) text ≡ o → IsNumberText (unwrap_or o text) n → IsUtf8 text
text_utf8 numbering text n None is number = digits_utf8 text n number
text_utf8 numbering text n (Some rest) is number =
    subst IsUtf8 (sym (strip_is (number_label numbering) text rest is))
    (IsUtf8-append (number_label numbering) rest (label_utf8 numbering) (digits_utf8 rest n number))

-- If recorded_version returns a number, the record has this version number for the field.
pub recorded_holds : (numbering : Numbering) (bytes : List ℕ) (n : ℕ) → recorded_version numbering bytes
    ≡ Some n
    → IsNumberFor numbering bytes n
recorded_holds numbering bytes n is =
    let number = reads_number _ n is in
    record { utf8 = text_utf8 numbering (record_text bytes) n _ refl number; number = number }

no_number_recorded : (numbering : Numbering) (bytes : List ℕ) (o : Option ℕ)
    → recorded_version numbering bytes ≡ o
    → HasNoNumber numbering bytes → None ≡ o
no_number_recorded numbering bytes None is none = refl
no_number_recorded numbering bytes (Some n) is none = absurd (none n (recorded_holds numbering bytes n is))

-- If a result satisfies the contract of reading the version number, it is that of `recorded_version`.
pub version_is : (numbering : Numbering) (bytes : List ℕ) (r : Option ℕ)
    → MatchOption r (HasNoNumber numbering bytes) (IsNumberFor numbering bytes)
    → r ≡ recorded_version numbering bytes
version_is numbering bytes None none = no_number_recorded numbering bytes _ refl none
version_is numbering bytes (Some n) is = sym (number_reads _ n is.number)

-- If an error satisfies the contract of `fault_for`, it is that of `record_fault`.
pub fault_is : (numbering : Numbering) (bytes : List ℕ) (e : InstallFault)
    → ((e ≡ foreign_record_fault (other_field numbering))
    × ((n : ℕ) × IsNumberFor (other_field numbering) bytes n))
    ⊎ ((e ≡ DamagedRecord) × HasNoNumber (other_field numbering) bytes) → e ≡ record_fault numbering bytes
fault_is numbering bytes e (inl (is, (n, number))) =
    is ∙ sym (ap (λ (o : Option ℕ). if is_some o then foreign_record_fault (other_field numbering)
    else DamagedRecord)
    (number_reads _ n number.number))
fault_is numbering bytes e (inr (is, none)) =
    is ∙ ap (λ (o : Option ℕ). if is_some o then foreign_record_fault (other_field numbering)
    else DamagedRecord)
    (no_number_recorded (other_field numbering) bytes _ refl none)
