-- Proves that a record which version 0.2 accepted is accepted with the same version number.
use Rattle.std.specs.Prelude.{◌≡◌, ◌&&◌, ◌||◌, ℕ, Bool, true, false, List, Option}
use Rattle.std.specs.Prelude.{Some, None, Result, Ok, Err, if◌then◌else◌}
use Rattle.std.proofs.Common.{refl, sym, ap, ◌∙◌, true≢false}
use Rattle.std.proofs.lemmas.Option.{none-some, same_Some}
use Rattle.minisign_install.specs.Decisions.{Options, Recorded, judge_record, judge_version}
use Rattle.minisign_install.specs.Decisions.{names_other_key}
use Rattle.minisign_install.specs.Decisions.{nothing_recorded, recorded_version}
use Rattle.minisign_install.specs.Faults.{InstallFault}
use Rattle.minisign_install.specs.Histories.{AppliesAs, used_record_for}
use Rattle.minisign_install.proofs.Recorded.{recorded_holds}
use Rattle.minisign_install.proofs.StepRecords.{recorded_reads}

-- The record is accepted, and the update is compared with this version number, or with none if it is None.
abbrev version_of : Result Recorded InstallFault → Option ℕ → Type 0
version_of judged applicable = (r : Recorded) × (judged ≡ Ok r) × (r.version ≡ applicable)

module _ (o : Options) (no_new_key : o.new_key ≡ false) where
  abbrev VersionApplies : Option (List ℕ) → Option ℕ → Type 0
  VersionApplies found applicable = version_of (judge_record o found) applicable

  -- The lemma applies_as_before for a record that has a version number for the field.
  with_number : (bytes : List ℕ) (first new other : Bool) (n : ℕ) (key digest : Option (List ℕ))
      (applicable : Option ℕ) → new ≡ false → recorded_version o.numbering bytes ≡ Some n
      → AppliesAs o.numbering first (if first && other then None else Some bytes) applicable
      → version_of (if (first || new) && other then Ok nothing_recorded
      else Ok (record { version = Some n; key = key; digest = digest })) applicable
  with_number bytes true new true n key digest None is reads record_applies = (nothing_recorded, refl, refl)
  with_number bytes true new true n key digest (Some k) is reads (all, none, holds) =
      absurd (none-some all none)
  with_number bytes true new false n key digest None is reads (first, none) =
      absurd (none n (recorded_holds o.numbering bytes n reads))
  with_number bytes true new false n key digest (Some k) is reads (all, some, holds) =
      let same : bytes ≡ all = same_Some bytes all some in (
        record { version = Some n; key = key; digest = digest },
        refl,
        sym reads ∙ ap (recorded_version o.numbering) same ∙ recorded_reads o.numbering all k holds,
      )
  with_number bytes false true other n key digest applicable is reads record_applies = absurd (true≢false is)
  with_number bytes false false other n key digest None is reads (first, none) =
      absurd (true≢false (sym first))
  with_number bytes false false other n key digest (Some k) is reads (all, some, holds) =
      let same : bytes ≡ all = same_Some bytes all some in (
        record { version = Some n; key = key; digest = digest },
        refl,
        sym reads ∙ ap (recorded_version o.numbering) same ∙ recorded_reads o.numbering all k holds,
      )

  -- The lemma applies_as_before for a record that has no version number for the field.
  without_number : (bytes : List ℕ) (first other : Bool) (fault : InstallFault) (applicable : Option ℕ)
      → recorded_version o.numbering bytes ≡ None
      → AppliesAs o.numbering first (if first && other then None else Some bytes) applicable
      → version_of (if first then Ok nothing_recorded else Err fault) applicable
  without_number bytes true other fault None reads record_applies = (nothing_recorded, refl, refl)
  without_number bytes true true fault (Some k) reads (all, none, holds) = absurd (none-some all none)
  without_number bytes true false fault (Some k) reads (all, some, holds) =
      let same : bytes ≡ all = same_Some bytes all some in
      absurd (none-some k (sym reads ∙ ap (recorded_version o.numbering) same
      ∙ recorded_reads o.numbering all k holds))
  without_number bytes false other fault None reads (first, none) = absurd (true≢false (sym first))
  without_number bytes false other fault (Some k) reads (all, some, holds) =
      let same : bytes ≡ all = same_Some bytes all some in
      absurd (none-some k (sym reads ∙ ap (recorded_version o.numbering) same
      ∙ recorded_reads o.numbering all k holds))

  -- The lemma applies_as_before for a record, and below for a missing one (no_record).
  by_version : (bytes : List ℕ) (version applicable : Option ℕ) → recorded_version o.numbering bytes ≡ version
      → AppliesAs o.numbering o.first (used_record_for o (Some bytes)) applicable
      → version_of (judge_version o bytes version) applicable
  by_version bytes (Some n) applicable reads record_applies =
      with_number bytes o.first o.new_key
      (names_other_key o bytes) n _ _ applicable no_new_key reads record_applies
  by_version bytes None applicable reads record_applies =
      without_number bytes o.first (names_other_key o bytes) _ applicable reads record_applies

  no_record : (first : Bool) (fault : InstallFault) (applicable : Option ℕ)
      → AppliesAs o.numbering first None applicable
      → version_of (if first then Ok nothing_recorded else Err fault) applicable
  no_record true fault None record_applies = (nothing_recorded, refl, refl)
  no_record false fault None (first, none) = absurd (true≢false (sym first))
  no_record first fault (Some k) (all, none, holds) = absurd (none-some all none)

  counted_same : (found : Option (List ℕ)) (applicable : Option ℕ)
      → AppliesAs o.numbering o.first (used_record_for o found) applicable → VersionApplies found applicable
  counted_same None applicable record_applies = no_record o.first _ applicable record_applies
  counted_same (Some bytes) applicable record_applies =
      by_version bytes (recorded_version o.numbering bytes) applicable refl record_applies

-- The update is compared with the version number that version 0.2 took from the record, even if the number
-- has no label.
pub applies_as_before : (o : Options) (found : Option (List ℕ)) (applicable : Option ℕ) → o.new_key ≡ false
    → AppliesAs o.numbering o.first (used_record_for o found) applicable
    → (r : Recorded) × (judge_record o found ≡ Ok r) × (r.version ≡ applicable)
applies_as_before o found applicable no_new_key record_applies = counted_same o no_new_key found applicable
    record_applies
