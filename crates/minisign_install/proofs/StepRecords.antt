-- Proves that the next run reads from the record what the previous run has written.
use Rattle.std.specs.Prelude.{◌≡◌, ◌<◌, ◌^◌, ℕ, List, false, length, Some, None, Ok}
use Rattle.std.proofs.Common.{refl, sym, ◌∙◌}
use Rattle.std.proofs.lemmas.Option.{none-some}
use Rattle.minisign_install.specs.Comments.{Numbering}
use Rattle.minisign_install.specs.Decisions.{Options, judge_record, recorded_version}
use Rattle.minisign_install.specs.RecordTexts.{HasNoNumber, IsNumberFor, record_digest, record_key}
use Rattle.minisign_install.specs.Step.{State, new_key, new_record, new_version}
use Rattle.minisign_install.proofs.Decisions.{number_reads}
use Rattle.minisign_install.proofs.RecordTexts.{digest_reads, record_reads}
use Rattle.minisign_install.specs.Step.{signed_digest}
use Rattle.minisign_install.proofs.Listings.{IsDigest}

-- If a record has this version number for the field, recorded_version returns it.
pub recorded_reads : (numbering : Numbering) (bytes : List ℕ) (n : ℕ) → IsNumberFor numbering bytes n
    → recorded_version numbering bytes ≡ Some n
recorded_reads numbering bytes n is = number_reads _ n is.number

-- If recorded_version returns None, the record has no version number for the field.
pub none_recorded : (numbering : Numbering) (bytes : List ℕ) → recorded_version numbering bytes ≡ None
    → HasNoNumber numbering bytes
none_recorded numbering bytes none n is = none-some n (sym none ∙ recorded_reads numbering bytes n is)

-- The version number in the new record is the one that the run records.
pub new_version_reads : (s : State) → new_version s < 2 ^ 64 → length (new_key s) ≡ 32
    → IsDigest (signed_digest s) → recorded_version s.options.numbering (new_record s) ≡ Some (new_version s)
new_version_reads s bound whole digest =
    recorded_reads s.options.numbering (new_record s) (new_version s)
    (record_reads s.options.numbering (new_version s) bound (new_key s) (signed_digest s) whole digest.0)

-- The digest in the new record is that of the data that was read back.
pub new_digest_reads : (s : State) → new_version s < 2 ^ 64 → length (new_key s) ≡ 32
    → IsDigest (signed_digest s) → record_digest (new_record s) ≡ Some (signed_digest s)
new_digest_reads s bound whole digest =
    digest_reads s.options.numbering (new_version s) bound (new_key s) (signed_digest s) whole
    digest.0 digest.1

-- A run without --first and --new-key that finds this record accepts it, and reads the version number and the
-- digest that were recorded. The digest is that of the data or of the list. So it can finish a run that was
-- interrupted after it had renamed the record.
pub next_run_reads : (o : Options) (s : State) → o.first ≡ false → o.new_key ≡ false
    → o.numbering ≡ s.options.numbering → new_version s < 2 ^ 64 → length (new_key s) ≡ 32
    → IsDigest (signed_digest s)
    → judge_record o (Some (new_record s)) ≡ Ok (record {
      version = Some (new_version s);
      key = record_key (new_record s);
      digest = Some (signed_digest s);
    })
next_run_reads o s not_first not_new same bound whole digest =
    rw (
      same,
      new_version_reads s bound whole digest,
      not_first,
      not_new,
      new_digest_reads s bound whole digest,
    )
    refl
