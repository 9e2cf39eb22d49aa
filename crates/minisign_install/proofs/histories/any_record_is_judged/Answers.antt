-- Proves the goal of `any_record_is_judged` that the prover leaves open.
use Rattle.minisign_install.proofs.NewKeys.{damaged_stops, key_is_kept, missing_stops}
use Rattle.minisign_install.proofs.NewKeys.{other_key_is_ignored, applies_to_record, version_is_kept}
use Rattle.minisign_install.proofs.RollBacks.{roll_back_stays, version_reads_back}
use Rattle.minisign_install.proofs.RolledBack.{roll_back_is_named}
use Rattle.minisign_install.proofs.histories.any_record_is_judged.Goals as goal

pub returns : goal.returns
returns c = record {
  ignored = other_key_is_ignored;
  record_applies = applies_to_record;
  missing = missing_stops;
  damaged = damaged_stops;
  version = version_is_kept;
  not_undone = roll_back_stays;
  named = roll_back_is_named;
  read_back = version_reads_back;
  key = key_is_kept;
}
