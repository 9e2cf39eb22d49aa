-- Proves the goal of `any_good_update_arrives` that the prover leaves open.
use Rattle.minisign_install.proofs.Applications.{good_update_is_installed}
use Rattle.minisign_install.proofs.Versions.{own_record}
use Rattle.minisign_install.proofs.Resuming.{interrupted_run_is_finished}
use Rattle.minisign_install.proofs.histories.any_good_update_arrives.Goals as goal

pub returns : goal.returns
returns c = record {
  installed = good_update_is_installed;
  finished = interrupted_run_is_finished;
  record_of_update = own_record;
}
