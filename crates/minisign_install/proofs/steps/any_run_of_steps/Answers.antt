-- Proves the goal of `any_run_of_steps` that the prover leaves open.
use Rattle.minisign_install.proofs.StepArrivals.{good_update_has_run}
use Rattle.minisign_install.proofs.StepChecks.{check_decides_alike}
use Rattle.minisign_install.proofs.StepExamples.{good_update_exists}
use Rattle.minisign_install.proofs.StepFiles.{files_are_gone}
use Rattle.minisign_install.proofs.StepRejections.{rejected_changes_nothing}
use Rattle.minisign_install.proofs.StepSyncs.{synced_first}
use Rattle.minisign_install.proofs.steps.any_run_of_steps.Goals as goal

pub returns : goal.returns
returns c = record {
  files = files_are_gone;
  synced = synced_first;
  check = check_decides_alike;
  rejected = rejected_changes_nothing;
  installable = good_update_has_run;
  exist = good_update_exists;
}
