-- Proves the goal of `any_application_is_safe` that the prover leaves open.
use Rattle.minisign_install.proofs.Applications.{application_ends, reported_ends_are_true}
use Rattle.minisign_install.proofs.Applications.{reported_errors_are_true}
use Rattle.minisign_install.proofs.Checking.{check_changes_nothing}
use Rattle.minisign_install.proofs.Leftovers.{no_files_left}
use Rattle.minisign_install.proofs.RejectedRuns.{rejected_keeps_content}
use Rattle.minisign_install.proofs.SafeCalls.{ends_are_durable, safe_calls}
use Rattle.minisign_install.proofs.Timely.{accepted_at_reported_time, judged_at_reported_time}
use Rattle.minisign_install.proofs.histories.any_application_is_safe.Goals as goal

pub returns : goal.returns
returns c = record {
  safe = safe_calls;
  judged = judged_at_reported_time;
  timely = accepted_at_reported_time;
  check = check_changes_nothing;
  files = no_files_left;
  rejected = rejected_keeps_content;
  errors = reported_errors_are_true;
  ends = reported_ends_are_true;
  durable = ends_are_durable;
  bounded = application_ends;
}
