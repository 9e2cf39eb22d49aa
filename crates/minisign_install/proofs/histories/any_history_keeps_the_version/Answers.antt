-- Proves the goal of `any_history_keeps_the_version` that the prover leaves open.
use Rattle.minisign_install.proofs.RecordedNumbers.{applies_as_before}
use Rattle.minisign_install.proofs.Versions.{versions_keep}
use Rattle.minisign_install.proofs.histories.any_history_keeps_the_version.Goals as goal

pub returns : goal.returns
returns c = record { versions = versions_keep; old_records = applies_as_before }
