-- Proves the goal of `any_listed_update_is_listed` that the prover leaves open.
use Rattle.minisign_install.proofs.ListLaws.{list_is_signed, no_line, no_list_read, update_is_listed}
use Rattle.minisign_install.proofs.histories.any_listed_update_is_listed.Goals as goal

pub returns : goal.returns
returns c = record {
  listed = update_is_listed;
  signed = list_is_signed;
  unsigned = no_line;
  none = no_list_read;
}
