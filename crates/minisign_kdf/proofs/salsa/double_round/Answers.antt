-- Proves the goal of `double_round` that the prover leaves open.
use Rattle.std.proofs.Common.{ap, ◌∙◌}
use Rattle.minisign_kdf.specs.Diagonal.{column_round, row_round}
use Rattle.minisign_kdf.specs.Salsa20.{double_round}
use Rattle.minisign_kdf.proofs.salsa.double_round.Goals as goal

pub returns : goal.returns
unfolding double_round column_round row_round
returns c = c.row_round.ensures ∙ ap row_round c.column_round.ensures
