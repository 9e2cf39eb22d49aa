-- Proves the goal of `row_round` that the prover leaves open.
use Rattle.std.proofs.Common.{◌∙◌, ap, sym}
use Rattle.minisign_kdf.specs.Diagonal.{column_round, placed_words, transposed_square}
use Rattle.minisign_kdf.proofs.Diagonal.{length-standard_order, row_round-transposed_square}
use Rattle.minisign_kdf.proofs.salsa.row_round.Goals as goal

pub returns : goal.returns
returns c =
    c.transposed-2.ensures ∙ ap transposed_square
    (c.column_round.ensures ∙ ap column_round c.transposed.ensures)
    ∙ sym (row_round-transposed_square _ (length-standard_order (placed_words c.args.x)))
