-- Proves the goal of `salsa20_8` that the prover leaves open.
use Rattle.std.proofs.Common.{◌≡◌, length, ap, ◌∙◌, arith}
use Rattle.minisign_kdf.specs.Diagonal.{placed_words, standard_order}
use Rattle.minisign_kdf.specs.Salsa20.{double_round}
use Rattle.minisign_kdf.proofs.Diagonal.{salsa_words-ordered}
use Rattle.minisign_kdf.proofs.Sixteen.{length_rows}
use Rattle.minisign_kdf.proofs.salsa.salsa20_8.Goals as goal

pub returns : goal.returns
returns c =
    let x = c.args.x in
    let y = c.double_round-4.result in
    let lx : length (placed_words x) ≡ 16 = length_rows x.a x.b x.c x.d (omega arith) (omega arith)
    (omega arith) (omega arith) in
    let ly : length (placed_words y) ≡ 16 = length_rows y.a y.b y.c y.d (omega arith) (omega arith)
    (omega arith) (omega arith) in
    ap standard_order c.sum_of.ensures
    ∙ salsa_words-ordered (placed_words x) (placed_words y) lx ly
    (c.double_round-4.ensures
    ∙ ap double_round (c.double_round-3.ensures
    ∙ ap double_round (c.double_round-2.ensures ∙ ap double_round c.double_round.ensures)))
