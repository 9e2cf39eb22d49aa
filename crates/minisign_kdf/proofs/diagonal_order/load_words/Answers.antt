-- Proves the goals of `load_words` that the prover leaves open.
use Rattle.std.proofs.Common.{rules, ◌*◌, ◌<◌, ◌^◌, slice_index, ℕ, sym, ap, ◌∙◌, arith}
use Rattle.std.proofs.lemmas.List.{take_all}
use Rattle.minisign_kdf.specs.Salsa20.{bytes_of_words32}
use Rattle.minisign_kdf.proofs.Bytes.{read_next}
use Rattle.minisign_kdf.proofs.diagonal_order.load_words.Goals as goal

pub words-preserved : goal.words-preserved
words-preserved c =
    let fits : (k : ℕ) → slice_index c.args.bytes.now k < 2 ^ 8 = search rules in
    read_next c.words.words c.args.bytes.now c.words.i c.from_le_bytes.result c.words.invariant (omega arith)
    (omega arith) fits c.from_le_bytes.ensures

pub returns : goal.returns
returns c =
    ap bytes_of_words32 (sym (take_all c.words.i c.words.words (omega arith))) ∙ c.words.invariant
    ∙ take_all (4 * c.words.i) c.args.bytes.now (omega arith)
