-- Proves the goals of `store_words` that the prover leaves open.
use Rattle.std.proofs.Common.{◌*◌, sym, ap, ◌∙◌, arith}
use Rattle.std.proofs.lemmas.List.{take_all}
use Rattle.minisign_kdf.specs.Salsa20.{bytes_of_words32}
use Rattle.minisign_kdf.proofs.Bytes.{stored_next}
use Rattle.minisign_kdf.proofs.diagonal_order.store_words.Goals as goal

pub words-preserved : goal.words-preserved
words-preserved c =
    stored_next c.args.words.now c.words.bytes _ c.words.i _ c.words.invariant (omega arith) (omega arith)
    (c.copy_from_slice.ensures.after ∙ c.to_le_bytes.ensures)

pub returns : goal.returns
returns c =
    sym (take_all (4 * c.words.i) c.words.bytes (omega arith)) ∙ c.words.invariant
    ∙ ap bytes_of_words32 (take_all c.words.i c.args.words.now (omega arith))
