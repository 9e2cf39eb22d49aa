-- Proves the goals of `store_part` that the prover leaves open.
use Rattle.std.proofs.Common.{◌*◌, sym, ap, ◌∙◌, arith}
use Rattle.std.proofs.lemmas.List.{take_all}
use Rattle.minisign_kdf.specs.Diagonal.{diagonal_bytes}
use Rattle.minisign_kdf.specs.Salsa20.{bytes_of_words32}
use Rattle.minisign_kdf.proofs.Ordered.{diagonal_bytes-none, stored_next}
use Rattle.minisign_kdf.proofs.diagonal_order.store_part.Goals as goal

pub block-init : goal.block-init
block-init c = sym diagonal_bytes-none

pub block-preserved : goal.block-preserved
block-preserved c =
    stored_next c.args.words.now c.block.bytes c.store_words.new.bytes c.block.i _ _ c.block.invariant
    (omega arith) (omega arith) (omega arith) (omega arith)
    (c.store_words.ensures ∙ ap bytes_of_words32 c.in_standard_order-plain.ensures)

pub returns : goal.returns
returns c =
    sym (take_all (64 * c.block.i) c.block.bytes (omega arith)) ∙ c.block.invariant
    ∙ ap diagonal_bytes (take_all (16 * c.block.i) c.args.words.now (omega arith))
