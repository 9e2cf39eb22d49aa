-- Proves the goals of `load_part` that the prover leaves open.
use Rattle.std.proofs.Common.{◌*◌, sym, ap, ◌∙◌, arith}
use Rattle.std.proofs.lemmas.List.{take_all}
use Rattle.minisign_kdf.specs.Diagonal.{diagonal_bytes}
use Rattle.minisign_kdf.proofs.Ordered.{diagonal_bytes-none, loaded_next}
use Rattle.minisign_kdf.proofs.diagonal_order.load_part.Goals as goal

pub block-init : goal.block-init
block-init c = diagonal_bytes-none

pub block-preserved : goal.block-preserved
block-preserved c =
    loaded_next c.block.words c.args.bytes.now c.load_block.new.words c.block.i _ _ c.block.invariant
    (omega arith) (omega arith) (omega arith) (omega arith) c.load_block.ensures

pub returns : goal.returns
returns c =
    ap diagonal_bytes (sym (take_all (16 * c.block.i) c.block.words (omega arith))) ∙ c.block.invariant
    ∙ take_all (64 * c.block.i) c.args.bytes.now (omega arith)
