-- Proves the goals of `mix_with_remade` that the prover leaves open.
use Rattle.std.proofs.Common.{ℕ, List, ◌*◌, bit_xor, sym, ap, ◌∙◌, arith}
use Rattle.std.specs.Simd.Lanes.{zip2}
use Rattle.minisign_kdf.specs.Diagonal.{diagonal_bytes}
use Rattle.minisign_kdf.specs.Scrypt.{block_mix, row_at}
use Rattle.minisign_kdf.proofs.Ordered.{diagonal_bytes-xor}
use Rattle.minisign_kdf.proofs.RowMixing.{row_at_none}
use Rattle.minisign_kdf.proofs.rom_mix.mix_with_remade.Goals as goal

pub returns-then-times-eq0 : goal.returns-then-times-eq0
returns-then-times-eq0 c =
    let r : ℕ = c.args.r in
    let x : List ℕ = c.args.x.now in
    let b : List ℕ = diagonal_bytes c.args.base_row.now in
    c.xor_block_mix.ensures
    ∙ ap (block_mix r) (diagonal_bytes-xor x c.args.base_row.now (2 * r) (omega arith) (omega arith)
    ∙ ap (zip2 bit_xor (diagonal_bytes x))
    (sym (row_at_none r b) ∙ ap (row_at r b) (sym c.if-times-eq0.true)))

pub returns-else-times-eq0 : goal.returns-else-times-eq0
returns-else-times-eq0 c =
    let r : ℕ = c.args.r in
    let x : List ℕ = c.args.x.now in
    c.xor_block_mix-else-times-eq0.ensures
    ∙ ap (block_mix r) (diagonal_bytes-xor x c.mix_times.new.into (2 * r) (omega arith) (omega arith)
    ∙ ap (zip2 bit_xor (diagonal_bytes x)) c.mix_times.ensures)
