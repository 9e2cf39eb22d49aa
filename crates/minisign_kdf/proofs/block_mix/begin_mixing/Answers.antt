-- Proves the goals of `begin_mixing` that the prover leaves open.
use Rattle.std.proofs.Common.{◌≡◌, ℕ, List, ◌-◌, ◌%◌, sym, ap, ◌∙◌, arith}
use Rattle.minisign_kdf.specs.Diagonal.{diagonal_bytes}
use Rattle.minisign_kdf.specs.Scrypt.{row_at}
use Rattle.minisign_kdf.proofs.RowMixing.{row_at_more, row_at_none}
use Rattle.minisign_kdf.proofs.block_mix.begin_mixing.Goals as goal

pub returns-then-times-eq1 : goal.returns-then-times-eq1
returns-then-times-eq1 c =
    let r : ℕ = c.args.r in
    let b : List ℕ = diagonal_bytes c.args.from.now in
    let once : 1 ≡ 2 - c.args.times % 2 = omega arith in
    row_at_more r 0 b b _ (sym (row_at_none r b)) c.block_mix.ensures ∙ ap (row_at r b) once

pub returns-else-times-eq1 : goal.returns-else-times-eq1
returns-else-times-eq1 c =
    let r : ℕ = c.args.r in
    let b : List ℕ = diagonal_bytes c.args.from.now in
    let twice : 2 ≡ 2 - c.args.times % 2 = omega arith in
    row_at_more r 1 b _ _ (row_at_more r 0 b b _ (sym (row_at_none r b)) c.block_mix-else-times-eq1.ensures)
    c.block_mix-else-times-eq1-2.ensures
    ∙ ap (row_at r b) twice
