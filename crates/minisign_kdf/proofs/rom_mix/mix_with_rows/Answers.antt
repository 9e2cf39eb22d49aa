-- Proves the goals of `mix_with_rows` that the prover leaves open.
use Rattle.std.proofs.Common.{◌≡◌, ℕ, List, ◌+◌, ◌*◌, ◌/◌, ◌^◌, ◌<◌, sym, ap, ◌∙◌, arith, pow_pos}
use Rattle.std.specs.Int.{div_ceil}
use Rattle.minisign_kdf.specs.Kept.{remade_row, rows_of}
use Rattle.minisign_kdf.specs.Scrypt.{mixed_part}
use Rattle.minisign_kdf.proofs.Remade.{last_row_mixed, mixed_from}
use Rattle.minisign_kdf.proofs.RowMixing.{even_power, mixed_part_none, step_next}
use Rattle.minisign_kdf.proofs.rom_mix.mix_with_rows.Goals as goal

pub turns-init : goal.turns-init
turns-init c = c.mix_last_row.ensures ∙ sym (mixed_part_none _ _ _ _)

pub turns-preserved : goal.turns-preserved
turns-preserved c =
    let r : ℕ = c.args.r in
    let n : ℕ = 2 ^ c.args.n_log2 in
    let k : ℕ = c.args.k in
    let words : List ℕ = c.args.rows.now in
    let v : ℕ → List ℕ = remade_row r k (rows_of r (div_ceil n k) words) in
    let e : 2 * (c.turns._turn + 1) ≡ 2 * c.turns._turn + 1 + 1 = omega arith in
    step_next r n (2 * c.turns._turn + 1) v _ _ _
    (step_next r n (2 * c.turns._turn) v _ _ _ c.turns.invariant c.mix_with_row.ensures)
    c.mix_with_row-in-turns.ensures
    ∙ ap (mixed_part r n v (last_row_mixed r n k words)) (sym e)

pub returns : goal.returns
returns c =
    let r : ℕ = c.args.r in
    let n : ℕ = 2 ^ c.args.n_log2 in
    let k : ℕ = c.args.k in
    let words : List ℕ = c.args.rows.now in
    let v : ℕ → List ℕ = remade_row r k (rows_of r (div_ceil n k) words) in
    let some : 0 < n = pow_pos c.args.n_log2 in
    let turns : c.turns._turn ≡ c.row_count-turn-end.result / 2 = omega arith in
    let all : 2 * c.turns._turn ≡ n = ap (λ (t : ℕ). 2 * t)
    (turns ∙ ap (λ (m : ℕ). m / 2) c.row_count-turn-end.ensures)
    ∙ even_power c.args.n_log2 c.requires.even in
    mixed_from r n k words _ c.requires.k_positive (omega arith)
    (c.turns.invariant ∙ ap (mixed_part r n v (last_row_mixed r n k words)) all)
