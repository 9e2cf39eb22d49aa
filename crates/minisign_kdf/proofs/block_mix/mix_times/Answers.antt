-- Proves the goals of `mix_times` that the prover leaves open.
use Rattle.std.proofs.Common.{◌≡◌, ℕ, List, ◌+◌, ◌-◌, ◌*◌, ◌%◌, ap, ◌∙◌, arith}
use Rattle.minisign_kdf.specs.Diagonal.{diagonal_bytes}
use Rattle.minisign_kdf.specs.Scrypt.{row_at}
use Rattle.minisign_kdf.proofs.RowMixing.{row_at_more}
use Rattle.minisign_kdf.proofs.block_mix.mix_times.Goals as goal

pub pairs-init : goal.pairs-init
pairs-init c =
    let r : ℕ = c.args.r in
    let b : List ℕ = diagonal_bytes c.args.from.now in
    let first : 2 - c.args.times % 2 ≡ 2 - c.args.times % 2 + 2 * 0 = omega arith in
    c.begin_mixing.ensures ∙ ap (row_at r b) first

pub pairs-preserved : goal.pairs-preserved
pairs-preserved c =
    let r : ℕ = c.args.r in
    let b : List ℕ = diagonal_bytes c.args.from.now in
    let m : ℕ = 2 - c.args.times % 2 + 2 * c.pairs._pair in
    let next : m + 1 + 1 ≡ 2 - c.args.times % 2 + 2 * (c.pairs._pair + 1) = omega arith in
    row_at_more r (m + 1) b _ _ (row_at_more r m b _ _ c.pairs.invariant c.block_mix.ensures)
    c.block_mix-in-pairs.ensures
    ∙ ap (row_at r b) next

pub returns : goal.returns
returns c =
    let r : ℕ = c.args.r in
    let b : List ℕ = diagonal_bytes c.args.from.now in
    let all : 2 - c.args.times % 2 + 2 * c.pairs._pair ≡ c.args.times = omega arith in
    c.pairs.invariant ∙ ap (row_at r b) all
