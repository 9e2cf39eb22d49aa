-- Proves the goal of `mix_with_row` that the prover leaves open.
use Rattle.std.proofs.Common.{◌≡◌, ℕ, ◌%◌, ◌^◌, ap}
use Rattle.minisign_kdf.proofs.Remade.{mixed_with_remade}
use Rattle.minisign_kdf.proofs.rom_mix.mix_with_row.Goals as goal

pub returns : goal.returns
returns c =
    let named : c.integerify.result % c.row_count.result ≡ c.integerify.result % 2 ^ c.args.n_log2 = ap
    (λ (m : ℕ). c.integerify.result % m) c.row_count.ensures in
    mixed_with_remade c.args.r c.args.n_log2 c.args.k c.integerify.result _ c.args.rows.now
    c.kept_row-base_row.result.now c.args.x.now _ c.requires.k_positive c.requires.cost c.integerify.ensures
    named
    c.kept_row-base_row.ensures.row c.mix_with_remade.ensures
