-- Proves the goals of `mix_kept` that the prover leaves open.
use Rattle.std.proofs.Common.{◌≡◌, ℕ, ◌*◌, ◌/◌, ◌^◌, ◌<◌, length, ap, ◌∙◌, arith, pow_pos}
use Rattle.std.specs.Int.{div_ceil}
use Rattle.minisign_kdf.specs.Kept.{rom_mix_from, rows_of}
use Rattle.minisign_kdf.proofs.Kept.{rom_mix_from-kept_rows}
use Rattle.minisign_kdf.proofs.rom_mix.mix_kept.Goals as goal

pub mix_with_rows-requires-clause-rows_len : goal.mix_with_rows-requires-clause-rows_len
mix_with_rows-requires-clause-rows_len c =
    let count : ℕ = div_ceil (2 ^ c.args.n_log2) c.args.k in
    let size : length c.args.out.now ≡ 128 * (length c.args.out.now / 4 / 32) = omega arith in
    let words : 4 * length c.args.rows.now ≡ 4 * (32 * (length c.args.out.now / 4 / 32) * count) =
    c.requires.rows_len ∙ ap (λ (m : ℕ). m * count) size ∙ grind arith in
    omega arith

pub returns-clause-mixed : goal.returns-clause-mixed
returns-clause-mixed c =
    let n : ℕ = 2 ^ c.args.n_log2 in
    let k : ℕ = c.args.k in
    let size : length c.args.out.now / 4 / 32 ≡ length c.args.out.now / 128 = omega arith in
    c.store_part.ensures ∙ c.mix_with_rows.ensures
    ∙ ap (λ (r : ℕ). rom_mix_from r n k (rows_of r (div_ceil n k) c.args.rows.now)) size

pub returns-clause-standard : goal.returns-clause-standard
returns-clause-standard c = λ b filled.
    let n : ℕ = 2 ^ c.args.n_log2 in
    let k : ℕ = c.args.k in
    let r : ℕ = length c.args.out.now / 128 in
    let some : 0 < n = pow_pos c.args.n_log2 in
    let size : length c.args.out.now / 4 / 32 ≡ r = omega arith in
    c.store_part.ensures ∙ c.mix_with_rows.ensures
    ∙ ap (λ (m : ℕ). rom_mix_from m n k (rows_of m (div_ceil n k) c.args.rows.now)) size
    ∙ ap (rom_mix_from r n k) filled ∙ rom_mix_from-kept_rows r n k b c.requires.k_positive (omega arith)
