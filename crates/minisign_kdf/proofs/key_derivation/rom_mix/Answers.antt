-- Proves the goals of `rom_mix` that the prover leaves open.
use Rattle.std.proofs.Common.{◌≡◌, ℕ, ◌*◌, ◌/◌, ◌^◌, length, ap, ◌∙◌, arith}
use Rattle.std.specs.Int.{div_ceil}
use Rattle.minisign_kdf.specs.Kept.{rows_of}
use Rattle.minisign_kdf.proofs.key_derivation.rom_mix.Goals as goal

pub mix_kept-requires-clause-rows_len : goal.mix_kept-requires-clause-rows_len
mix_kept-requires-clause-rows_len g c =
    let count : ℕ = div_ceil (2 ^ c.args.n_log2) c.args.k in
    let size : 128 * (length c.args.part.now / 128) ≡ length c.args.part.now = omega arith in
    let words : length c.words.result.now ≡ 32 * (length c.args.part.now / 128) * count = c.words.ensures.len
    ∙ c.keep_rows.ensures.len in
    let bytes : 4 * (32 * (length c.args.part.now / 128) * count) ≡ length c.args.part.now * count =
    (let turned : 4 * (32 * (length c.args.part.now / 128) * count)
    ≡ 128 * (length c.args.part.now / 128) * count = grind arith in
    turned ∙ ap (λ (m : ℕ). m * count) size) in
    omega arith

pub returns-clause-mixed : goal.returns-clause-mixed
returns-clause-mixed g c =
    let n : ℕ = 2 ^ c.args.n_log2 in
    let r : ℕ = length c.args.part.now / 128 in
    c.mix_kept.ensures.standard c.args.part.now
    (ap (rows_of r (div_ceil n c.args.k)) c.words.ensures.value ∙ c.keep_rows.ensures.rows)
