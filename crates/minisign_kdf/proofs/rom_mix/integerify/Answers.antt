-- Proves the goal of `integerify` that the prover leaves open.
use Rattle.std.proofs.Common.{rules, ℕ, ◌<◌, ◌^◌, slice_index}
use Rattle.minisign_kdf.proofs.RowMixing.{integerify_low}
use Rattle.minisign_kdf.proofs.rom_mix.integerify.Goals as goal

pub returns : goal.returns
returns c =
    let fits : (k : ℕ) → slice_index c.args.x.now k < 2 ^ 32 = search rules in
    integerify_low c.args.r c.args.x.now c.from.result c.from-2.result c.requires.r_positive c.requires.x_len
    fits
    c.from.ensures c.from-2.ensures
