-- Proves the goals of `kept_row` that the prover leaves open.
use Rattle.std.proofs.Common.{◌+◌, ◌*◌, ◌/◌, ◌^◌, ◌≤◌, arith}
use Rattle.std.specs.Int.{div_ceil}
use Rattle.minisign_kdf.proofs.Remade.{kept_within}
use Rattle.minisign_kdf.proofs.rom_mix.kept_row.Goals as goal

pub overflow_mul-at : goal.overflow_mul-at
overflow_mul-at c =
    let within : 32 * c.args.r * (c.args.j / c.args.k) + 32 * c.args.r ≤ 32 * c.args.r * div_ceil
    (2 ^ c.args.n_log2) c.args.k =
    kept_within c.args.r (2 ^ c.args.n_log2) c.args.k c.args.j c.requires.k_positive c.requires.j in
    omega arith

pub overflow_add-result : goal.overflow_add-result
overflow_add-result c =
    let within : 32 * c.args.r * (c.args.j / c.args.k) + 32 * c.args.r ≤ 32 * c.args.r * div_ceil
    (2 ^ c.args.n_log2) c.args.k =
    kept_within c.args.r (2 ^ c.args.n_log2) c.args.k c.args.j c.requires.k_positive c.requires.j in
    omega arith

pub offset_bounds-rows-at : goal.offset_bounds-rows-at
offset_bounds-rows-at c =
    let within : 32 * c.args.r * (c.args.j / c.args.k) + 32 * c.args.r ≤ 32 * c.args.r * div_ceil
    (2 ^ c.args.n_log2) c.args.k =
    kept_within c.args.r (2 ^ c.args.n_log2) c.args.k c.args.j c.requires.k_positive c.requires.j in
    omega arith

pub slice_bounds-result-end : goal.slice_bounds-result-end
slice_bounds-result-end c =
    let within : 32 * c.args.r * (c.args.j / c.args.k) + 32 * c.args.r ≤ 32 * c.args.r * div_ceil
    (2 ^ c.args.n_log2) c.args.k =
    kept_within c.args.r (2 ^ c.args.n_log2) c.args.k c.args.j c.requires.k_positive c.requires.j in
    omega arith
