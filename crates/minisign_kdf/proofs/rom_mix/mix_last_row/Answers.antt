-- Proves the goals of `mix_last_row` that the prover leaves open.
use Rattle.std.proofs.Common.{◌≡◌, ℕ, ◌+◌, ◌-◌, ◌*◌, ◌^◌, ◌<◌, ◌≤◌, ap, ◌∙◌, List, refl, arith, pow_pos}
use Rattle.std.specs.Int.{div_ceil}
use Rattle.minisign_kdf.specs.Blocks.{block}
use Rattle.minisign_kdf.specs.Diagonal.{diagonal_bytes}
use Rattle.minisign_kdf.specs.Scrypt.{row_at}
use Rattle.minisign_kdf.proofs.Blocks.{block_end, length_end, row_before}
use Rattle.minisign_kdf.proofs.Kept.{last_kept_row_exists, kept_count_positive}
use Rattle.minisign_kdf.proofs.rom_mix.mix_last_row.Goals as goal

-- The last kept row is one of the N rows, and within the words.
last_below : (n k count : ℕ) → 1 ≤ k → 0 < n → count ≡ div_ceil n k → k * (count - 1) < n
last_below n k count some rows e = rw e (last_kept_row_exists n k some rows)

last_within : (r n k count : ℕ) → 1 ≤ k → 0 < n → count ≡ div_ceil n k → 32 * r * (count - 1) + 32 * r
    ≤ 32 * r * div_ceil n k
last_within r n k count some rows e = rw e
    (row_before (32 * r) (div_ceil n k) (div_ceil n k - 1) (omega (arith, kept_count_positive n k some rows)))

pub overflow_sub-last : goal.overflow_sub-last
overflow_sub-last c = omega
    (arith, kept_count_positive (2 ^ c.args.n_log2) c.args.k c.requires.k_positive (pow_pos c.args.n_log2))

pub overflow_mul-times : goal.overflow_mul-times
overflow_mul-times c = omega (
  arith,
  last_below (2 ^ c.args.n_log2) c.args.k c.kept_count-last.result c.requires.k_positive
      (pow_pos c.args.n_log2) c.kept_count-last.ensures,
)

pub overflow_sub-times : goal.overflow_sub-times
overflow_sub-times c = omega (
  arith,
  last_below (2 ^ c.args.n_log2) c.args.k c.kept_count-last.result c.requires.k_positive
      (pow_pos c.args.n_log2) c.kept_count-last.ensures,
)

pub mix_times-requires-clause-times : goal.mix_times-requires-clause-times
mix_times-requires-clause-times c = omega (
  arith,
  last_below (2 ^ c.args.n_log2) c.args.k c.kept_count-last.result c.requires.k_positive
      (pow_pos c.args.n_log2) c.kept_count-last.ensures,
)

pub overflow_mul-r-2 : goal.overflow_mul-r-2
overflow_mul-r-2 c = omega (
  arith,
  last_within c.args.r (2 ^ c.args.n_log2) c.args.k c.kept_count-last.result c.requires.k_positive
      (pow_pos c.args.n_log2) c.kept_count-last.ensures,
)

pub offset_bounds-rows-r : goal.offset_bounds-rows-r
offset_bounds-rows-r c = omega (
  arith,
  last_within c.args.r (2 ^ c.args.n_log2) c.args.k c.kept_count-last.result c.requires.k_positive
      (pow_pos c.args.n_log2) c.kept_count-last.ensures,
)

pub slice_bounds-mix_times-start : goal.slice_bounds-mix_times-start
slice_bounds-mix_times-start c = omega (
  arith,
  last_within c.args.r (2 ^ c.args.n_log2) c.args.k c.kept_count-last.result c.requires.k_positive
      (pow_pos c.args.n_log2) c.kept_count-last.ensures,
)

pub mix_times-requires-clause-from_len : goal.mix_times-requires-clause-from_len
mix_times-requires-clause-from_len c =
    let n : ℕ = 2 ^ c.args.n_log2 in
    let some : 0 < n = pow_pos c.args.n_log2 in
    let base_row : 0 < div_ceil n c.args.k =
    kept_count_positive n c.args.k c.requires.k_positive (omega arith) in
    length_end (32 * c.args.r) (div_ceil n c.args.k) _ c.args.rows.now c.requires.rows_len (omega arith)
    (ap (λ (m : ℕ). 32 * c.args.r * (m - 1)) c.kept_count-last.ensures)

pub returns : goal.returns
returns c =
    let r : ℕ = c.args.r in
    let n : ℕ = 2 ^ c.args.n_log2 in
    let k : ℕ = c.args.k in
    let some : 0 < n = pow_pos c.args.n_log2 in
    let base_row : 0 < div_ceil n k = kept_count_positive n k c.requires.k_positive (omega arith) in
    let times : c.row_count.result - k * (c.kept_count-last.result - 1) ≡ n - k * (div_ceil n k - 1) =
    (λ t. c.row_count.ensures t - k * (c.kept_count-last.ensures t - 1)) in
    c.mix_times.ensures
    ∙ ap (λ (l : List ℕ). row_at r (diagonal_bytes l)
    (c.row_count.result - k * (c.kept_count-last.result - 1)))
    (block_end (32 * r) (div_ceil n k) _ _ c.args.rows.now c.requires.rows_len (omega arith)
    (ap (λ (m : ℕ). 32 * r * (m - 1)) c.kept_count-last.ensures) refl)
    ∙ ap (row_at r (diagonal_bytes (block (32 * r) c.args.rows.now (div_ceil n k - 1)))) times
