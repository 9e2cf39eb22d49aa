-- Proves the goals of `Buffers::new` that the prover leaves open.
use Rattle.std.proofs.Common.{ℕ, ◌*◌, ◌^◌, ◌<◌, arith}
use Rattle.minisign_kdf.proofs.ParamsFacts.{n_log2_small}
use Rattle.minisign_kdf.proofs.key_derivation.Buffers.new.Goals as goal

-- The number of bytes in the parts fits into 64 bits.
part_bytes : (r p : ℕ) → r * p < 2 ^ 30 → 128 * r * p < 2 ^ 37
part_bytes r p small = grind (arith, small)

pub memory_for_rows-requires-clause-cost : goal.memory_for_rows-requires-clause-cost
memory_for_rows-requires-clause-cost c =
    let p = c.args.params.now in
    let small : p.n_log2 < 64 = n_log2_small p c.r-r.ensures.accepted in
    omega arith

pub overflow_mul-r-3 : goal.overflow_mul-r-3
overflow_mul-r-3 c = omega (
  arith,
  part_bytes c.r-r.result c.p-p.result
      (rw (c.r-r.ensures.number, c.p-p.ensures.number) c.r-r.ensures.accepted.product),
)

pub returns-clause-capacity : goal.returns-clause-capacity
returns-clause-capacity c =
    rw (← c.r-r.ensures.number, ← c.n_log2.ensures.number) c.in_ok-rows.ensures.capacity

pub returns-clause-rows_fit : goal.returns-clause-rows_fit
returns-clause-rows_fit c =
    rw (← c.r-r.ensures.number, ← c.n_log2.ensures.number) c.in_ok-rows.ensures.rows_fit

pub returns-clause-parts : goal.returns-clause-parts
returns-clause-parts c = rw (← c.r-r.ensures.number, ← c.p-p.ensures.number) c.in_ok-parts.ensures
