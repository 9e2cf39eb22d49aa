-- Proves the goal of `greatest_p` that the prover leaves open.
use Rattle.std.proofs.Common.{arith, ◌≡◌, ℕ, ◌-◌, ◌*◌, ◌/◌, ◌^◌, ◌<◌, ◌≤◌, min, nat_lt}
use Rattle.std.proofs.Math.Nat.{div-lt_iff_lt-mul, mul-le-mul, mul_comm}
use Rattle.std.proofs.lemmas.Bool.{lt-ltb, ltb-true, ltb_from_iff}
use Rattle.std.proofs.lemmas.Nat.{pow_pos}
use Rattle.minisign.proofs.opening.greatest_p.Goals as goal

-- The p parts of 2 ^ n rows each have at most `most` rows exactly if p is at most m, which is `most / 2 ^ n`
-- limited to 32 bits.
bound_on_p : (most n p m : ℕ) → p < 2 ^ 30 → m ≡ min (most / 2 ^ n) (2 ^ 32 - 1)
    → nat_lt m p ≡ nat_lt most (2 ^ n * p)
bound_on_p most n p m small is =
    let turned = mul_comm (2 ^ n) p in
    ltb_from_iff (
      λ h. let below = ltb-true m p h in
          let within : most / 2 ^ n < p = omega (arith, is, below, small) in
          let all : most < p * 2 ^ n = (div-lt_iff_lt-mul {k = 2 ^ n} {x = most} {y = p} (pow_pos n)).0
          within in
          omega (arith, all, turned),
      λ h. let all : most < p * 2 ^ n = omega (arith, h, turned) in
          let within : most / 2 ^ n < p = (div-lt_iff_lt-mul {k = 2 ^ n} {x = most} {y = p} (pow_pos n)).1
          all in
          lt-ltb m p (omega (arith, is, within)),
    )

-- An accepted parallelization is below 2 ^ 30.
few_parts : (r p : ℕ) → 1 ≤ r → r * p < 2 ^ 30 → p < 2 ^ 30
few_parts r p some small =
    let one = mul-le-mul {n₁ = 1} {m₁ = p} {n₂ = r} {m₂ = p} some (omega arith) in
    omega (arith, one, small)

pub returns : goal.returns
returns c =
    let v = c.args.params.now in
    bound_on_p _ _ _ _ (few_parts _ _ c.n_log2.ensures.accepted.block_size c.n_log2.ensures.accepted.product)
    (grind arith)
