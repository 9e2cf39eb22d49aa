-- Lemmas about accepted parameters.
use Rattle.std.proofs.Common.{◌≡◌, ℕ, ◌+◌, ◌*◌, ◌^◌, ◌<◌, ◌≤◌, inl, inr, arith}
use Rattle.std.proofs.Math.Nat.{mul-le-mul}
use Rattle.std.proofs.Math.Pow.{pow_mono}
use Rattle.std.proofs.lemmas.Bool.{cases_lt}
use Rattle.std.proofs.lemmas.Grind.{div_ceil_times}
use Rattle.std.specs.Int.{div_ceil}
use Rattle.minisign_kdf.specs.Params.{IsAccepted, Numbers}

-- If N is at least 2 ^ 64, the number of bytes in the rows does not fit into 64 bits.
pub table_full : (n r : ℕ) → 1 ≤ r → 64 ≤ n → 2 ^ 64 ≤ 128 * r * 2 ^ n
table_full n r some many =
    let power : 2 ^ 64 ≤ 2 ^ n = pow_mono {i = 64} {j = n} many in
    let least : 1 * 2 ^ 64 ≤ 128 * r * 2 ^ n = mul-le-mul {n₁ = 1} {m₁ = 2 ^ 64} {n₂ = 128 * r} {m₂ = 2 ^ n}
    (omega arith) power in
    omega arith

pub n_log2_small : (v : Numbers) → IsAccepted v → v.n_log2 < 64
n_log2_small v a = elim (cases_lt v.n_log2 64) [
  | inl h ↦ h
  | inr h ↦ let full = table_full v.n_log2 v.r a.block_size h in let table = a.table in absurd (omega arith)
]

-- At most n of n rows are kept.
pub kept_count_at_most : (n k : ℕ) → 1 ≤ k → div_ceil n k ≤ n
kept_count_at_most n k some = elim (cases_lt n (div_ceil n k)) [
  | inl above ↦
      let c : ℕ = div_ceil n k in
      let below : c * k < n + k = (div_ceil_times n k (omega arith)).1 in
      let all : (n + 1) * k ≤ c * k = mul-le-mul {n₁ = n + 1} {m₁ = k} {n₂ = c} {m₂ = k} (omega arith)
      (omega arith) in
      let each : n * 1 ≤ n * k = mul-le-mul {n₁ = n} {m₁ = 1} {n₂ = n} {m₂ = k} (omega arith) some in
      let next : (n + 1) * k ≡ n * k + k = grind arith in
      absurd (omega arith)
  | inr within ↦ omega arith
]

-- The number of words that are needed fits into 64 bits.
pub words_small : (v : Numbers) (count : ℕ) → IsAccepted v → count ≤ 2 ^ v.n_log2
    → 32 * v.r * (count + 3) < 2 ^ 63
words_small v count a few =
    let r : ℕ = v.r in
    let n : ℕ = 2 ^ v.n_log2 in
    let one : r * 1 ≤ r * v.p = mul-le-mul {n₁ = r} {m₁ = 1} {n₂ = r} {m₂ = v.p}
    (omega arith) a.parallelization in
    let small : r * v.p < 2 ^ 30 = a.product in
    let kept : 32 * r * count ≤ 32 * r * n = mul-le-mul {n₁ = 32 * r} {m₁ = count} {n₂ = 32 * r} {m₂ = n}
    (omega arith) few in
    let table : 128 * r * n < 2 ^ 64 = a.table in
    let quarter : 128 * r * n ≡ 4 * (32 * r * n) = grind arith in
    let split : 32 * r * (count + 3) ≡ 32 * r * count + 96 * r = grind arith in
    omega arith
