-- Lemmas about the base-2 logarithm of the cost: only cost_log2 satisfies IsCostLog2, and the greatest
-- power of two up to half of the greatest cost gives it.
use Rattle.std.proofs.Common.{◌≡◌, ℕ, ◌+◌, ◌*◌, ◌/◌, ◌^◌, ◌<◌, ◌≤◌, zero, suc, Some, None, inl, inr, false}
use Rattle.std.proofs.Common.{true, max, refl, sym, ap, ◌∙◌, add-one, arith}
use Rattle.std.proofs.Math.Nat.{pow-suc}
use Rattle.std.proofs.Math.Pow.{pow_mono}
use Rattle.std.proofs.lemmas.Bool.{cases_lt, lt-ltb, le-ltb}
use Rattle.std.specs.Prelude.{nat_lt}
use Rattle.std.specs.List.{find, range_with_len}
use Rattle.std.specs.Option.{unwrap_or}
use Rattle.minisign_base.specs.Limits.{IsCostLog2, cost_log2}

-- The search finds the first number of a range whose power of two is above the bound.
find_least : (bound n start len : ℕ) → start ≤ n → n < start + len
    → ((k : ℕ) → start ≤ k → k < n → 2 ^ k ≤ bound) → bound < 2 ^ n
    → find (λ m. nat_lt bound (2 ^ m)) (range_with_len start len) ≡ Some n
find_least bound n start zero from below smaller enough = absurd (omega arith)
find_least bound n start (suc len) from below smaller enough = elim (cases_lt start n) [
  | inl less ↦
      let passes : nat_lt bound (2 ^ start) ≡ false = le-ltb bound (2 ^ start)
      (smaller start (omega arith) less) in
      rw passes (find_least bound n (start + 1) len (omega arith) (omega arith)
      (λ k l. smaller k (omega arith)) enough)
  | inr least ↦
      let same : start ≡ n = omega arith in
      let found : nat_lt bound (2 ^ start) ≡ true = rw same (lt-ltb bound (2 ^ n) enough) in
      rw (found, same) refl
]

-- If no number of a range has a power of two above the bound, the search finds none.
find_none : (bound start len : ℕ) → ((k : ℕ) → start ≤ k → k < start + len → 2 ^ k ≤ bound)
    → find (λ m. nat_lt bound (2 ^ m)) (range_with_len start len) ≡ None
find_none bound start zero smaller = refl
find_none bound start (suc len) smaller =
    let passes : nat_lt bound (2 ^ start) ≡ false = le-ltb bound (2 ^ start)
    (smaller start (omega arith) (omega arith)) in
    rw passes (find_none bound (start + 1) len (λ k l b. smaller k (omega arith) (omega arith)))

-- A number that satisfies IsCostLog2 equals cost_log2.
pub cost_log2_unique : (greatest n : ℕ) → IsCostLog2 greatest n → n ≡ cost_log2 greatest
unfolding cost_log2
cost_log2_unique greatest n least = elim (cases_lt n 63) [
  | inl below ↦
      let enough : greatest / 2 < 2 ^ n = elim least.enough [ inl e ↦ e | inr last ↦ absurd (omega arith) ] in
      sym (ap (λ o. unwrap_or o 63)
      (find_least (greatest / 2) n 1 62 least.from_one (omega arith) least.none_smaller enough))
  | inr above ↦
      let last : n ≡ 63 = omega (arith, least.at_most) in
      last ∙ sym (ap (λ o. unwrap_or o 63)
      (find_none (greatest / 2) 1 62 (λ k l b. least.none_smaller k l (omega arith))))
]

-- The logarithm is one more than that of the greatest power of two up to half of the greatest cost.
pub cost_log2_next : (greatest j : ℕ) → greatest < 2 ^ 59 → 2 ^ j ≤ max (greatest / 2) 1
    → max (greatest / 2) 1 < 2 * 2 ^ j → IsCostLog2 greatest (j + 1)
cost_log2_next greatest j small below above = record {
  from_one = omega arith;
  at_most = elim (cases_lt j 58) [
    | inl l ↦ omega arith
    | inr l ↦ let power : 2 ^ 58 ≤ 2 ^ j = pow_mono {i = 58} {j = j} l in absurd (omega arith)
  ];
  none_smaller = λ k some less.
      let power : 2 ^ k ≤ 2 ^ j = pow_mono {i = k} {j = j} (omega arith) in
      let two : 2 ^ 1 ≤ 2 ^ k = pow_mono {i = 1} {j = k} some in
      omega arith;
  enough = let next : 2 ^ suc j ≡ 2 ^ j * 2 = pow-suc 2 j in inl (rw add-one (omega arith));
}
