-- Lemmas about the last block as a number, repeated mixing, and the second loop of scryptROMix.
use Rattle.std.proofs.Common.{◌≡◌, ℕ, zero, suc, ◌+◌, ◌-◌, ◌*◌, ◌/◌, ◌%◌, ◌^◌, ◌<◌, ◌≤◌, List, length, take}
use Rattle.std.proofs.Common.{drop, slice_index, bit_xor, lit<, refl, sym, ap, ◌∙◌, arith, add-one, add-zero}
use Rattle.std.proofs.Common.{mod-lt}
use Rattle.std.proofs.Math.Nat.{mod-mod, mul-add-mod_self_right, pow-succ'}
use Rattle.std.proofs.lemmas.List.{get_or-drop, get_or-take}
use Rattle.std.proofs.lemmas.Nat.{mod-pow-add}
use Rattle.std.specs.Simd.Lanes.{zip2}
use Rattle.minisign_kdf.specs.Diagonal.{diagonal_bytes}
use Rattle.minisign_kdf.specs.Kept.{integerify}
use Rattle.minisign_kdf.specs.Scrypt.{block_mix, mixed_part, row_at}
use Rattle.minisign_kdf.proofs.Diagonal.{low_bits_places}
use Rattle.minisign_kdf.proofs.Ordered.{block-diagonal_bytes}

-- == The last block as a number ==

pub integerify_low : (r : ℕ) (xs : List ℕ) (x y : ℕ) → 1 ≤ r → length xs ≡ 32 * r
    → ((i : ℕ) → slice_index xs i < 2 ^ 32)
    → x ≡ slice_index xs (32 * r - 16) → y ≡ slice_index xs (32 * r - 16 + 13) → x + y * 2 ^ 32 % 2 ^ 64
    ≡ integerify r (diagonal_bytes xs) % 2 ^ 64
integerify_low r xs x y some len fits ex ey =
    let n : ℕ = 32 * r - 16 in
    let at : 16 * (2 * r - 1) ≡ n = omega arith in
    let last : List ℕ = take 16 (drop n xs) in
    let first : slice_index last 0 ≡ x = get_or-take 16 (drop n xs) 0 0 (lit< tt) ∙ get_or-drop n xs 0 0
    ∙ ap (slice_index xs) (add-zero n) ∙ sym ex in
    let second : slice_index last 13 ≡ y = get_or-take 16 (drop n xs) 13 0 (lit< tt) ∙ get_or-drop n xs 13 0
    ∙ sym ey in
    let fx : slice_index last 0 < 2 ^ 32 = rw (first, ex) (fits n) in
    let fy : slice_index last 13 < 2 ^ 32 = rw (second, ey) (fits (n + 13)) in
    rw (block-diagonal_bytes xs (2 * r) (2 * r - 1) (omega arith) (omega arith), at)
    (sym (low_bits_places last fx fy ∙ (λ t. first t + second t * 2 ^ 32 % 2 ^ 64)))

-- Reducing a number modulo 2 ^ 64 does not change its lowest k bits, for k below 64.
pub mod_64 : (m k : ℕ) → k < 64 → m % 2 ^ 64 % 2 ^ k ≡ m % 2 ^ k
mod_64 m k lt =
    let e : 64 ≡ 64 - k + k = omega arith in
    ap (λ (j : ℕ). m % 2 ^ j % 2 ^ k) e ∙ ap (λ (j : ℕ). j % 2 ^ k) (mod-pow-add m (64 - k) k)
    ∙ mul-add-mod_self_right (m / 2 ^ k % 2 ^ (64 - k)) (2 ^ k) (m % 2 ^ k) ∙ mod-mod m (2 ^ k)

-- == Repeated mixing ==

pub row_at_none : (r : ℕ) (b : List ℕ) → row_at r b 0 ≡ b
unfolding row_at
row_at_none r b = refl

-- Mixing row m gives row m + 1.
pub row_at_more : (r m : ℕ) (b x z : List ℕ) → x ≡ row_at r b m → z ≡ block_mix r x → z ≡ row_at r b (m + 1)
unfolding row_at
row_at_more r m b x z ex ez = rw add-one (ez ∙ ap (block_mix r) ex)

-- == The second loop ==

pub mixed_part_none : (r n : ℕ) (v : ℕ → List ℕ) (x : List ℕ) → mixed_part r n v x 0 ≡ x
unfolding mixed_part
mixed_part_none r n v x = refl

-- One step of the second loop gives X after t + 1 steps from X after t steps.
pub step_next : (r n t : ℕ) (v : ℕ → List ℕ) (x0 x z : List ℕ) → x ≡ mixed_part r n v x0 t
    → z ≡ block_mix r (zip2 bit_xor x (v (integerify r x % n))) → z ≡ mixed_part r n v x0 (t + 1)
unfolding mixed_part
step_next r n t v x0 x z ex ez = rw add-one
    (ez ∙ ap (λ (l : List ℕ). block_mix r (zip2 bit_xor l (v (integerify r l % n)))) ex)

-- 2 ^ k is even for k of at least 1, so that the code can make two steps in each iteration of its
-- loop.
pub even_power : (k : ℕ) → 1 ≤ k → 2 * (2 ^ k / 2) ≡ 2 ^ k
even_power k some =
    let e : k ≡ suc (k - 1) = omega arith in
    let twice : 2 ^ k ≡ 2 * 2 ^ (k - 1) = ap (λ (j : ℕ). 2 ^ j) e ∙ pow-succ' 2 (k - 1) in
    omega arith

-- The second loop reads only rows below n.
pub mixed_part_same : (r n : ℕ) (v w : ℕ → List ℕ) (x : List ℕ) (t : ℕ) → 0 < n
    → ((j : ℕ) → j < n → v j ≡ w j) → mixed_part r n v x t ≡ mixed_part r n w x t
unfolding mixed_part
mixed_part_same r n v w x zero some same = refl
mixed_part_same r n v w x (suc t) some same =
    let before : mixed_part r n v x t ≡ mixed_part r n w x t = mixed_part_same r n v w x t some same in
    let j : ℕ = integerify r (mixed_part r n v x t) % n in
    ap (λ (l : List ℕ). block_mix r (zip2 bit_xor (mixed_part r n v x t) l)) (same j (mod-lt _ some))
    ∙ ap (λ (l : List ℕ). block_mix r (zip2 bit_xor l (w (integerify r l % n)))) before
