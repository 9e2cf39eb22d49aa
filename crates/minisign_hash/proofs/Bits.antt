-- Lemmas about a bitwise exclusive or, or a bitwise or, that is zero.
use Rattle.std.proofs.Common.{◌≡◌, ℕ, ◌∙◌, bit_or, bit_xor, sym, ap, arith}
use Rattle.std.proofs.lemmas.Nat.{le_or_l, le_or_r}
use Rattle.std.specs.Int.Bits.{xor_assoc, xor_self, xor_zero_l, xor_zero_r}

-- Numbers whose exclusive or is zero are equal.
pub same_from_xor : (x y : ℕ) → bit_xor x y ≡ 0 → x ≡ y
same_from_xor x y h =
    sym (xor_zero_r x) ∙ ap (bit_xor x) (sym h) ∙ sym (xor_assoc x x y) ∙ ap (λ (n : ℕ). bit_xor n y)
    (xor_self x) ∙ xor_zero_l y

-- The exclusive or of equal numbers is zero.
pub xor_from_same : (x y : ℕ) → x ≡ y → bit_xor x y ≡ 0
xor_from_same x y e = ap (bit_xor x) (sym e) ∙ xor_self x

-- If the bitwise or of two numbers is zero, the left number is zero.
pub left_from_or : (x y : ℕ) → bit_or x y ≡ 0 → x ≡ 0
left_from_or x y h = omega (arith, le_or_l x y)

-- If the bitwise or of two numbers is zero, the right number is zero.
pub right_from_or : (x y : ℕ) → bit_or x y ≡ 0 → y ≡ 0
right_from_or x y h = omega (arith, le_or_r x y)
