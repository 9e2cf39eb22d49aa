-- Lemmas about hexadecimal digits with leading zeros.
use Rattle.std.proofs.Common.{◌≡◌, ℕ, zero, suc, ◌+◌, ◌-◌, ◌/◌, ◌%◌, ◌^◌, ◌<◌, ◌≤◌, ◌==◌, true, false, List}
use Rattle.std.proofs.Common.{[], ◌∷◌, ◌++◌, length, replicate, cond, refl, sym, ◌∙◌, ap, add-one}
use Rattle.std.proofs.Common.{append_assoc, append-nil, arith, lit<}
use Rattle.std.proofs.lemmas.Bool.{eqb-true}
use Rattle.std.proofs.lemmas.Grind.{common_steps}
use Rattle.std.proofs.lemmas.List.{append_assoc, replicate_more}
use Rattle.std.specs.Fmt.{char_count, digit_glyph, digits, digits_onto, format_spec, padded_integral}
use Rattle.std.specs.Int.{from_le_bytes, w64}
use Rattle.minisign_base.specs.KeyIds.{key_id_text, last_digits}

-- All digits of zero are zeros.
last_digits_of_zero : (places : ℕ) (behind : List ℕ) → last_digits places 0 behind ≡ replicate places 48
    ++ behind
last_digits_of_zero zero behind = refl
last_digits_of_zero (suc places) behind =
    last_digits_of_zero places (48 ∷ behind) ∙ sym (append_assoc (replicate places 48) (48 ∷ []) behind)
    ∙ ap (λ (z : List ℕ). z ++ behind)
    (replicate_more places 48 ∙ ap (λ (k : ℕ). replicate k 48) (add-one places))

-- If a number of at most p + 1 hexadecimal digits has more than one digit, p is not zero.
two_places : (p n : ℕ) → (n / 16 == 0) ≡ false → n < 16 ^ suc p → 0 < p
two_places zero n some h = grind (arith, common_steps)
two_places (suc p) n some h = omega arith

-- The digits of a number, filled up with leading zeros, are its last digits.
filled_up : (places fuel n : ℕ) (behind : List ℕ) → n < 16 ^ places → places ≤ fuel → 0 < places
    → replicate (places + length behind - length (digits_onto fuel 16 true n behind)) 48
    ++ digits_onto fuel 16 true n behind ≡ last_digits places n behind
filled_up zero fuel n behind h l some = absurd (omega (arith, some))
filled_up (suc p) zero n behind h l some = absurd (omega (arith, l))
filled_up (suc p) (suc fuel) n behind h l some =
    let digit = digit_glyph true (n % 16) in
    let count = suc p + length behind in
    let next = digits_onto fuel 16 true (n / 16) (digit ∷ behind) in
    elim (n / 16 == 0) as (λ b. (n / 16 == 0) ≡ b
    → replicate (count - length (cond b (digit ∷ behind) next)) 48 ++ cond b (digit ∷ behind) next
    ≡ last_digits p (n / 16) (digit ∷ behind)) [
      | true ↦ λ e.
          ap (λ k. replicate k 48 ++ digit ∷ behind) (omega arith)
          ∙ sym (last_digits_of_zero p (digit ∷ behind))
          ∙ ap (λ k. last_digits p k (digit ∷ behind)) (sym (eqb-true (n / 16) 0 e))
      | false ↦ λ e.
          ap (λ k. replicate (k - length next) 48 ++ next) (omega arith)
          ∙ filled_up p fuel (n / 16) (digit ∷ behind) (omega (arith, h)) (omega (arith, l))
          (two_places p n e h)
    ] refl

-- The padding that `{:016X}` writes before and after the digits.
padded_sixteen : (numeral : List ℕ) → padded_integral (format_spec 32 0 4 16 (2 ^ 64 - 1)) false [] numeral
    ≡ replicate (16 - length numeral) 48 ++ numeral
unfolding padded_integral char_count
padded_sixteen numeral =
    let count : 16 - length numeral - 0 - 0 ≡ 16 - length numeral = omega arith in
    ap (λ (k : ℕ). replicate k 48 ++ (numeral ++ [])) count
    ∙ ap (λ (z : List ℕ). replicate (16 - length numeral) 48 ++ z) (append-nil numeral)

-- The text of a key ID consists of the last 16 digits of the number that its bytes encode.
pub key_id_by_digits : (id : List ℕ) → from_le_bytes w64 id < 2 ^ 64
    → key_id_text id ≡ last_digits 16 (from_le_bytes w64 id) []
unfolding key_id_text digits
key_id_by_digits id h =
    let n = from_le_bytes w64 id in
    padded_sixteen (digits_onto 64 16 true n []) ∙ filled_up 16 64 n [] h (lit< tt) (lit< tt)
