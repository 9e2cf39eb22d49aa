-- scryptROMix with r = 1 and N = 16, in a form that computes each row V_j and each X once. The
-- checker has enough memory for this form, but not for the definition, which computes a row again
-- each time it is used.
use Rattle.std.proofs.Common.{◌≡◌, ◌∙◌, ap, sym, refl, arith, ℕ, zero, suc, ◌<◌, ◌%◌, List, [], ◌∷◌, bit_xor}
use Rattle.std.specs.Simd.Lanes.{zip2, number_l}
use Rattle.minisign_kdf.specs.Blocks.{block}
use Rattle.minisign_kdf.specs.Scrypt.{block_mix, mixed_part, rom_mix, row_at}

-- n rows, of which b is the first.
abbrev pub rows : ℕ → List ℕ → List (List ℕ)
rows zero b = []
rows (suc n) b = b ∷ rows n (block_mix 1 b)

-- Row number j.
abbrev pub row : List (List ℕ) → ℕ → List ℕ
row [] j = []
row (first ∷ later) zero = first
row (first ∷ later) (suc j) = row later j

-- X after one step.
abbrev pub step : List (List ℕ) → List ℕ → List ℕ
step v x = block_mix 1 (zip2 bit_xor x (row v (number_l 256 (block 64 x 1) % 16)))

-- X after t steps.
abbrev pub steps : List (List ℕ) → List ℕ → ℕ → List ℕ
steps v x zero = x
steps v x (suc t) = step v (steps v x t)

-- At the start of the second loop, X is row number 16.
abbrev pub mixed : List (List ℕ) → List ℕ
mixed v = steps v (row v 16) 16

row_after : (b : List ℕ) (j : ℕ) → row_at 1 (block_mix 1 b) j ≡ row_at 1 b (suc j)
unfolding row_at
row_after b zero = refl
row_after b (suc j) = ap (block_mix 1) (row_after b j)

is_row : (n j : ℕ) (b : List ℕ) → j < n → row (rows n b) j ≡ row_at 1 b j
unfolding row_at
is_row zero j b l = absurd (omega (arith, l))
is_row (suc n) zero b l = refl
is_row (suc n) (suc j) b l = is_row n j (block_mix 1 b) (omega (arith, l)) ∙ row_after b j

is_mixed_part : (b x : List ℕ) (t : ℕ) → mixed_part 1 16 (row_at 1 b) x t ≡ steps (rows 17 b) x t
unfolding mixed_part
is_mixed_part b x zero = refl
is_mixed_part b x (suc t) =
    let y = steps (rows 17 b) x t in
    let j = number_l 256 (block 64 y 1) % 16 in
    ap (λ z. block_mix 1 (zip2 bit_xor z (row_at 1 b (number_l 256 (block 64 z 1) % 16))))
    (is_mixed_part b x t)
    ∙ ap (λ v. block_mix 1 (zip2 bit_xor y v)) (sym (is_row 17 j b (omega arith)))

pub rom_mix-once : (b : List ℕ) → rom_mix 1 16 b ≡ mixed (rows 17 b)
unfolding rom_mix
rom_mix-once b =
    is_mixed_part b (row_at 1 b 16) 16
    ∙ ap (λ x. steps (rows 17 b) x 16) (sym (is_row 17 16 b (omega arith)))
