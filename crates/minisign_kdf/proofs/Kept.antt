-- Proof that scryptROMix, computed from the kept rows, is scryptROMix of RFC 7914.
use Rattle.std.proofs.Common.{◌≡◌, ℕ, zero, suc, ◌+◌, ◌-◌, ◌*◌, ◌/◌, ◌%◌, ◌<◌, ◌≤◌, List, [], length, get_or}
use Rattle.std.proofs.Common.{inl, inr, sym, ap, ◌∙◌, arith, add-zero, zero-add}
use Rattle.std.proofs.Math.Nat.{div-lt_iff_lt-mul, mul_comm, mul-suc}
use Rattle.std.proofs.lemmas.Bool.{cases_lt}
use Rattle.std.proofs.lemmas.Grind.{div_ceil_times}
use Rattle.std.proofs.lemmas.List.{get_or-map}
use Rattle.std.proofs.lemmas.List.FromFn.{get_or-range_with_len, length-map-range_with_len}
use Rattle.std.proofs.lemmas.List.FromFn.{length-range_with_len}
use Rattle.std.specs.Int.{div_ceil}
use Rattle.std.specs.List.{range_with_len}
use Rattle.minisign_kdf.specs.Kept.{kept_rows, remade_row, rom_mix_from}
use Rattle.minisign_kdf.specs.Scrypt.{block_mix, mixed_part, rom_mix, row_at}
use Rattle.minisign_kdf.proofs.RowMixing.{mixed_part_same}

-- Mixing i times and then j times is mixing i + j times.
pub row_at-add : (r : ℕ) (b : List ℕ) (i j : ℕ) → row_at r (row_at r b i) j ≡ row_at r b (i + j)
unfolding row_at
row_at-add r b i zero = ap (row_at r b) (sym (add-zero i))
row_at-add r b i (suc j) =
    let e : i + suc j ≡ suc (i + j) = omega arith in
    ap (block_mix r) (row_at-add r b i j) ∙ ap (row_at r b) (sym e)

-- The kept rows cover all rows below n, and the last one is below n.
count_covers : (n k : ℕ) → 1 ≤ k → n ≤ k * div_ceil n k
count_covers n k some =
    let turned : k * div_ceil n k ≡ div_ceil n k * k = mul_comm k (div_ceil n k) in
    omega (arith, (div_ceil_times n k (omega arith)).0)

pub kept_count_positive : (n k : ℕ) → 1 ≤ k → 1 ≤ n → 0 < div_ceil n k
kept_count_positive n k some rows = elim (cases_lt 0 (div_ceil n k)) [
  | inl kept_rows_now ↦ kept_rows_now
  | inr none ↦
      let zero_is : div_ceil n k ≡ 0 = omega arith in
      let above : n ≤ k * div_ceil n k = count_covers n k some in
      let nothing : k * div_ceil n k ≡ k * 0 = ap (λ (m : ℕ). k * m) zero_is in
      absurd (omega arith)
]

pub last_kept_row_exists : (n k : ℕ) → 1 ≤ k → 1 ≤ n → k * (div_ceil n k - 1) < n
last_kept_row_exists n k some rows =
    let c : ℕ = div_ceil n k in
    let turned : k * c ≡ c * k = mul_comm k c in
    let below : c * k < n + k = (div_ceil_times n k (omega arith)).1 in
    let kept_rows_now : 0 < c = kept_count_positive n k some rows in
    let one : c ≡ suc (c - 1) = omega arith in
    let next : k * c ≡ k * (c - 1) + k = ap (λ (m : ℕ). k * m) one ∙ mul-suc k (c - 1) in
    omega arith

-- For each row j below n, the kept row with number j / k exists.
pub quotient_kept : (n k j : ℕ) → 1 ≤ k → j < n → j / k < div_ceil n k
quotient_kept n k j some lt =
    let c : ℕ = div_ceil n k in
    let covers : n ≤ k * c = count_covers n k some in
    let below : j < c * k = grind arith in
    (div-lt_iff_lt-mul {k = k} {x = j} {y = c} (omega arith)).1 below

-- Kept row number i is row k * i.
kept_row : (r n k : ℕ) (b : List ℕ) (i : ℕ) → i < div_ceil n k → get_or (kept_rows r n k b) i []
    ≡ row_at r b (k * i)
unfolding kept_rows
kept_row r n k b i lt =
    let c : ℕ = div_ceil n k in
    let within : i < length (range_with_len 0 c) = omega (arith, length-range_with_len 0 c) in
    get_or-map (λ (j : ℕ). row_at r b (k * j)) (range_with_len 0 c) i 0 [] within
    ∙ ap (λ (j : ℕ). row_at r b (k * j)) (get_or-range_with_len 0 c i 0 lt ∙ zero-add i)

length-kept_rows : (r n k : ℕ) (b : List ℕ) → length (kept_rows r n k b) ≡ div_ceil n k
unfolding kept_rows
length-kept_rows r n k b = length-map-range_with_len (λ (i : ℕ). row_at r b (k * i)) 0 (div_ceil n k)

-- Each row below n can be computed again from the kept rows.
remade : (r n k : ℕ) (b : List ℕ) → 1 ≤ k → (j : ℕ) → j < n → remade_row r k (kept_rows r n k b) j
    ≡ row_at r b j
unfolding remade_row
remade r n k b some j lt =
    let within : j / k < div_ceil n k = quotient_kept n k j some lt in
    let all : k * (j / k) + j % k ≡ j = omega arith in
    ap (λ (l : List ℕ). row_at r l (j % k)) (kept_row r n k b (j / k) within) ∙ row_at-add r b (k * (j / k))
    (j % k) ∙ ap (row_at r b) all

-- For every k of at least 1, scryptROMix computed from the kept rows is scryptROMix of RFC 7914.
pub rom_mix_from-kept_rows : (r n k : ℕ) (b : List ℕ) → 1 ≤ k → 1 ≤ n → rom_mix_from r n k (kept_rows r n k b)
    ≡ rom_mix r n b
unfolding rom_mix_from rom_mix
rom_mix_from-kept_rows r n k b some rows =
    let c : ℕ = div_ceil n k in
    let kept_rows_now : List (List ℕ) = kept_rows r n k b in
    let last : length kept_rows_now - 1 ≡ c - 1 = ap (λ (m : ℕ). m - 1) (length-kept_rows r n k b) in
    let before : k * (c - 1) < n = last_kept_row_exists n k some rows in
    let some_row : 0 < c = kept_count_positive n k some rows in
    let within : c - 1 < c = omega arith in
    let up : k * (c - 1) + (n - k * (c - 1)) ≡ n = omega arith in
    let start : row_at r (get_or kept_rows_now (length kept_rows_now - 1) []) (n - k *
    (length kept_rows_now - 1)) ≡ row_at r b n =
    ap (λ (m : ℕ). row_at r (get_or kept_rows_now m []) (n - k * m)) last
    ∙ ap (λ (l : List ℕ). row_at r l (n - k * (c - 1))) (kept_row r n k b (c - 1) within)
    ∙ row_at-add r b (k * (c - 1)) (n - k * (c - 1)) ∙ ap (row_at r b) up in
    mixed_part_same r n (remade_row r k kept_rows_now) (row_at r b) _ n (omega arith) (remade r n k b some)
    ∙ ap (λ (l : List ℕ). mixed_part r n (row_at r b) l n) start
