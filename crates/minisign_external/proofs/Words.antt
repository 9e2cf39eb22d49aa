-- The number that 32 bytes encode is below 2^256, so four 64-bit words can hold it.
use Rattle.std.proofs.Common.{◌≡◌, ℕ, ◌^◌, ◌<◌, List, [], ◌∷◌, length}
use Rattle.std.proofs.Common.{slice_index, arith, w8, Fits}
use Rattle.std.proofs.lemmas.Simd.{Each1-from_get_or, below_from_Fits}
use Rattle.std.specs.Simd.Lanes.{Each1, number_l}
use native.Mathlib.Nat.{pow-suc, pow-zero}

number_below : (bytes : List ℕ) → Each1 (λ x. x < 256) bytes → number_l 256 bytes < 256 ^ length bytes
number_below [] each = omega (arith, pow-zero 256)
number_below (b ∷ bytes) each =
    omega (arith, each.0, number_below bytes each.1, pow-suc 256 (length bytes))

pub number_of_32 : (bytes : List ℕ) → length bytes ≡ 32 → ((k : ℕ) → Fits w8 (slice_index bytes k))
    → number_l 256 bytes < 2 ^ 256
number_of_32 bytes long fits =
    let bound : number_l 256 bytes < 256 ^ length bytes = number_below bytes
    (below_from_Fits w8 bytes (Each1-from_get_or (Fits w8) bytes 0 (λ k lt. fits k))) in
    rw long at bound
