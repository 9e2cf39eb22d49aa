-- Lemmas about the limits of an encrypted key.
use Rattle.std.proofs.Common.{◌≡◌, ℕ, ◌^◌, Bool, true, false, if◌then◌else◌, List, length, take, Result, Ok}
use Rattle.std.proofs.Common.{Err, sym, ap, ◌∙◌, arith, take_all, w64}
use Rattle.minisign.proofs.Common.{from_le_bytes, Fault, Numbers, numbers, limits, sealing_limits}
use Rattle.minisign_kdf.specs.Scrypt.{scrypt}
use Rattle.minisign.specs.Records.{SecretKeyRecord}
use Rattle.minisign.specs.Sealing.{key_limits, stream_of}

-- If the result of two checks is a value, then both succeeded, and it is the value after them.
both_passed : (a b : Bool) (v w : Numbers) (e f : Fault) → (if a then Err e else (if b then Ok v else Err f))
    ≡ Ok w → v ≡ w
both_passed true b v w e f h = absurd (cc)
both_passed false true v w e f h = cc
both_passed false false v w e f h = absurd (cc)

one_passed : (a : Bool) (r : Result Numbers Fault) (w : Numbers) (e : Fault) → (if a then Err e else r) ≡ Ok w
    → r ≡ Ok w
one_passed true r w e h = absurd (cc)
one_passed false r w e h = h

limits_numbers : (n : ℕ) (w v : Numbers) → limits w n ≡ Ok v → w ≡ v
unfolding limits
limits_numbers n w v h = both_passed _ _ _ v _ _ h

-- Limits that are allowed give the parameters that `numbers` computes.
pub sealing_numbers : (memlimit opslimit : ℕ) (v : Numbers) → sealing_limits memlimit opslimit ≡ Ok v
    → numbers memlimit opslimit ≡ v
sealing_numbers _ _ v h = limits_numbers 20 _ v (one_passed _ _ v _ h)

-- Limits that are allowed give these parameters.
pub allowed_numbers : (k : SecretKeyRecord) (v : Numbers) → key_limits k ≡ Ok v
    → numbers (from_le_bytes w64 k.memory_limit) (from_le_bytes w64 k.operations_limit) ≡ v
unfolding key_limits
allowed_numbers k v h = sealing_numbers _ _ v h

-- The scrypt parameters that are computed from the two limit fields are those of the key.
pub read_limits : (k : SecretKeyRecord) (memory operations : ℕ) → length k.memory_limit ≡ 8
    → length k.operations_limit ≡ 8
    → memory ≡ from_le_bytes w64 (take 8 k.memory_limit)
    → operations ≡ from_le_bytes w64 (take 8 k.operations_limit)
    → key_limits k ≡ sealing_limits memory operations
unfolding key_limits
read_limits k memory operations memory_length operations_length read_memory read_operations =
    let same_memory = ap (from_le_bytes w64)
    (sym (take_all 8 k.memory_limit (omega (arith, memory_length)))) ∙ sym read_memory in
    let same_operations = ap (from_le_bytes w64)
    (sym (take_all 8 k.operations_limit (omega (arith, operations_length)))) ∙ sym read_operations in
    λ i. sealing_limits (same_memory i) (same_operations i)

-- The bytes that scrypt derives with the key's salt and parameters are the key's stream.
pub derived_stream : (k : SecretKeyRecord) (v : Numbers) (password salt out : List ℕ) (len : ℕ)
    → numbers (from_le_bytes w64 k.memory_limit) (from_le_bytes w64 k.operations_limit) ≡ v → salt ≡ k.salt
    → len ≡ 104
    → out ≡ scrypt password salt (2 ^ v.n_log2) v.r v.p len → out ≡ stream_of k password
unfolding stream_of
derived_stream k v password _ _ _ same_numbers same_salt whole derived =
    derived ∙ (λ i. let w = sym same_numbers i in scrypt password (same_salt i) (2 ^ w.n_log2) w.r w.p
    (whole i))
