-- The scrypt parameters for a key's memory limit, in bytes, and its operations limit. All divisions
-- round down.
use Rattle.std.specs.Prelude.{◌≡◌, ◌⊎◌, ℕ, ◌/◌, ◌%◌, ◌^◌, ◌<◌, ◌≤◌, min, max, nat_lt, if◌then◌else◌, Result}
use Rattle.std.specs.Prelude.{Ok, Err}
use Rattle.std.specs.List.{find, range_with_len}
use Rattle.std.specs.Option.{unwrap_or}
use Rattle.minisign_kdf.specs.Params.{Numbers, is_accepted}
use Rattle.minisign_base.specs.Fault.{Fault, Named}
use Rattle.minisign_base.specs.declared.faults.NamedFault.TheVariants.{ParametersTooHigh, InvalidParameters}

-- n is the base-2 logarithm of the cost: the least number of at least 1 with 2 ^ n above half of
-- the greatest cost, and at most 63.
pub record IsCostLog2 (greatest n : ℕ) : Type 0 where
  pub from_one : 1 ≤ n
  pub at_most : n ≤ 63
  pub none_smaller : (k : ℕ) → 1 ≤ k → k < n → 2 ^ k ≤ greatest / 2
  pub enough : (greatest / 2 < 2 ^ n) ⊎ (n ≡ 63)

-- The base-2 logarithm of the cost, as a function of the greatest cost.
unfoldable pub cost_log2 : ℕ → ℕ
cost_log2 greatest = unwrap_or (find (λ n. nat_lt (greatest / 2) (2 ^ n)) (range_with_len 1 62)) 63

-- The scrypt parameters for a memory limit and an operations limit. An operations limit below 32768
-- is raised to 32768. If it is below a 32nd of the memory limit, it determines N, and p is 1.
-- Otherwise the memory limit determines N, and the operations limit determines p: a quarter of it
-- is divided by N, reduced to the low 32 bits, limited to 0x3fffffff, and divided by r.
unfoldable pub numbers : ℕ → ℕ → Numbers
numbers memlimit opslimit =
    let operations = max 32768 opslimit in
    let few = nat_lt operations (memlimit / 32) in
    let n_log2 = cost_log2 (if few then operations / 32 else memlimit / 1024) in
    let p = if few then 1 else min 0x3fffffff (operations / 4 / 2 ^ n_log2 % 2 ^ 32) / 8 in
    record { n_log2 = n_log2; r = 8; p = p }

-- The parameters, or an error: first for a cost above the allowed one, then for parameters that
-- scrypt rejects.
unfoldable pub limits : Numbers → ℕ → Result Numbers Fault
limits v n_log2_max =
    if nat_lt n_log2_max v.n_log2 then Err (Named ParametersTooHigh)
    else (if is_accepted v then Ok v else Err (Named InvalidParameters))

-- The parameters for encrypting and decrypting a key: the memory limit may be at most 1073741824
-- bytes, and N at most 2 ^ 20.
abbrev pub sealing_limits : ℕ → ℕ → Result Numbers Fault
sealing_limits memlimit opslimit =
    if nat_lt 1073741824 memlimit then Err (Named ParametersTooHigh) else
    limits (numbers memlimit opslimit) 20
