-- Proves the goals of `raw_scrypt_params` that the prover leaves open.
use Rattle.std.proofs.Common.{◌≡◌, ℕ, ◌/◌, ◌<◌, max, refl, arith}
use Rattle.std.proofs.lemmas.Bool.{le-ltb, lt-ltb}
use Rattle.minisign_base.specs.Limits.{IsCostLog2, cost_log2, numbers}
use Rattle.minisign_base.proofs.helpers.raw_scrypt_params.Goals as goal

-- If the operations limit is below a 32nd of the memory limit, it determines the cost, and p is 1.
few_numbers : (memlimit opslimit : ℕ) → max 32768 opslimit < memlimit / 32
    → numbers memlimit opslimit ≡ record { n_log2 = cost_log2 (max 32768 opslimit / 32); r = 8; p = 1 }
unfolding numbers
few_numbers memlimit opslimit few = rw (lt-ltb (max 32768 opslimit) (memlimit / 32) few) refl

-- If a number satisfies IsCostLog2 and equals cost_log2, then cost_log2 satisfies IsCostLog2.
least_found : (measure n : ℕ) → IsCostLog2 measure n → n ≡ cost_log2 measure
    → IsCostLog2 measure (cost_log2 measure)
least_found measure n least value = rw (← value) least

pub returns-then-operations-memlimit-clause-outcome : goal.returns-then-operations-memlimit-clause-outcome
returns-then-operations-memlimit-clause-outcome c =
    let counted : max 32768 c.args.opslimit ≡ c.max-operations.result = omega arith in
    rw (few_numbers c.args.memlimit c.args.opslimit (omega arith), counted)
    (cc (c.checked_params.ensures, c.cost_log2.ensures.value))

pub returns-then-operations-memlimit-clause-least : goal.returns-then-operations-memlimit-clause-least
unfolding numbers
returns-then-operations-memlimit-clause-least c =
    let counted : c.max-operations.result ≡ max 32768 c.args.opslimit = omega arith in
    rw (lt-ltb (max 32768 c.args.opslimit) (c.args.memlimit / 32) (omega arith), ← counted)
    (least_found _ _ c.cost_log2.ensures.least c.cost_log2.ensures.value)

pub returns-clause-least : goal.returns-clause-least
unfolding numbers
returns-clause-least c =
    rw (le-ltb (max 32768 c.args.opslimit) (c.args.memlimit / 32) (omega arith))
    (least_found _ _ c.cost_log2-n_log2.ensures.least c.cost_log2-n_log2.ensures.value)
