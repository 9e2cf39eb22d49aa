-- Proves the goals of `Params::words_needed` that the prover leaves open.
use Rattle.std.proofs.Common.{◌≡◌, ℕ, ◌+◌, ◌*◌, ◌^◌, ◌<◌, ◌≤◌, ap, arith}
use Rattle.minisign_kdf.specs.Params.{Numbers}
use Rattle.minisign_kdf.proofs.ParamsFacts.{kept_count_at_most, n_log2_small, words_small}
use Rattle.minisign_kdf.proofs.params.Params.words_needed.Goals as goal

pub kept_count-requires-clause-cost : goal.kept_count-requires-clause-cost
kept_count-requires-clause-cost c = n_log2_small
    (record { n_log2 = c.self.inside.n_log2; r = c.self.inside.r; p = c.self.inside.p }) c.self.invariant

pub overflow_mul-result-2 : goal.overflow_mul-result-2
overflow_mul-result-2 c =
    let v : Numbers = record { n_log2 = c.self.inside.n_log2; r = c.self.inside.r; p = c.self.inside.p } in
    let count : ℕ = c.kept_count.result in
    let few : count ≤ 2 ^ v.n_log2 = rw c.kept_count.ensures
    (kept_count_at_most (2 ^ v.n_log2) c.args.k c.requires) in
    let small : 32 * v.r * (count + 3) < 2 ^ 63 = words_small v count c.self.invariant few in
    let same : 32 * c.from.result * (count + 3) ≡ 32 * v.r * (count + 3) = ap
    (λ (r : ℕ). 32 * r * (count + 3)) c.from.ensures in
    omega (arith, small, same)
