-- A lemma about the error number of a call that opens a key.
use Rattle.std.proofs.Common.{◌≡◌, ◌∙◌, ℕ, Result, Ok, Err, ap}
use Rattle.minisign_base.specs.Fault.{Fault}
use Rattle.minisign.specs.Records.{SecretKeyRecord}
use Rattle.minisign_external.specs.Numbers.{fault_number, refusal_number}
use Rattle.minisign_external.specs.SecretKeys.{opened_or_unchanged, opened_outcome}
use Rattle.minisign_external.specs.declared.secrets.SecretKeyValue.{SecretKeyValue}
use Rattle.minisign_external.specs.declared.state.Refusal.{Refusal}

-- If opening fails, the result is the number of the error, and the struct is unchanged.
pub opening_refusal : (given : Result SecretKeyRecord (Refusal Fault)) (r : Refusal Fault)
    (old new : SecretKeyValue) (n : ℕ) → n ≡ refusal_number fault_number r
    → ◌≡◌ {A = Result Unit (Refusal Fault) × SecretKeyValue} (Err r, new) (opened_or_unchanged given old)
    → ◌≡◌ {A = ℕ × SecretKeyValue} (n, new) (opened_outcome given old)
opening_refusal (Ok key) r old new n same returned = let first = ap (λ p. p.0) returned in cc first
opening_refusal (Err e) r old new n same returned =
    let first : ◌≡◌ {A = Result Unit (Refusal Fault)} (Err r) (Err e) = ap (λ p. p.0) returned in
    let second : new ≡ old = ap (λ p. p.1) returned in
    let is : r ≡ e = cc first in
    let number : n ≡ refusal_number fault_number e = same ∙ ap (refusal_number fault_number) is in
    λ i. (number i, second i)
