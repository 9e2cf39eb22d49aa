-- Proves the goals of `SecretKey::open` that the prover leaves open.
use Rattle.std.proofs.Common.{refl}
use Rattle.minisign.proofs.Common.{prompt_call}
use Rattle.minisign.proofs.Openings.{asked_opening, closed_opening, given_opening, sealed_passed}
use Rattle.minisign.proofs.Openings.{sealed_text}
use Rattle.minisign.proofs.ReadTexts.{same_end}
use Rattle.minisign.proofs.ErrorsAndPrefixes.{err_is}
use Rattle.minisign.proofs.secret_key.SecretKey.open.Goals as goal

pub returns-in_err-check_sealed-clause-opens : goal.returns-in_err-check_sealed-clause-opens
returns-in_err-check_sealed-clause-opens g c = λ text read.
    rw (err_is _ _ c.from_residual.ensures.1) (closed_opening _ _ _ _ _ refl
    (sealed_text _ _ _ read (same_end _ _ c.in_err-check_sealed.ensures)))

pub returns-in-Some-clause-opens : goal.returns-in-Some-clause-opens
returns-in-Some-clause-opens g c = λ text read.
    let opened = rw c.as_bytes.ensures.value at c.open_with.ensures in
    let sealed = sealed_passed _ c.in_ok-check_sealed.ensures in
    rw c.in-Some.is (given_opening (prompt_call g.R.Source g.W.Sink c.args.prompt.now c.args.prompt.now)
    _ _ _ _ _ refl (sealed_text _ _ _ read sealed) opened)

pub returns-in-None-clause-opens : goal.returns-in-None-clause-opens
returns-in-None-clause-opens g c = λ text read.
    let sealed = sealed_passed _ c.in_ok-check_sealed.ensures in
    rw c.in-None.is (asked_opening _ _ _ _ _ (sealed_text _ _ _ read sealed)
    c.open_asking.ensures.opened c.open_asking.ensures.refused)
