-- Proves the goals of `page_verdict` that the prover leaves open.
use Rattle.std.proofs.Common.{◌≡◌, ◌∙◌, ◌<◌, ℕ, List, Bool, Result, Ok, Err, ap, inl, inr, lit<, refl, subst}
use Rattle.std.proofs.Common.{sym}
use Rattle.minisign_base.specs.Fault.{Fault, Named, Custom}
use Rattle.minisign_base.specs.Faults.{fault_row}
use Rattle.minisign_base.specs.declared.faults.NamedFault.{NamedFault}
use Rattle.minisign_base.specs.declared.faults.NamedFault.TheVariants.{OutOfMemory}
use Rattle.minisign.specs.Acceptance.{Verifier}
use Rattle.minisign.specs.Headline.{verdict}
use Rattle.minisign_external.specs.Numbers.{fault_number, refusal_number}
use Rattle.minisign_external.specs.Questions.{verdict_under}
use Rattle.minisign_external.specs.States.{GivesNumber, IsFaultOf, without_trusted_comment, verdict_number}
use Rattle.minisign_external.specs.declared.state.Refusal.{Refusal}
use Rattle.minisign_external.specs.declared.state.Refusal.TheVariants.{Refused, WrongUse}
use Rattle.minisign_page.proofs.page_verdict.Goals as goal

-- No error of the library has the number 0, which means success.
named_positive : (f : NamedFault) → 0 < (fault_row f).number
named_positive OutOfMemory = lit< tt
named_positive _ = lit< tt

positive : (e : Fault) → 0 < fault_number e
positive (Named f) = named_positive f
positive (Custom kind text) = lit< tt

-- If the verdict is an error, GivesNumber holds for the number of this error.
given_number : (accepts : Verifier) (pk_text sig_text message : List ℕ) (legacy : Bool) (r : Refusal Fault)
    (n : ℕ) → n ≡ refusal_number fault_number r
    → IsFaultOf (λ f. verdict accepts pk_text sig_text message legacy ≡ Err f) r
    → GivesNumber accepts pk_text sig_text message legacy n
given_number accepts pk_text sig_text message legacy (WrongUse m) n is refuses = absurd refuses
given_number accepts pk_text sig_text message legacy (Refused e) n is refuses =
    inr (subst (λ k. 0 < k) (sym is) (positive e), e, is, refuses)

-- If the verdict is an error, the number of the verdict is the number of this error.
refused_number : (v : Result (List ℕ) Fault) (r : Refusal Fault) → Err r ≡ without_trusted_comment v
    → refusal_number fault_number r ≡ verdict_number v
refused_number (Ok t) r h = cc h
refused_number (Err e) r h = let same : r ≡ Refused e = cc h in ap (refusal_number fault_number) same

success_number : (v : Result (List ℕ) Fault) → Ok tt ≡ without_trusted_comment v → 0 ≡ verdict_number v
success_number (Ok t) h = refl
success_number (Err e) h = cc h

pub returns-in-Ok-clause-verdict : goal.returns-in-Ok-clause-verdict
returns-in-Ok-clause-verdict c = λ v sig_text message legacy accepts by.
    success_number (verdict_under accepts v sig_text message legacy)
    (c.in-Ok.ensures.verdict v sig_text message legacy accepts by.asked by.finalized by.answers)

pub returns-in-Err-clause-verdict : goal.returns-in-Err-clause-verdict
returns-in-Err-clause-verdict c = λ v sig_text message legacy accepts by.
    c.number_of.ensures ∙ refused_number (verdict_under accepts v sig_text message legacy) c.in-Err.refusal
    (c.in-Err.ensures.verdict v sig_text message legacy accepts by.asked by.finalized by.answers)

pub returns-in-Err-clause-same_verdict_as_texts : goal.returns-in-Err-clause-same_verdict_as_texts
returns-in-Err-clause-same_verdict_as_texts c = λ v pk_text sig_text message legacy accepts by keyed.
    given_number accepts pk_text sig_text message legacy c.in-Err.refusal _ c.number_of.ensures
    (c.in-Err.ensures.same_verdict_as_texts v pk_text sig_text message legacy accepts by.asked by.finalized
    keyed by.answers)

pub returns-in-Ok-clause-same_verdict_as_texts : goal.returns-in-Ok-clause-same_verdict_as_texts
returns-in-Ok-clause-same_verdict_as_texts c = λ v pk_text sig_text message legacy accepts by keyed.
    inl (
      refl,
      c.in-Ok.ensures.same_verdict_as_texts v pk_text sig_text message legacy accepts by.asked by.finalized
          keyed
          by.answers,
    )
