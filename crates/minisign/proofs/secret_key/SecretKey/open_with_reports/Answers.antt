-- Proves the goals of `SecretKey::open_with_reports` that the prover leaves open.
use Rattle.std.proofs.Common.{ap, inl, inr, refl, ⊎_elim}
use Rattle.minisign.proofs.Common.{result_err}
use Rattle.minisign.proofs.Openings.{no_fault}
use Rattle.minisign.proofs.ErrorsAndPrefixes.{err_is}
use Rattle.minisign.proofs.secret_key.SecretKey.open_with_reports.Goals as goal

-- The stream was not applied: memory ran out, or the limits of the key are rejected.
pub returns-in_err-apply_stream-clause-conversation_ends
    : goal.returns-in_err-apply_stream-clause-conversation_ends
returns-in_err-apply_stream-clause-conversation_ends g c =
    let prompt_after = c.say_deriving.new.prompt in
    rw (err_is _ _ c.from_residual-in_err-apply_stream.ensures.1) (⊎_elim (λ (no_memory, allowed). inr (
      prompt_after,
      c.in_ok-say_deriving.ensures.step_ends,
      inr (prompt_after, (no_fault _ allowed, refl), inl ((no_memory, tt), refl)),
    )) (λ limits_rejected. inr (
      prompt_after,
      c.in_ok-say_deriving.ensures.step_ends,
      inl (ap result_err limits_rejected, refl),
    ))
    c.in_err-apply_stream.ensures.refused)

-- The key that was decrypted is rejected.
pub returns-in_err-finish_with_reports-clause-conversation_ends
    : goal.returns-in_err-finish_with_reports-clause-conversation_ends
returns-in_err-finish_with_reports-clause-conversation_ends g c =
    let prompt_after = c.say_deriving.new.prompt in
    let ended =
    rw c.in_ok-apply_stream.ensures.xored at c.in_err-finish_with_reports.ensures.conversation_ends in
    rw (err_is _ _ c.from_residual-in_err-finish_with_reports.ensures.1) (inr (
      prompt_after,
      c.in_ok-say_deriving.ensures.step_ends,
      inr (
        prompt_after,
        (no_fault _ c.in_ok-apply_stream.ensures.allowed, refl),
        inr (prompt_after, (tt, refl), ended),
      ),
    ))

-- The key was decrypted.
pub returns-clause-conversation_ends : goal.returns-clause-conversation_ends
returns-clause-conversation_ends g c =
    let prompt_after = c.say_deriving.new.prompt in
    let ended =
    rw c.in_ok-apply_stream.ensures.xored at c.in_ok-finish_with_reports.ensures.conversation_ends in (
      prompt_after,
      c.in_ok-say_deriving.ensures.step_ends,
      (
        prompt_after,
        (no_fault _ c.in_ok-apply_stream.ensures.allowed, refl),
        (prompt_after, (tt, refl), ended),
      ),
    )
