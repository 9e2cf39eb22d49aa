-- Proves the goal of `SecretKey::finish_with_reports` that the prover leaves open.
use Rattle.std.proofs.Common.{◌≡◌, ℕ, List, [], ◌∷◌, Result, Ok, Err, MatchResult, ap, inl, inr, refl}
use Rattle.minisign.proofs.Common.{⊤, result_err, PromptCall, prompt_call, Fault, ConversationEnds, Say}
use Rattle.minisign.proofs.Common.{StepEnds, Test}
use Rattle.minisign.proofs.secret_key.SecretKey.finish_with_reports.Goals as goal

-- If the text is written without an error, a conversation that writes it and then makes a check ends with the
-- result of the check.
ends_with_check : {R W V : Type 0} (p : PromptCall R W) (text : List ℕ) (test : Result V Fault) (v : V)
    (r : Result ⊤ Fault) → StepEnds p (Say text) (Ok tt)
    → MatchResult r (λ _. test ≡ Ok v) (λ e. test ≡ Err e)
    → ConversationEnds p (Say text ∷ Test (result_err test) ∷ []) r
ends_with_check p _ _ v (Ok _) text_written passed =
    (p.new, text_written, (p.new, (ap result_err passed, refl), refl))
ends_with_check p _ _ v (Err e) text_written rejected =
    inr (p.new, text_written, inl (ap result_err rejected, refl))

pub returns-clause-conversation_ends : goal.returns-clause-conversation_ends
returns-clause-conversation_ends g c =
    ends_with_check (prompt_call g.R.Source g.W.Sink c.args.prompt.now c.say_done.new.prompt) _ _ _
    _ c.in_ok-say_done.ensures.step_ends c.check_restored.ensures
