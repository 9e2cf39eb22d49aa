-- Proves the goal of `Prompt::mark_empty` that the prover leaves open.
use Rattle.std.proofs.Common.{◌≡◌, [], length, Result, Ok, Err, inl, refl, sym}
use Rattle.std.specs.Prelude.{⊤}
use Rattle.std.proofs.lemmas.Bool.{eqb-true}
use Rattle.std.proofs.lemmas.List.{nil_from_length}
use Rattle.minisign_base.specs.Fault.{Fault}
use Rattle.minisign_base.specs.DeviceCalls.{PromptCall, prompt_call}
use Rattle.minisign_base.specs.Prompts.{ConversationEnds, Say, StepEnds, empty_mark, marking_steps}
use Rattle.minisign_base.proofs.prompt.Prompt.mark_empty.Goals as goal

-- The conversation after an empty password, which only writes `<empty>`, ends as this step does.
marked : {R W : Type 0} (p : PromptCall R W) (answer : Result ⊤ Fault) → StepEnds p (Say empty_mark) answer
    → ConversationEnds p (marking_steps []) answer
marked p (Ok _) said = (p.new, said, refl)
marked p (Err e) said = inl said

pub returns : goal.returns
returns g c =
    let none : c.args.password.now ≡ [] = nil_from_length c.args.password.now
    (eqb-true (length c.args.password.now) 0 (sym c.if-not-is_empty.ensures)) in
    record {
      conversation_ends = rw none
          (marked (prompt_call g.R.Source g.W.Sink c.args.self.now c.say.new.self) c.say.result
          c.say.ensures.step_ends);
    }
