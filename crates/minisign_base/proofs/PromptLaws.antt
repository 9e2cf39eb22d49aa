-- Laws about a prompt and the steps of its conversation.
use Rattle.std.proofs.Common.{◌≡◌, ℕ, List, [], ◌++◌, Result, Ok, Err, ap}
use Rattle.std.specs.Prelude.{⊤}
use Rattle.std.specs.Result.{result_unwrap_or}
use Rattle.minisign_base.specs.Fault.{Fault}
use Rattle.minisign_base.specs.DeviceCalls.{PromptCall}
use Rattle.minisign_base.specs.Prompts.{ConversationEnds, Step, StepEnds}
use Rattle.minisign_base.specs.Passwords.{password_of, typed_password}
use Rattle.minisign_base.proofs.StepLaws.{first_stopped, second_ends}
use Rattle.minisign_base.specs.declared.prompt.Prompt.{Prompt}

-- If the typed bytes give a password, it is typed_password of these bytes.
pub typed_is : (bytes password : List ℕ) → password_of bytes ≡ Ok password → typed_password bytes ≡ password
typed_is bytes password e = ap (λ r. result_unwrap_or r []) e

-- If the first of two conversations fails, the combined conversation fails with the same error.
pub stopped_first : {R W : Type 0} (p : PromptCall R W) (first second : List Step) (e : Fault)
    → ConversationEnds p first (Err e) → ConversationEnds p (first ++ second) (Err e)
stopped_first p first second e =
    first_stopped (λ step old new. StepEnds (record p { old = old; new = new }) step) first second p.old p.new
    e

-- If the first conversation succeeds, the combined conversation ends with the result of the second.
pub second_ended : {R W : Type 0} (p : PromptCall R W) (between : Prompt R W) (first second : List Step)
    (answer : Result ⊤ Fault) → ConversationEnds (record p { new = between }) first (Ok tt)
    → ConversationEnds (record p { old = between }) second answer
    → ConversationEnds p (first ++ second) answer
second_ended p between first second answer =
    second_ends (λ step old new. StepEnds (record p { old = old; new = new }) step)
    first second p.old between p.new answer
