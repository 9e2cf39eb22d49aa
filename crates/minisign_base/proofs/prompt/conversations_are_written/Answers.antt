-- Proves the goals of `conversations_are_written` that the prover leaves open.
use Rattle.minisign_base.specs.DeviceCalls.{prompt_call}
use Rattle.minisign_base.proofs.ConversationTexts.{held_no_new_fault, writer_received_all, stopped_taken}
use Rattle.minisign_base.proofs.prompt.conversations_are_written.Goals as goal

pub returns-clause-all_received : goal.returns-clause-all_received
returns-clause-all_received g c =
    λ old new steps. writer_received_all (prompt_call g.R.Source g.W.Sink old new) steps

pub returns-clause-no_new_fault : goal.returns-clause-no_new_fault
returns-clause-no_new_fault g c = λ old new steps. held_no_new_fault (prompt_call g.R.Source g.W.Sink old new)
    steps

pub returns-clause-prefix_received : goal.returns-clause-prefix_received
returns-clause-prefix_received g c =
    λ old new steps. stopped_taken (prompt_call g.R.Source g.W.Sink old new) steps
