-- Proves the goals of `Progress::question` that the prover leaves open.
use Rattle.std.proofs.Common.{◌∙◌, sym}
use Rattle.minisign_install.proofs.HeldStates.{question_is_due, no_question_without_key}
use Rattle.minisign_install.proofs.HeldStates.{no_question_before_reading}
use Rattle.minisign_install.proofs.installation.progress.Progress.question.Goals as goal

pub returns-then-not-is_read : goal.returns-then-not-is_read
returns-then-not-is_read c =
    λ s state_held. no_question_before_reading s (sym (c.is_read.ensures.read s state_held)
    ∙ c.if-not-is_read.true)

pub returns-in-Some : goal.returns-in-Some
returns-in-Some c = λ s state_held.
    question_is_due s _ _ (sym (c.is_read.ensures.read s state_held)
    ∙ c.if-not-is_read.false) (c.in-Some.ensures s state_held)
    (c.question_under.ensures s state_held)

pub returns-in-None : goal.returns-in-None
returns-in-None c = λ s state_held.
    no_question_without_key s (sym (c.is_read.ensures.read s state_held)
    ∙ c.if-not-is_read.false) (c.in-None.ensures s state_held)
