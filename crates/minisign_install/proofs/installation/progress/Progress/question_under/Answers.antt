-- Proves the goal of `Progress::question_under` that the prover leaves open.
use Rattle.std.proofs.Common.{◌∙◌, ap, sym}
use Rattle.minisign_install.specs.Installations.{question_of}
use Rattle.minisign_install.proofs.HeldStates.{due_is}
use Rattle.minisign_install.proofs.installation.progress.Progress.question_under.Goals as goal

pub returns-in-CheckComment : goal.returns-in-CheckComment
returns-in-CheckComment c = λ s state_held.
    c.comment_question.ensures s state_held
    ∙ ap (λ op. question_of op c.args.key s) (c.in-CheckComment.ensures
    ∙ sym (due_is c.args.self.now s state_held))
