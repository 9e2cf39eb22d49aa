-- Proves the goals of `Progress::answer_comment` that the prover leaves open.
use Rattle.minisign_install.proofs.HeldStates.{refused_comment, accepted_comment, event_fits}
use Rattle.minisign_install.proofs.installation.progress.Progress.answer_comment.Goals as goal

pub returns-then-accepted-clause-steps : goal.returns-then-accepted-clause-steps
returns-then-accepted-clause-steps c = λ s state_held.
    event_fits s _ _ c.args.self.now _ _ state_held (accepted_comment _ _ s c.requires c.if-accepted.true)
    (c.accept_comment.ensures.next_state s state_held)

pub returns-else-accepted-clause-steps : goal.returns-else-accepted-clause-steps
returns-else-accepted-clause-steps c = λ s state_held.
    event_fits s _ _ c.args.self.now _ _ state_held (refused_comment _ _ s c.requires c.if-accepted.false)
    (c.next_key.ensures.next_state s state_held)
