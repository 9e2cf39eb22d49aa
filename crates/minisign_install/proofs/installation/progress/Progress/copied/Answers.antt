-- Proves the goal of `Progress::copied` that the prover leaves open.
use Rattle.minisign_install.proofs.HeldStates.{event_fits, piece_at}
use Rattle.minisign_install.proofs.installation.progress.Progress.copied.Goals as goal

pub returns-clause-steps : goal.returns-clause-steps
returns-clause-steps c = λ s state_held.
    let is = rw (c.is_copying.ensures, c.due.ensures) at c.if-not-is_copying.false in
    event_fits s _ _ c.args.self.now _ _ state_held (piece_at _ _ s is)
    (c.count.ensures.next_state s state_held)
