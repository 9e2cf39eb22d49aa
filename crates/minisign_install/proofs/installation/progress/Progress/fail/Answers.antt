-- Proves the goals of `Progress::fail` that the prover leaves open.
use Rattle.std.proofs.Common.{refl}
use Rattle.minisign_install.proofs.HeldStates.{ok_for_same_error, due_is, failed_at, event_fits}
use Rattle.minisign_install.proofs.HeldStates.{event_is_not_due}
use Rattle.minisign_install.proofs.HeldStates.{ended_accepts_no_failure, removing_at}
use Rattle.minisign_install.proofs.installation.progress.Progress.fail.Goals as goal

pub returns-then-has_ended-clause-steps : goal.returns-then-has_ended-clause-steps
returns-then-has_ended-clause-steps c = λ s state_held.
    let is = rw (c.has_ended.ensures, c.due-due.ensures) at c.if-has_ended.true in
    event_is_not_due s _ c.args.self.now _ state_held (ended_accepts_no_failure _ c.args.fault s is) refl

pub returns-then-is_removing-clause-steps : goal.returns-then-is_removing-clause-steps
returns-then-is_removing-clause-steps c = λ s state_held.
    let is = rw (c.is_removing.ensures, c.due-due.ensures) at c.if-is_removing.true in
    event_fits s _ _ c.args.self.now _ _ state_held (removing_at _ c.args.fault s is c.requires)
    (c.go.ensures s state_held, ok_for_same_error s.error)

pub returns-else-is_removing-clause-steps : goal.returns-else-is_removing-clause-steps
returns-else-is_removing-clause-steps c = λ s state_held.
    let over = rw (c.has_ended.ensures, c.due-due.ensures) at c.if-has_ended.false in
    let is = rw (c.is_removing.ensures, c.due-due.ensures) at c.if-is_removing.false in
    event_fits s _ _ c.args.self.now _ _ state_held
    (failed_at _ c.args.fault s over is c.requires (due_is c.args.self.now s state_held))
    (rw (c.failure.ensures, c.due-due.ensures) at (c.reject.ensures.next_state s state_held))
