-- Proves the goals of `Progress::done` that the prover leaves open.
use Rattle.std.proofs.Common.{◌∙◌, ap, sym, refl}
use Rattle.minisign_install.specs.Step.{proceed}
use Rattle.minisign_install.proofs.HeldStates.{ok_for_same_error, copied_at, done_proceeds, event_fits}
use Rattle.minisign_install.proofs.HeldStates.{event_is_not_due}
use Rattle.minisign_install.proofs.installation.progress.Progress.done.Goals as goal

pub returns-then-is_copying-clause-steps : goal.returns-then-is_copying-clause-steps
returns-then-is_copying-clause-steps c = λ s state_held.
    let is = rw (c.is_copying.ensures, c.due-due.ensures) at c.if-is_copying.true in
    event_fits s _ _ c.args.self.now _ _ state_held (copied_at _ s is)
    (c.end_copy.ensures.next_state s state_held)

pub returns-in-Some-clause-steps : goal.returns-in-Some-clause-steps
returns-in-Some-clause-steps c = λ s state_held.
    let is = rw (c.is_copying.ensures, c.due-due.ensures) at c.if-is_copying.false in
    let next = rw c.due-due.ensures at c.in-Some.ensures in
    event_fits s _ _ c.args.self.now _ _ state_held (done_proceeds _ s is ∙ ap (λ o. proceed o s) (sym next))
    (c.go.ensures s state_held, ok_for_same_error s.error)

pub returns-in-None-clause-steps : goal.returns-in-None-clause-steps
returns-in-None-clause-steps c = λ s state_held.
    let is = rw (c.is_copying.ensures, c.due-due.ensures) at c.if-is_copying.false in
    let next = rw c.due-due.ensures at c.in-None.ensures in
    event_is_not_due s _ c.args.self.now _ state_held
    (done_proceeds _ s is ∙ ap (λ o. proceed o s) (sym next)) refl
