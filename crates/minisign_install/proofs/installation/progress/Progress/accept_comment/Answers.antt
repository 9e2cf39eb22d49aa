-- Proves the goals of `Progress::accept_comment` that the prover leaves open.
use Rattle.std.proofs.Common.{None, subst, true, Ok}
use Rattle.minisign_install.specs.Installations.{RunLeadsTo}
use Rattle.minisign_install.specs.Step.{after_comment}
use Rattle.minisign_install.proofs.HeldStates.{comment_error, ok_if_error_unchanged, with_signed_comment}
use Rattle.minisign_install.proofs.installation.progress.Progress.accept_comment.Goals as goal

pub returns-in-Some-clause-next_state : goal.returns-in-Some-clause-next_state
returns-in-Some-clause-next_state c = λ s state_held.
    let now = with_signed_comment c.args.self.now s state_held in
    subst (λ f. RunLeadsTo s (after_comment f
    (record s { is_signed = true })) c.reject.result c.reject.new.self)
    (c.in-Some.ensures _ now) (c.reject.ensures.next_state _ now)

pub returns-in-None-clause-next_state : goal.returns-in-None-clause-next_state
returns-in-None-clause-next_state c = λ s state_held.
    let now = with_signed_comment c.args.self.now s state_held in
    subst (λ f. RunLeadsTo s (after_comment f (record s { is_signed = true })) (Ok tt)
    c.accept_signed.new.self)
    (c.in-None.ensures _ now) (
      c.accept_signed.ensures _ now,
      ok_if_error_unchanged s (after_comment None (record s { is_signed = true }))
          (comment_error (record s { is_signed = true })),
    )
