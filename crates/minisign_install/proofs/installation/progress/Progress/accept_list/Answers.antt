-- Proves the goals of `Progress::accept_list` that the prover leaves open.
use Rattle.std.proofs.Common.{subst, true, Ok, ◌∙◌, sym}
use Rattle.minisign_install.specs.Installations.{RunLeadsTo}
use Rattle.minisign_install.specs.Step.{after_listing, compare}
use Rattle.minisign_install.proofs.HeldStates.{compare_error, ok_if_error_unchanged}
use Rattle.minisign_install.proofs.HeldListings.{list_signed, listed_at}
use Rattle.minisign_install.proofs.installation.progress.Progress.accept_list.Goals as goal

pub returns-in-Ok-clause-next_state : goal.returns-in-Ok-clause-next_state
returns-in-Ok-clause-next_state c = λ s state_held.
    let now = list_signed c.args.self.now s state_held in
    subst (λ f. RunLeadsTo s (after_listing f (record s { is_list_signed = true })) (Ok tt)
    c.compare.new.self)
    (c.in-Ok.ensures ∙ sym (listed_at c.args.self.now s state_held)) (
      c.compare.ensures _ now,
      ok_if_error_unchanged s (compare (record s { is_list_signed = true }))
          (compare_error (record s { is_list_signed = true })),
    )

pub returns-in-Err-clause-next_state : goal.returns-in-Err-clause-next_state
returns-in-Err-clause-next_state c = λ s state_held.
    let now = list_signed c.args.self.now s state_held in
    subst (λ f. RunLeadsTo s (after_listing f
    (record s { is_list_signed = true })) c.reject.result c.reject.new.self)
    (c.in-Err.ensures ∙ sym (listed_at c.args.self.now s state_held)) (c.reject.ensures.next_state _ now)
