-- Proves the goal of `Progress::judge_view` that the prover leaves open.
use Rattle.std.proofs.Common.{◌∙◌, ap, subst, sym}
use Rattle.minisign_install.specs.Decisions.{judge_keys}
use Rattle.minisign_install.specs.Installations.{SignatureLeads, given}
use Rattle.minisign_install.proofs.HeldStates.{options_are}
use Rattle.minisign_install.proofs.installation.progress.Progress.judge_view.Goals as goal

pub returns-in-Ok-clause-next_state : goal.returns-in-Ok-clause-next_state
returns-in-Ok-clause-next_state c = λ s t state_held file view.
    let (judged, whole) = c.in-Ok.ensures t state_held.file view in
    subst (λ j.
    SignatureLeads j c.args.time s c.accept_text.result c.accept_text.new.self c.args.message.now
    c.accept_text.new.message)
    (sym (ap (λ o. judge_keys o (given c.args.self.now.chosen t) t) (options_are c.args.self.now s state_held)
    ∙ judged)) (c.accept_text.ensures.next_state s t state_held file view whole)
