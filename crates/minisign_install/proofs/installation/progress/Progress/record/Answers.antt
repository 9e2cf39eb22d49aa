-- Proves the goal of `Progress::record` that the prover leaves open.
use Rattle.std.proofs.Common.{◌∙◌, Some, ap}
use Rattle.minisign_install.specs.Decisions.{judge_record}
use Rattle.minisign_install.proofs.HeldStates.{event_fits, options_are, record_at}
use Rattle.minisign_install.proofs.installation.progress.Progress.record.Goals as goal

pub returns-clause-steps : goal.returns-clause-steps
returns-clause-steps c = λ s state_held.
    let is = rw (c.is_reading_record.ensures, c.due.ensures) at c.if-not-is_reading_record.false in
    event_fits s _ _ c.args.self.now _ _ state_held
    (record_at _ _ s _ is (ap (λ o. judge_record o (Some c.args.bytes.now)) (options_are _ s state_held)
    ∙ c.judge_record-judged.ensures state_held.file)) (c.take_record.ensures.next_state s state_held)
