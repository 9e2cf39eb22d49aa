-- Proves the goals of `Progress::answer_record` that the prover leaves open.
use Rattle.std.proofs.Common.{◌∙◌, refl, sym, true, false}
use Rattle.minisign_install.proofs.HeldStates.{refused_digest, accepted_digest, with_is_recorded}
use Rattle.minisign_install.proofs.installation.progress.Progress.answer_record.Goals as goal

pub returns-then-accepted : goal.returns-then-accepted
returns-then-accepted c = λ s state_held.
    accepted_digest c.go.new.self s c.args.accepted c.if-accepted.true
    (c.go.ensures _ (with_is_recorded c.args.self.now s 1 true refl state_held))

pub returns-else-is_rolling_back : goal.returns-else-is_rolling_back
returns-else-is_rolling_back c = λ s state_held.
    refused_digest c.go-else-is_rolling_back.new.self s c.args.accepted c.if-accepted.false
    (sym (c.is_rolling_back.ensures s state_held) ∙ c.if-is_rolling_back.false)
    (c.go-else-is_rolling_back.ensures _ (with_is_recorded c.args.self.now s 0 false refl state_held))
