-- Proves the goal of `Progress::signature` that the prover leaves open.
use Rattle.minisign_install.proofs.SignatureFiles.{signature_steps}
use Rattle.minisign_install.proofs.installation.progress.Progress.signature.Goals as goal

pub returns-clause-steps : goal.returns-clause-steps
returns-clause-steps c = λ s state_held file.
    let is = rw (c.is_reading_signature.ensures, c.due.ensures) at c.if-not-is_reading_signature.false in
    signature_steps c.args.self.now _ s _ _ _ _ _ state_held is
    (c.judge_text.ensures.next_state s state_held file)
