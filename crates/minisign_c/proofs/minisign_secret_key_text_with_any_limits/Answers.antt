-- Proves the goal of `minisign_secret_key_text_with_any_limits` that the prover leaves open.
use Rattle.std.proofs.Common.{Option, subst}
use Rattle.minisign_external.specs.SecretKeys.{passed_password}
use Rattle.minisign_external.specs.declared.state.Misuse.{Misuse}
use Rattle.minisign_c.proofs.MakingNumbers.{number_of_refusal}
use Rattle.minisign_c.specs.KeyTexts.{IsMakingNumber}
use Rattle.minisign_c.proofs.minisign_secret_key_text_with_any_limits.Goals as goal

pub returns-clause-refused : goal.returns-clause-refused
returns-clause-refused c = λ some.
    subst (λ (m : Option Misuse). IsMakingNumber m c.args.key.now
    (passed_password c.args.with_password c.args.password.now) c.args.sealing.now c.args.comment.now
    c.args.text.now
    c.secret_key_text.result) c.password_misuse.ensures
    (number_of_refusal c.password_misuse.result c.args.key.now _ _ c.args.sealing.now c.args.comment.now
    c.args.text.now c.secret_key_text.result c.in_default.not-Some c.given-password.ensures
    (c.secret_key_text.ensures.refused some))
