-- Proves the goal of `verify_in_sequence` that the prover leaves open.
use Rattle.std.proofs.Common.{◌≡◌, ◌∙◌, ◌==◌, ℕ, ap, false, rules}
use Rattle.minisign.specs.KeyTexts.{read_public_key}
use Rattle.minisign_external.specs.PublicKeys.{read_utf8, value_of}
use Rattle.minisign_external.specs.Signing.{joined}
use Rattle.minisign_external.specs.StrictCalls.{number_with_key, strict_verdict_number}
use Rattle.minisign_c.proofs.StrictVerdicts.{accepted_with}
use Rattle.minisign_c.proofs.sequences.verify_in_sequence.Goals as goal

pub returns-clause-accepted : goal.returns-clause-accepted
returns-clause-accepted g c =
    let accepts = g.S.Scheme.accepts c.args.scheme.now in
    let returned : c.verify_under.result ≡ number_with_key (read_utf8 read_public_key c.args.pk_text.now)
    (λ k. strict_verdict_number accepts (value_of k) c.args.sig_text.now (joined c.args.pieces.now) false) =
    search rules in
    ap (λ (n : ℕ). n == 0) returned
    ∙ accepted_with accepts c.args.sig_text.now (joined c.args.pieces.now)
    (read_utf8 read_public_key c.args.pk_text.now)
