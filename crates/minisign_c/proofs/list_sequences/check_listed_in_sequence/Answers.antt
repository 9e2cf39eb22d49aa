-- Proves the goals of `check_listed_in_sequence` that the prover leaves open.
use Rattle.std.proofs.Common.{◌≡◌, ◌∙◌, ◌==◌, ℕ, ap, rules}
use Rattle.minisign.specs.KeyTexts.{read_public_key}
use Rattle.minisign_external.specs.PublicKeys.{read_utf8, value_of}
use Rattle.minisign_external.specs.Signing.{joined}
use Rattle.minisign_external.specs.StrictCalls.{number_with_key}
use Rattle.minisign_c.specs.ListSequences.{lookup_of, strict_listed_number}
use Rattle.minisign_c.proofs.ListVerdicts.{accepted_listed}
use Rattle.minisign_c.proofs.ListedVerdicts.{zero_exactly_if_accepted}
use Rattle.minisign_c.proofs.list_sequences.check_listed_in_sequence.Goals as goal

pub returns-clause-accepted : goal.returns-clause-accepted
returns-clause-accepted g c =
    let accepts = g.S.Scheme.accepts c.args.scheme.now in
    let x = lookup_of c.args.list_name.now c.args.list.now c.args.long_digest c.args.name.now in
    let returned : c.check_under.result ≡ number_with_key (read_utf8 read_public_key c.args.pk_text.now)
    (λ k. strict_listed_number accepts (value_of k) c.args.sig_text.now x (joined c.args.pieces.now)) =
    search rules in
    ap (λ (n : ℕ). n == 0) returned
    ∙ accepted_listed accepts c.args.sig_text.now x (joined c.args.pieces.now)
    (read_utf8 read_public_key c.args.pk_text.now)

pub returns-then-number-ne0-clause-verdict : goal.returns-then-number-ne0-clause-verdict
returns-then-number-ne0-clause-verdict g c = λ long has_long utf8.
    let accepts = g.S.Scheme.accepts c.args.scheme.now in
    let x = lookup_of c.args.list_name.now c.args.list.now c.args.long_digest c.args.name.now in
    let returned : c.minisign_read_public_key-number.result
    ≡ number_with_key (read_utf8 read_public_key c.args.pk_text.now)
    (λ k. strict_listed_number accepts (value_of k) c.args.sig_text.now x (joined c.args.pieces.now)) =
    search rules in
    zero_exactly_if_accepted accepts c.args.pk_text.now c.args.sig_text.now x
    (joined c.args.pieces.now) _ returned long
    has_long utf8

pub returns-clause-verdict : goal.returns-clause-verdict
returns-clause-verdict g c = λ long has_long utf8.
    let accepts = g.S.Scheme.accepts c.args.scheme.now in
    let x = lookup_of c.args.list_name.now c.args.list.now c.args.long_digest c.args.name.now in
    let returned : c.check_under.result ≡ number_with_key (read_utf8 read_public_key c.args.pk_text.now)
    (λ k. strict_listed_number accepts (value_of k) c.args.sig_text.now x (joined c.args.pieces.now)) =
    search rules in
    zero_exactly_if_accepted accepts c.args.pk_text.now c.args.sig_text.now x
    (joined c.args.pieces.now) _ returned long
    has_long utf8
