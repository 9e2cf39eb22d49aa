-- Proves the goals of `SignatureValue::read` that the prover leaves open.
use Rattle.std.proofs.Common.{◌∙◌, ap, refl}
use Rattle.minisign.specs.SignatureText.{read_signature}
use Rattle.minisign.specs.Texts.{map_ok}
use Rattle.minisign_external.specs.Signatures.{signature_value}
use Rattle.minisign_external.proofs.ReadValues.{from_text, unread_texts}
use Rattle.minisign_external.proofs.Utf8.{no_text, of_text}
use Rattle.minisign_external.proofs.signatures.SignatureValue.read.Goals as goal

pub returns-in-Ok-clause-value : goal.returns-in-Ok-clause-value
returns-in-Ok-clause-value c =
    let (same, utf8) = c.in-Ok.ensures.cases in
    c.read_text.ensures.value ∙ ap (λ x. map_ok (signature_value x) (read_signature x)) same
    ∙ ap (map_ok (signature_value c.args.sig_text.now))
    (of_text read_signature c.args.sig_text.now c.args.sig_text.now refl utf8)

pub returns-in-Ok-clause-read : goal.returns-in-Ok-clause-read
returns-in-Ok-clause-read c =
    let (same, utf8) = c.in-Ok.ensures.cases in
    from_text c.read_text.result c.in-Ok.text.now c.args.sig_text.now c.read_text.ensures.value same utf8
    c.read_text.ensures.read

pub returns-in-Ok-clause-same_error_as_texts : goal.returns-in-Ok-clause-same_error_as_texts
returns-in-Ok-clause-same_error_as_texts c = λ v legacy.
    let (same, utf8) = c.in-Ok.ensures.cases in
    unread_texts v legacy c.args.sig_text.now c.read_text.result
    (c.read_text.ensures.value ∙ ap (λ x. map_ok (signature_value x) (read_signature x)) same
    ∙ ap (map_ok (signature_value c.args.sig_text.now))
    (of_text read_signature c.args.sig_text.now c.args.sig_text.now refl utf8))

pub returns-in-Err-clause-value : goal.returns-in-Err-clause-value
returns-in-Err-clause-value c =
    rw c.into.ensures (ap (map_ok (signature_value c.args.sig_text.now))
    (no_text read_signature c.args.sig_text.now c.in-Err.ensures.cases.0))
