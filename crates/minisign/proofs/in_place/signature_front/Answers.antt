-- Proves the goal of `signature_front` that the prover leaves open.
use Rattle.std.proofs.Common.{ap, sym, ◌∙◌}
use Rattle.minisign.specs.SignatureText.{first_64}
use Rattle.minisign.proofs.Base64Texts.{bytes_read}
use Rattle.minisign.proofs.SignatureTexts.{front_64}
use Rattle.minisign.proofs.in_place.signature_front.Goals as goal

pub returns-in-Some : goal.returns-in-Some
returns-in-Some c = λ read.
    let (bytes, base64, count, fits, front) = c.in-Some.ensures in
    let decoded = rw c.as_bytes.ensures.value at base64 in
    c.first_64.ensures ∙ front_64 _ _ _ count fits front
    ∙ ap first_64 (sym (bytes_read _ _ decoded))
