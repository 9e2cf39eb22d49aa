-- Proves the goal of `decode_signature` that the prover leaves open.
use Rattle.std.proofs.Common.{List, ℕ, subst, inr, arith}
use Rattle.minisign.proofs.Common.{MatchResult-weaker}
use Rattle.minisign.specs.Texts.{IsBase64Of}
use Rattle.minisign.proofs.SignatureTexts.{encoded_signature, short_front}
use Rattle.minisign.proofs.in_place.decode_signature.Goals as goal

pub returns : goal.returns
returns c =
    let (bytes, base64, count, fits, front) = c.in-Some.ensures in
    let read = subst (λ (t : List ℕ). IsBase64Of t bytes) c.as_bytes.ensures.value base64 in
    MatchResult-weaker c.from_bytes.result c.from_bytes.ensures
    (encoded_signature c.args.text.now _ bytes _ read front) (λ e refused.
    let short = short_front c.args.text.now _ bytes _ 75 74 read count fits (omega arith) refused.1 in
    inr (refused.0, short.0, short.1))
