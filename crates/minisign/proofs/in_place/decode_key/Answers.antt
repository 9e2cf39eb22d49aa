-- Proves the goal of `decode_key` that the prover leaves open.
use Rattle.minisign.proofs.SignatureTexts.{front_read}
use Rattle.minisign.proofs.in_place.decode_key.Goals as goal

pub returns : goal.returns
returns c =
    let (bytes, base64, count, fits, front) = c.in-Some.ensures in
    let read = rw c.as_bytes.ensures.value at base64 in
    front_read c.args.not_base64 c.args.text.now _ bytes _ c.from_bytes.result read count fits front
    c.from_bytes.ensures
