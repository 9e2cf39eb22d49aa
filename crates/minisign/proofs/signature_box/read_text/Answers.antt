-- Proves the goal of `read_text` that the prover leaves open.
use Rattle.std.proofs.Common.{Some, Ok, inl, ap, sym, ◌∙◌}
use Rattle.minisign.specs.SignatureText.{box_of}
use Rattle.minisign.specs.Texts.{map_ok}
use Rattle.minisign.proofs.Base64Texts.{bytes_read}
use Rattle.minisign.proofs.signature_box.read_text.Goals as goal

pub returns : goal.returns
returns c =
    let parts = c.in_ok-parts.parts in
    let base64 = rw c.in-Some.is at c.in_ok-global_sig.ensures.bytes in
    let signed = sym (bytes_read _ _ base64) in
    let untrusted = c.in_ok-from_str.ensures.ok in
    let trusted = c.in_ok-from_str-2.ensures.ok in
    inl ((λ i. Ok (record {
      signature = parts.signature;
      comments = Some (record { untrusted = untrusted i; trusted = trusted i; signature = signed i });
    }))
    ∙ sym (ap (map_ok box_of) c.in_ok-parts.ensures.read))
