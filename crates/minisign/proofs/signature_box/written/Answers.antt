-- Proves the goals of `written` that the prover leaves open.
use Rattle.std.proofs.Common.{◌∙◌, ap, sym}
use Rattle.minisign.specs.Records.{ReadsSignature, signature_bytes}
use Rattle.minisign.specs.Texts.{base64_of, Encodes}
use Rattle.minisign.proofs.Base64Texts.{base64_of_bytes}
use Rattle.minisign.proofs.SignatureTexts.{same_comments, spelled_text, written_text}
use Rattle.minisign.proofs.signature_box.written.Goals as goal

pub returns-clause-text : goal.returns-clause-text
returns-clause-text c = c.in_ok-text.ensures.ok ∙ spelled_text c.args.signature.now c.args.comments.now _ _ _
    _ (ap (λ x. x.untrusted) c.comments.view_is)
    (c.in_ok-encoded.ensures.text ∙ ap base64_of (c.deref.ensures.value ∙ c.in_ok-bytes.ensures.bytes))
    (ap (λ x. x.trusted) c.comments.view_is) (c.in_ok-global_sig.ensures.text ∙ ap base64_of
    (c.deref-2.ensures.value ∙ ap (λ x. x.signature) c.comments.view_is))

pub returns-clause-reads : goal.returns-clause-reads
returns-clause-reads c = λ one algorithm.
    let s = c.args.signature.now in
    let x = c.args.comments.now in
    let encodes : Encodes ReadsSignature (base64_of (signature_bytes s)) s = record {
      bytes = signature_bytes s;
      base64 = base64_of_bytes _ _ _ c.in_ok-encoded.ensures.base64
          (c.deref.ensures.value ∙ c.in_ok-bytes.ensures.bytes);
      reads = rw c.in_ok-bytes.ensures.bytes at c.in_ok-bytes.ensures.reads_back;
    } in
    let signed =
    base64_of_bytes _ _ _ c.in_ok-global_sig.ensures.base64
    (c.deref-2.ensures.value ∙ ap (λ y. y.signature) c.comments.view_is) in
    rw (sym (returns-clause-text c)) at (written_text s x encodes signed one algorithm)

pub returns-clause-reads_back : goal.returns-clause-reads_back
returns-clause-reads_back c = λ keeps algorithm.
    let x = c.args.comments.now in
    rw (same_comments x keeps) at (returns-clause-reads c keeps.one_line algorithm)
