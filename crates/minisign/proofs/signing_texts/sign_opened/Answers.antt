-- Proves the goal of `sign_opened` that the prover leaves open.
use Rattle.std.proofs.Common.{ap, string_bytes}
use Rattle.minisign.proofs.Common.{IfOk-weaker}
use Rattle.minisign.proofs.SignedBoxes.{read_back_box_vouches, written_text}
use Rattle.minisign.specs.SignatureText.{box_read_back}
use Rattle.minisign.proofs.signing_texts.sign_opened.Goals as goal

pub returns-clause-signed : goal.returns-clause-signed
returns-clause-signed g c =
    let (message, read, (signed, vouches_if_genuine)) = c.in_ok-signature_box.ensures.signed in
    let has_comments = ap (λ b. b.comments) signed.box in
    IfOk-weaker c.to_string.result _ _ (λ t (written, reads_back). (
      message,
      read,
      (
        record {
          box = c.in_ok-signature_box.signature_box;
          comments = _;
          signed = signed;
          has_comments = has_comments;
          written = written;
        },
        λ seed is_genuine are_one_line. (
          box_read_back c.in_ok-signature_box.signature_box,
          reads_back are_one_line,
          read_back_box_vouches
              (g.S.Scheme.accepts c.args.scheme.now) _ _ message c.in_ok-signature_box.signature_box _ _
              has_comments (vouches_if_genuine seed is_genuine),
        ),
      ),
    )) (written_text string_bytes c.to_string.result c.in_ok-signature_box.signature_box _ _
    has_comments c.to_string.ensures.text c.to_string.ensures.reads)
