-- Proves the goals of `sign_and_verify` that the prover leaves open.
use Rattle.std.proofs.Common.{◌≡◌, Ok, inl, false, subst, sym, ◌∙◌}
use Rattle.minisign.specs.Headline.{TextsVouchFor}
use Rattle.minisign.specs.KeyTexts.{read_public_key, public_key_text}
use Rattle.minisign.specs.SignatureText.{read_signature_box}
use Rattle.minisign.proofs.Laws.{accepted_vouches, judged_vouches, only_memory}
use Rattle.minisign_examples.proofs.Refusals.{passed_up}
use Rattle.minisign_examples.proofs.example.sign_and_verify.Goals as goal

pub returns-in_err-verify_bytes-clause-genuine : goal.returns-in_err-verify_bytes-clause-genuine
returns-in_err-verify_bytes-clause-genuine g c seed genuine key keynum =
    let (x, read, each) = c.in_ok-sig_text.ensures.headline seed genuine
    c.default_comments_are_read_back.ensures.one_line in
    passed_up c.from_residual-in_err-verify_bytes.result c.in_err-verify_bytes.field-0.0 _
    c.from_residual-in_err-verify_bytes.ensures.1
    (inl (only_memory _ _ _ _ _ _ (record {
      key = c.args.public_key.now;
      box = x;
      key_read = subst (λ text. read_public_key text ≡ Ok c.args.public_key.now)
          (sym (c.as_str.ensures.value ∙ c.into_string-pk_text.ensures)) c.in_ok-to_box.ensures.reads_back;
      box_read = subst (λ text. read_signature_box text ≡ Ok x) (sym c.as_str-2.ensures.value) read;
      vouches = judged_vouches (g.S.Scheme.accepts c.args.scheme.now) c.args.public_key.now x
          c.args.message.now false tt (each c.args.public_key.now false key keynum);
    }) c.in_err-verify_bytes.ensures))

pub returns-clause-accepted : goal.returns-clause-accepted
returns-clause-accepted g c =
    let accepts = g.S.Scheme.accepts c.args.scheme.now in
    subst (λ sig_text. TextsVouchFor accepts (public_key_text c.args.public_key.now) sig_text
    c.args.message.now false) c.as_str-2.ensures.value
    (subst (λ pk_text. TextsVouchFor accepts pk_text c.as_str-2.result.now c.args.message.now false)
    (c.as_str.ensures.value ∙ c.into_string-pk_text.ensures ∙ c.in_ok-to_box.ensures.text)
    (accepted_vouches accepts c.as_str.result.now c.as_str-2.result.now c.args.message.now false _
    c.in_ok-verify_bytes.ensures))
