-- Proves the goals of `sign_release` that the prover leaves open.
use Rattle.std.proofs.Common.{◌≡◌, Ok, None, string_bytes, false, inl, subst, sym}
use Rattle.minisign.specs.Generation.{IsGenuinePair}
use Rattle.minisign.specs.Sealing.{OpensTo}
use Rattle.minisign.specs.KeyTexts.{read_public_key}
use Rattle.minisign.specs.SignatureText.{read_signature_box}
use Rattle.minisign.specs.Headline.{TextsVouchFor}
use Rattle.minisign.proofs.Laws.{accepted_vouches, only_memory}
use Rattle.minisign_examples.proofs.GivenKeys.{refused_memory, same_key}
use Rattle.minisign_examples.proofs.Refusals.{passed_up}
use Rattle.minisign_examples.proofs.releasing.sign_release.Goals as goal

pub returns-in_err-sk-clause-refused : goal.returns-in_err-sk-clause-refused
returns-in_err-sk-clause-refused g c =
    let (pk, sk, texts) = c.in_ok-pk_text.ensures.are_pair_texts in
    let only = subst (λ text. OpensTo text c.args.password.now 1 sk) (sym c.as_str.ensures.value) texts.secret
    in
    passed_up c.from_residual-in_err-sk.result c.in_err-sk.field-0.0 _ c.from_residual-in_err-sk.ensures.1
    (inl (inl (refused_memory _ _ _ sk c.in_err-sk.ensures (only None))))

pub returns-in_err-sig_text-clause-refused : goal.returns-in_err-sig_text-clause-refused
returns-in_err-sig_text-clause-refused g c =
    let (pk, sk, texts) = c.in_ok-pk_text.ensures.are_pair_texts in
    let only = subst (λ text. OpensTo text c.args.password.now 1 sk) (sym c.as_str.ensures.value) texts.secret
    in
    let same = same_key _ _ c.in_ok-sk.sk sk c.in_ok-sk.ensures (only None) in
    passed_up c.from_residual-in_err-sig_text.result c.in_err-sig_text.field-0.0 _
    c.from_residual-in_err-sig_text.ensures.1
    (inl (c.in_err-sig_text.ensures pk
    (subst (λ k. IsGenuinePair (g.S.Scheme.public_of c.args.scheme.now) pk k) (sym same) texts.pair)))

pub returns-in_err-verify_bytes-clause-refused : goal.returns-in_err-verify_bytes-clause-refused
returns-in_err-verify_bytes-clause-refused g c =
    let (pk, sk, texts) = c.in_ok-pk_text.ensures.are_pair_texts in
    let only = subst (λ text. OpensTo text c.args.password.now 1 sk) (sym c.as_str.ensures.value) texts.secret
    in
    let same = same_key _ _ c.in_ok-sk.sk sk c.in_ok-sk.ensures (only None) in
    let (x, read, vouches) = c.in_ok-sig_text.ensures pk
    (subst (λ k. IsGenuinePair (g.S.Scheme.public_of c.args.scheme.now) pk k) (sym same) texts.pair) in
    passed_up c.from_residual-in_err-verify_bytes.result c.in_err-verify_bytes.field-0.0 _
    c.from_residual-in_err-verify_bytes.ensures.1
    (inl (inl (only_memory _ _ _ _ _ _ (record {
      key = pk;
      box = x;
      key_read = subst (λ text. read_public_key text ≡ Ok pk) (sym c.as_str-2.ensures.value) texts.public;
      box_read = subst (λ text. read_signature_box text ≡ Ok x) (sym c.as_str-3.ensures.value) read;
      vouches = vouches;
    }) c.in_err-verify_bytes.ensures)))

pub returns-clause-vouches : goal.returns-clause-vouches
returns-clause-vouches g c =
    let accepts = g.S.Scheme.accepts c.args.scheme.now in
    subst (λ sig_text. TextsVouchFor accepts (string_bytes c.in_ok-pk_text.field-0.pk_text) sig_text
    c.args.update.now false) c.as_str-3.ensures.value
    (subst (λ pk_text. TextsVouchFor accepts pk_text c.as_str-3.result.now c.args.update.now false)
    c.as_str-2.ensures.value
    (accepted_vouches accepts c.as_str-2.result.now c.as_str-3.result.now c.args.update.now false _
    c.in_ok-verify_bytes.ensures))
