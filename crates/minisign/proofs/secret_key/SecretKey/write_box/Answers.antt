-- Proves the goals of `SecretKey::write_box` that the prover leaves open.
use Rattle.std.proofs.Common.{◌∙◌, refl, rules}
use Rattle.minisign.specs.Records.{secret_key_bytes}
use Rattle.minisign.specs.KeyTexts.{secret_key_text}
use Rattle.minisign.specs.Texts.{IsBase64Of, base64_of, untrusted_comment_label}
use Rattle.minisign.proofs.SecretKeyTexts.{bytes_read_as}
use Rattle.minisign.proofs.WrittenKeys.{secret_key_size, written_secret_key}
use Rattle.minisign.proofs.secret_key.SecretKey.write_box.Goals as goal

pub returns-clause-text : goal.returns-clause-text
unfolding secret_key_text untrusted_comment_label
returns-clause-text c = search rules

pub returns-clause-reads_back : goal.returns-clause-reads_back
unfolding secret_key_text
returns-clause-reads_back c = λ lacks.
    let k = c.args.self.now in
    let base64 : IsBase64Of (base64_of (secret_key_bytes k)) (secret_key_bytes k) =
    record {
      each = rw (c.deref.ensures.value ∙ c.in_ok-bytes.ensures.bytes) at c.in_ok-encoded.ensures.base64.each;
      encoded = refl;
    } in
    written_secret_key _ _ _ _ k lacks base64 (((bytes_read_as _).value k).0
    (rw c.in_ok-bytes.ensures.bytes at c.in_ok-bytes.ensures.reads_back)) (returns-clause-text c)

pub returns-clause-size : goal.returns-clause-size
returns-clause-size c =
    let k = c.args.self.now in
    secret_key_size _ _ k (((bytes_read_as _).value k).0
    (rw c.in_ok-bytes.ensures.bytes at c.in_ok-bytes.ensures.reads_back)) (returns-clause-text c)
