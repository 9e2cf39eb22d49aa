-- Lemmas about key texts that are written and read back, and about their sizes.
use Rattle.std.proofs.Common.{◌≡◌, ℕ, ◌+◌, List, [], ◌∷◌, ◌++◌, length, Some, Ok, refl, ap, sym, ◌∙◌, arith}
use Rattle.std.proofs.Common.{length-append}
use Rattle.minisign.proofs.Common.{LacksByte, lines, strip_carriage_return}
use Rattle.minisign.specs.Texts.{line, IsBase64Of, base64_of, untrusted_comment_label}
use Rattle.minisign.specs.Records.{PublicKeyRecord, SecretKeyRecord, ReadsSecretKey, public_key_bytes}
use Rattle.minisign.specs.Records.{secret_key_bytes}
use Rattle.minisign.specs.KeyTexts.{default_secret_key_comment, read_secret_key, secret_key_text}
use Rattle.minisign.specs.KeyTexts.{BarePublicKey, commented_public_key_text, read_public_key}
use Rattle.minisign.proofs.PublicKeyTexts.{base64_is_graphic, trimmed_unchanged, text_is_read}
use Rattle.minisign.proofs.Base64Texts.{length_base64}
use Rattle.minisign.proofs.SignatureTexts.{untrusted_label_lacks_controls, untrusted_label_not_empty}
use Rattle.minisign.proofs.WrittenLines.{lines_labelled, graphic_base64, IsOneLine, lines_last}
use Rattle.minisign.proofs.WrittenLines.{lacks_controls_codes, lacks_controls_graphic}
use Rattle.minisign.proofs.WrittenLines.{one_line_without_controls}
use Rattle.minisign.proofs.SecretKeyTexts.{bytes_are_read, line_is_read, of_lines, record_length}

-- The default comment of a secret key has no line feed.
pub default_comment_lacks_feed : LacksByte 10 default_secret_key_comment
unfolding default_secret_key_comment
default_comment_lacks_feed = (one_line_without_controls default_secret_key_comment
    (lacks_controls_codes default_secret_key_comment refl)).no_feed

-- A text of a comment line and one more line has these two lines. If the comment ends with a carriage return,
-- the first of them does not include it.
commented_lines : (comment encoded text : List ℕ) → LacksByte 10 comment → IsOneLine encoded
    → text ≡ line (untrusted_comment_label ++ comment) ++ line encoded
    → lines text ≡ (untrusted_comment_label ++ strip_carriage_return comment) ∷ encoded ∷ []
commented_lines comment _ _ lacks one written =
    ap lines written
    ∙ lines_labelled _ _ _ untrusted_label_lacks_controls untrusted_label_not_empty lacks
    ∙ ap (λ l. (untrusted_comment_label ++ strip_carriage_return comment) ∷ l) (lines_last _ one)

-- A comment without a line feed and the base64 of a secret key, on one line each, parse to the key.
pub written_secret_key : (comment encoded bytes text : List ℕ) (k : SecretKeyRecord) → LacksByte 10 comment
    → IsBase64Of encoded bytes → ReadsSecretKey bytes k
    → text ≡ line (untrusted_comment_label ++ comment) ++ line encoded → read_secret_key text ≡ Ok k
written_secret_key _ encoded _ _ k lacks base64 stored written =
    let one : IsOneLine encoded = rw base64.encoded
    (one_line_without_controls _ (lacks_controls_graphic _ (graphic_base64 _ base64.each))) in
    of_lines _ _ (commented_lines _ _ _ lacks one written)
    ∙ line_is_read _ _ base64 ∙ bytes_are_read _ k stored

-- A comment without a line feed and the base64 of a public key, on one line each, parse to the key.
pub commented_public_key : (k : PublicKeyRecord) (comment text : List ℕ)
    → BarePublicKey (base64_of (public_key_bytes k)) k → LacksByte 10 comment
    → text ≡ commented_public_key_text comment k → read_public_key text ≡ Ok k
commented_public_key k comment _ bare lacks written =
    let encoded = base64_of (public_key_bytes k) in
    text_is_read _ k (record {
      comment = untrusted_comment_label ++ strip_carriage_return comment;
      encoded = encoded;
      later = [];
      cut = commented_lines _ _ _ lacks
          (one_line_without_controls _ (lacks_controls_graphic _ (base64_is_graphic k bare))) written;
      encoded_length = ap length (sym (trimmed_unchanged k bare)) ∙ bare.trimmed_length;
      key = rw (sym (trimmed_unchanged k bare)) at bare.key;
    })

-- The label of the first line has 19 bytes.
label_size : length untrusted_comment_label ≡ 19
unfolding untrusted_comment_label
label_size = refl

-- The label and the two line feeds add 21 bytes to the comment and the second line.
length-two_lines : (a b : List ℕ)
    → length (line (untrusted_comment_label ++ a) ++ line b) ≡ length a + length b + 21
length-two_lines a b = length-append (line (untrusted_comment_label ++ a)) (line b)
    ∙ omega (
      arith,
      length-append (untrusted_comment_label ++ a) (10 ∷ []),
      length-append untrusted_comment_label a,
      length-append b (10 ∷ []),
      label_size,
    )

-- A secret key file is 233 bytes longer than its comment.
pub secret_key_size : (comment text : List ℕ) (k : SecretKeyRecord) → ReadsSecretKey (secret_key_bytes k) k
    → text ≡ secret_key_text (Some comment) k
    → length text ≡ length comment + 233
unfolding secret_key_text
secret_key_size comment text k reads written =
    ap length written ∙ length-two_lines _ _
    ∙ omega (arith, length_base64 (secret_key_bytes k), record_length _ k reads)

-- A public key file is 77 bytes longer than its comment.
pub public_key_size : (comment text : List ℕ) (k : PublicKeyRecord)
    → BarePublicKey (base64_of (public_key_bytes k)) k → text ≡ commented_public_key_text comment k
    → length text ≡ length comment + 77
public_key_size comment text k bare written =
    let encoded_length = ap length (sym (trimmed_unchanged k bare))
    ∙ bare.trimmed_length in
    ap length written ∙ length-two_lines _ _ ∙ omega (arith, encoded_length)
