-- Lemmas about the signature box of two signatures that a scheme made: it is the box that signing makes, and
-- it is valid for the message if the scheme accepts both signatures.
use Rattle.std.proofs.Common.{◌≡◌, ◌∙◌, ℕ, List, length, Ok, inl, refl, sym, subst, arith, le-leb}
use Rattle.std.specs.Str.{IsUtf8}
use Rattle.std.proofs.lemmas.List.{take_all}
use Rattle.minisign.specs.Records.{SecretKeyRecord}
use Rattle.minisign.specs.SignatureText.{read_signature_box, signature_text}
use Rattle.minisign.specs.Acceptance.{Verifier, VouchesUnderEachKey}
use Rattle.minisign.specs.Signing.{ChosenComments, Signer, signed_box}
use Rattle.minisign.proofs.Laws.{vouches_judged}
use Rattle.minisign_external.specs.Signing.{AcceptsSignatures, IsSignatureFileOf, SchemeMakesSignatures}
use Rattle.minisign_external.specs.Signing.{box_of_signatures}
use Rattle.minisign_external.specs.Signing.{comments_with_signature, signature_with_key_id}

-- If a scheme makes the two signatures with a key, their box is the one that signing with this key makes.
pub answered_is_signed : (sign : Signer) (key : SecretKeyRecord) (message z1 z2 key_id : List ℕ)
    (chosen : ChosenComments) (first second : List ℕ)
    → key_id ≡ key.keynum → SchemeMakesSignatures sign key message chosen.trusted z1 z2 first second
    → box_of_signatures key_id chosen first second ≡ signed_box sign key message chosen z1 z2
answered_is_signed sign key message z1 z2 key_id chosen first second same answers =
    rw (same, sym answers.comment_signature, sym answers.data_signature) refl

-- If a scheme accepts both signatures, their box is valid for the message, under each public key with the key
-- ID.
pub answered_vouches : (accepts : Verifier) (public message key_id : List ℕ) (chosen : ChosenComments)
    (first second : List ℕ)
    → length second ≡ 64 → AcceptsSignatures accepts public message chosen.trusted first second
    → VouchesUnderEachKey accepts public key_id message (box_of_signatures key_id chosen first second)
answered_vouches accepts public message key_id chosen first second long answers pk legacy key same_id =
    vouches_judged accepts pk (box_of_signatures key_id chosen first second) message legacy (record {
      same_key = sym same_id;
      allowed = inl refl;
      signed = rw key answers.data_signature;
      comment_signed =
          rw (le-leb 64 (length second) (omega (arith, long)), take_all 64 second (omega (arith, long)), key)
          answers.comment_signature;
    })

-- If a UTF-8 text is the signature file of the two signatures and parses to their box, IsSignatureFileOf
-- holds for it.
pub answered_text : (key_id : List ℕ) (chosen : ChosenComments) (first second text : List ℕ)
    → length second ≡ 64 → IsUtf8 text
    → text ≡ signature_text (signature_with_key_id key_id first) (comments_with_signature chosen second)
    → read_signature_box text ≡ Ok (box_of_signatures key_id chosen first second)
    → IsSignatureFileOf key_id chosen first second text
answered_text key_id chosen first second text long utf8 same read = record {
  written = same;
  utf8 = utf8;
  read_back = read;
  signed = λ sign key message z1 z2 owner answers.
      subst (λ x. read_signature_box text ≡ Ok x)
      (answered_is_signed sign key message z1 z2 key_id chosen first second owner answers) read;
  vouched = λ accepts public message answers. (
    box_of_signatures key_id chosen first second,
    read,
    answered_vouches accepts public message key_id chosen
        first second long answers,
  );
  headline = λ accepts public_of key message owner answers seed genuine one. (
    box_of_signatures key_id chosen first second,
    read,
    λ pk legacy under same_id.
        answered_vouches accepts (public_of seed) message key_id chosen first second long
        (answers seed genuine) pk legacy under (same_id ∙ sym owner),
  );
}
