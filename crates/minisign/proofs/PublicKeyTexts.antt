-- Lemmas about public key texts: the function that parses them and the relation agree, and a text
-- that was written parses to its key.
use Rattle.std.proofs.Common.{◌≡◌, ◌≢◌, ℕ, ◌≤◌, true, List, [], ◌∷◌, ◌++◌, length, take, drop, codes, refl}
use Rattle.std.proofs.Common.{sym, ap, subst, ◌∙◌, arith, Ok, Err, leb, eq-eqb, eqb-true, append_assoc}
use Rattle.std.proofs.Common.{ne_eqb, le-leb, leb-true, length-append, length-take-le, length-drop}
use Rattle.std.proofs.Common.{take-append-drop}
use Rattle.minisign.proofs.Common.{trim, lines, front_bytes, Named, key_id_text, NamedFault}
use Rattle.minisign.proofs.Common.{BarePublicKeyLength, BarePublicKeyNotBase64}
use Rattle.minisign.specs.Records.{PublicKeyRecord, ReadsPublicKey, public_key_bytes}
use Rattle.minisign.specs.Texts.{IsBase64Of, IsReading, base64_of, base64_bytes, is_base64, Encodes}
use Rattle.minisign.specs.Texts.{untrusted_comment_label}
use Rattle.minisign.specs.KeyTexts.{PublicKeyText, BarePublicKey, decoded_key, key_in_lines, public_key_label}
use Rattle.minisign.specs.KeyTexts.{public_key_text, read_bare_public_key, read_public_key}
use Rattle.minisign.proofs.Base64Texts.{bytes_read, is_read, length_base64, reads}
use Rattle.minisign.proofs.WrittenLines.{AllGraphic, graphic_base64, graphic_key_id, trim_graphic, IsOneLine}
use Rattle.minisign.proofs.WrittenLines.{LacksControls, lines_line, lines_last, each_append}
use Rattle.minisign.proofs.WrittenLines.{lacks_controls_codes, lacks_controls_graphic}
use Rattle.minisign.proofs.WrittenLines.{one_line_without_controls}
use Rattle.minisign.proofs.ReadTexts.{passed}
use Rattle.minisign.proofs.RecordFields.{joined_fields, one_public_key}

-- Bytes that begin with a key are long enough.
long_enough : (bytes : List ℕ) (k : PublicKeyRecord) → ReadsPublicKey bytes k → 42 ≤ length bytes
long_enough bytes k h =
    omega (
      arith,
      h.algorithm_length,
      h.keynum_length,
      h.key_length,
      simp length-append at (ap length h.front.1),
    )

-- A text that encodes a key passes the base64 test and the test of the decoded length.
encodes_tests : (text : List ℕ) (k : PublicKeyRecord) → Encodes ReadsPublicKey text k
    → (is_base64 text ≡ true) × (leb 42 (length (base64_bytes text)) ≡ true)
encodes_tests text k h = (
  is_read _ _ h.base64,
  le-leb 42 _ (rw (sym (bytes_read text h.bytes h.base64)) at (long_enough h.bytes k h.reads)),
)

-- The key at the front of enough bytes.
unfoldable key_in : List ℕ → PublicKeyRecord
key_in bytes = record {
  algorithm = take 2 bytes;
  keynum = take 8 (drop 2 bytes);
  key = take 32 (drop 8 (drop 2 bytes));
}

key_in_front : (bytes : List ℕ) → 42 ≤ length bytes → ReadsPublicKey bytes (key_in bytes)
unfolding key_in
key_in_front bytes l = record {
  algorithm_length = length-take-le 2 _ (omega arith);
  keynum_length = length-take-le 8 _ (omega (arith, length-drop 2 bytes));
  key_length = length-take-le 32 _ (omega (arith, length-drop 2 bytes, length-drop 8 (drop 2 bytes)));
  front = (
    drop 32 (drop 8 (drop 2 bytes)),
    joined_fields _ _ _ _ _ _ _ (sym (take-append-drop 2 bytes))
        (sym (take-append-drop 8 (drop 2 bytes))) (sym (take-append-drop 32 (drop 8 (drop 2 bytes)))),
  );
}

-- A text that encodes a key decodes to it, and to nothing else.
pub encoded_is_decoded : (fault : NamedFault) (text : List ℕ) (k : PublicKeyRecord)
    → Encodes ReadsPublicKey text k → decoded_key fault text ≡ Ok k
unfolding key_in
encoded_is_decoded _ text k h =
    let tests = encodes_tests _ k h in
    let reads = rw (sym (bytes_read text h.bytes h.base64)) at h.reads in
    let same = one_public_key _ _ k (key_in_front _ (leb-true 42 _ tests.1)) reads in
    rw (tests.0, tests.1) (ap Ok same)

decoded_is_encoded : (fault : NamedFault) (text : List ℕ) (k : PublicKeyRecord) → decoded_key fault text
    ≡ Ok k → Encodes ReadsPublicKey text k
unfolding key_in
decoded_is_encoded fault text k h =
    let base64 = passed _ _ _ k h in
    let long = passed _ _ _ k base64.1 in
    let same : key_in (base64_bytes text) ≡ k = cc long.1 in
    record {
      bytes = base64_bytes text;
      base64 = reads _ base64.0;
      reads = subst (ReadsPublicKey (base64_bytes text)) same (key_in_front _ (leb-true 42 _ long.0));
    }

-- A text parses to a key if the relation holds for this key.
pub text_is_read : (text : List ℕ) (k : PublicKeyRecord) → PublicKeyText text k → read_public_key text ≡ Ok k
unfolding read_public_key
text_is_read _ k h = rw (h.cut, eq-eqb _ 56 h.encoded_length) (encoded_is_decoded _ _ k h.key)

read_lines : (text : List ℕ) (ls : List (List ℕ)) (k : PublicKeyRecord) → lines text ≡ ls
    → key_in_lines ls ≡ Ok k → PublicKeyText text k
read_lines text [] k cut h = cc h
read_lines text (a ∷ []) k cut h = cc h
read_lines _ (a ∷ b ∷ later) k cut h =
    let long = passed _ _ _ k h in
    record {
      comment = a;
      encoded = b;
      later = later;
      cut = cut;
      encoded_length = eqb-true _ 56 long.0;
      key = decoded_is_encoded _ _ k long.1;
    }

read_text : (text : List ℕ) (k : PublicKeyRecord) → read_public_key text ≡ Ok k → PublicKeyText text k
unfolding read_public_key
read_text _ k h = read_lines _ _ k refl h

-- The function read_public_key agrees with the grammar PublicKeyText.
pub read_as : (text : List ℕ) → IsReading (PublicKeyText text) (read_public_key text)
read_as _ = record { value = λ k. (read_text _ k, text_is_read _ k) }

-- Parsing a text depends only on its lines.
pub of_lines : (text : List ℕ) (ls : List (List ℕ)) → lines text ≡ ls → read_public_key text ≡ key_in_lines ls
unfolding read_public_key
of_lines _ _ cut = ap key_in_lines cut

-- A bare base64 text parses to a key if the relation holds for this key.
pub bare_is_read : (text : List ℕ) (k : PublicKeyRecord) → BarePublicKey text k → read_bare_public_key text
    ≡ Ok k
unfolding read_bare_public_key
bare_is_read _ k h = rw (eq-eqb _ 56 h.trimmed_length) (encoded_is_decoded _ _ k h.key)

-- A bare base64 text that parses to a key satisfies the grammar BarePublicKey.
pub read_bare : (text : List ℕ) (k : PublicKeyRecord) → read_bare_public_key text ≡ Ok k
    → BarePublicKey text k
unfolding read_bare_public_key
read_bare _ k h =
    let long = passed _ _ _ k h in
    record {
      trimmed_length = eqb-true _ 56 long.0;
      key = decoded_is_encoded _ _ k long.1;
    }

-- A bare base64 text is rejected if its trimmed length is not 56.
pub other_bare_length : (text : List ℕ) → length (trim text) ≢ 56 → read_bare_public_key text
    ≡ Err (Named BarePublicKeyLength)
unfolding read_bare_public_key
other_bare_length _ differs = rw (ne_eqb _ 56 differs) refl

-- A bare base64 text of trimmed length 56 is decoded.
pub bare_length : (text : List ℕ) → length (trim text) ≡ 56 → read_bare_public_key text
    ≡ decoded_key BarePublicKeyNotBase64 text
unfolding read_bare_public_key
bare_length _ same = rw (eq-eqb _ 56 same) refl

-- The function read_bare_public_key agrees with the grammar BarePublicKey.
pub bare_read_as : (text : List ℕ) → IsReading (BarePublicKey text) (read_bare_public_key text)
bare_read_as _ = record { value = λ k. (read_bare _ k, bare_is_read _ k) }

key_label_lacks_controls : LacksControls (untrusted_comment_label ++ public_key_label)
unfolding untrusted_comment_label public_key_label
key_label_lacks_controls = lacks_controls_codes (codes "untrusted comment: minisign public key: ") refl

-- The base64 of a key parses to the key.
pub written_base64 : (k : PublicKeyRecord) (text bytes : List ℕ) → IsBase64Of text bytes
    → bytes ≡ public_key_bytes k → ReadsPublicKey bytes k → BarePublicKey text k
written_base64 k text bytes base64 same reads =
    let long : length bytes ≡ 42 = ap length same ∙ simp length-append
    (omega (arith, reads.algorithm_length, reads.keynum_length, reads.key_length)) in
    record {
      trimmed_length = ap (λ t. length (trim t)) base64.encoded
          ∙ ap length (trim_graphic _ (graphic_base64 _ base64.each)) ∙ omega
          (arith, length_base64 bytes, long);
      key = record { bytes = bytes; base64 = base64; reads = reads };
    }

-- The text that is written for a key parses to the key.
module _ (k : PublicKeyRecord) (bare : BarePublicKey (base64_of (public_key_bytes k)) k) where
  pub base64_is_graphic : AllGraphic (base64_of (public_key_bytes k))
  base64_is_graphic = graphic_base64 _
      (front_bytes (public_key_bytes k) _ (rw bare.key.reads.front.1 at bare.key.base64.each))

  pub trimmed_unchanged : trim (base64_of (public_key_bytes k)) ≡ base64_of (public_key_bytes k)
  trimmed_unchanged = trim_graphic _ base64_is_graphic

  first_line : IsOneLine (untrusted_comment_label ++ public_key_label ++ key_id_text k.keynum)
  first_line = one_line_without_controls _
      (each_append _ _ _ key_label_lacks_controls (lacks_controls_graphic _ (graphic_key_id _)))

  pub written_text : read_public_key (public_key_text k) ≡ Ok k
  unfolding untrusted_comment_label
  written_text = text_is_read _ k (record {
    comment = untrusted_comment_label ++ public_key_label ++ key_id_text k.keynum;
    encoded = base64_of (public_key_bytes k);
    later = [];
    cut = lines_line _ _ first_line
        ∙ ap (λ l. (untrusted_comment_label ++ public_key_label ++ key_id_text k.keynum) ∷ l)
        (lines_last _ (one_line_without_controls _ (lacks_controls_graphic _ base64_is_graphic)));
    encoded_length = ap length (sym trimmed_unchanged) ∙ bare.trimmed_length;
    key = rw (sym trimmed_unchanged) at bare.key;
  })

-- The text that `to_box` writes, with its labels spelled out, is public_key_text of the key.
pub spelled_text : (k : PublicKeyRecord) (id b : List ℕ) → id ≡ k.keynum → b ≡ base64_of (public_key_bytes k)
    → codes "untrusted comment: minisign public key: " ++ (key_id_text id ++ (10 ∷ (b ++ 10 ∷ [])))
    ≡ public_key_text k
unfolding untrusted_comment_label public_key_label
spelled_text k _ b same_id same_b =
    rw (same_id, same_b) (ap (λ t. codes "untrusted comment: minisign public key: " ++ t)
    (sym (append_assoc (key_id_text k.keynum) (10 ∷ []) _)))
