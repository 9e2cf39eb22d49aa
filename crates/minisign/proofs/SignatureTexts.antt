-- Lemmas about signature texts: the function that parses them and the relation agree, a text that
-- was written parses to its box, and parsing in place gives the same.
use Rattle.std.proofs.Common.{◌≡◌, ◌≢◌, ◌||◌, Bool, bytes_eq, ℕ, ◌<◌, ◌≤◌, true, false, List, [], ◌∷◌, ◌++◌}
use Rattle.std.proofs.Common.{length, take, drop, codes, Ok, Err, refl, sym, ap, subst, ◌∙◌, arith, inl, inr}
use Rattle.std.proofs.Common.{Some, eqb, leb, lit<, append_assoc, take-take, min, MatchResult, None, Result}
use Rattle.std.proofs.Common.{⊎_elim, le-leb, leb-true, cond, length-take-le, length-drop, take-append-drop}
use Rattle.minisign.proofs.Common.{starts_with, trim, lines, strip_carriage_return, false_from_ne_true}
use Rattle.minisign.proofs.Common.{lt-leb, or_cases, or_left, or_right, cases_lt, Decides-eqb}
use Rattle.minisign.proofs.Common.{drop-append_seam, starts_is, bytes_eq-Decides, Named, Fault}
use Rattle.minisign.proofs.Common.{UntrustedCommentPrefix, SignatureNotBase64, RecordTooShort}
use Rattle.minisign.proofs.Common.{TrustedCommentPrefix, UnsupportedSignatureAlgorithm, front_bytes}
use Rattle.minisign.proofs.Common.{NamedFault}
use Rattle.minisign.specs.Records.{CommentsRecord, SignatureRecord, ReadsSignature, IsKnownAlgorithm}
use Rattle.minisign.specs.Records.{signature_bytes, legacy_algorithm, prehashed_algorithm, PublicKeyRecord}
use Rattle.minisign.specs.Records.{ReadsPublicKey}
use Rattle.minisign.specs.Texts.{IsBase64Of, IsReading, base64_of, base64_bytes, is_base64, map_ok, Encodes}
use Rattle.minisign.specs.Texts.{untrusted_comment_label, line}
use Rattle.minisign.specs.SignatureText.{AreOneLine, AreReadBack, SignatureText, SignatureTextRecord, box_of}
use Rattle.minisign.specs.SignatureText.{comments_read_back, read_signature, read_signature_box}
use Rattle.minisign.specs.SignatureText.{signature_in_lines, signature_text, trusted_comment_label, first_64}
use Rattle.minisign.proofs.Base64Texts.{bytes_read, is_read, reads, base64_of_fewer_bytes, length_base64}
use Rattle.minisign.proofs.WrittenLines.{AllGraphic, graphic_base64, trim_graphic, LacksControls, labelled}
use Rattle.minisign.proofs.WrittenLines.{labelled_one_line, lines_labelled, lines_line, lines_last}
use Rattle.minisign.proofs.WrittenLines.{lacks_controls_codes, lacks_controls_graphic}
use Rattle.minisign.proofs.WrittenLines.{one_line_without_controls, strip_none, trimmed_end}
use Rattle.minisign.proofs.ReadTexts.{passed}
use Rattle.minisign.proofs.RecordFields.{joined_fields, one_signature, stored_algorithm, stored_length}
use Rattle.minisign.specs.KeyTexts.{decoded_key}
use Rattle.minisign.proofs.PublicKeyTexts.{encoded_is_decoded}

-- A line that begins with a label passes the test for it, and vice versa.
pub begins : (line label rest : List ℕ) → line ≡ label ++ rest → starts_with eqb line label ≡ true
begins _ _ rest = (starts_is Decides-eqb _ _ _ refl).1 rest

begins_with : (line label : List ℕ) → starts_with eqb line label ≡ true
    → line ≡ label ++ drop (length label) line
begins_with _ _ = (starts_is Decides-eqb _ _ _ refl).0

-- A line that does not begin with a label fails the test for it.
pub begins_not : (line label : List ℕ) → ((rest : List ℕ) → line ≢ label ++ rest) → starts_with eqb line label
    ≡ false
begins_not _ _ h = false_from_ne_true _ (λ t. h _ (begins_with _ _ t))

-- The known algorithms.
abbrev is_known_algorithm : List ℕ → Bool
is_known_algorithm a = bytes_eq a legacy_algorithm || bytes_eq a prehashed_algorithm

-- The test for known algorithms accepts the known algorithms.
pub known_is_accepted : (a : List ℕ) → IsKnownAlgorithm a → is_known_algorithm a ≡ true
known_is_accepted a (inl e) = or_left _ _ ((bytes_eq-Decides a _).1 e)
known_is_accepted a (inr e) = or_right _ _ ((bytes_eq-Decides a _).1 e)

is_known : (a : List ℕ) → is_known_algorithm a ≡ true → IsKnownAlgorithm a
is_known a h = elim (or_cases _ _ h) [
  | inl e ↦ inl ((bytes_eq-Decides a _).0 e)
  | inr e ↦ inr ((bytes_eq-Decides a _).0 e)
]

-- A text that encodes a signature is base64 and decodes to at least 74 bytes, of which the first two are the
-- algorithm.
encodes_tests : (text : List ℕ) (s : SignatureRecord) → Encodes ReadsSignature text s
    → (is_base64 text ≡ true) × (leb 74 (length (base64_bytes text)) ≡ true)
    × (take 2 (base64_bytes text) ≡ s.algorithm)
encodes_tests _ s h =
    let same = bytes_read _ _ h.base64 in (
      is_read _ _ h.base64,
      le-leb 74 _ (rw (sym same) at (stored_length h.bytes s h.reads)),
      ap (take 2) same ∙ stored_algorithm _ s h.reads,
    )

-- The signature in the first 74 bytes.
abbrev signature_of_bytes : List ℕ → SignatureRecord
signature_of_bytes bytes = record {
  algorithm = take 2 bytes;
  keynum = take 8 (drop 2 bytes);
  signature = take 64 (drop 8 (drop 2 bytes));
}

-- Enough bytes begin with a signature.
signature_in_front : (bytes : List ℕ) → 74 ≤ length bytes → ReadsSignature bytes (signature_of_bytes bytes)
signature_in_front bytes l = record {
  algorithm_length = length-take-le 2 _ (omega arith);
  keynum_length = length-take-le 8 _ (omega (arith, length-drop 2 bytes));
  signature_length = length-take-le 64 _ (omega (arith, length-drop 2 bytes, length-drop 8 (drop 2 bytes)));
  front = (
    drop 64 (drop 8 (drop 2 bytes)),
    joined_fields _ _ _ _ _ _ _ (sym (take-append-drop 2 bytes))
        (sym (take-append-drop 8 (drop 2 bytes))) (sym (take-append-drop 64 (drop 8 (drop 2 bytes)))),
  );
}

-- An encoded signature is the one at the front of the decoded bytes.
decoded_signature : (text : List ℕ) (s : SignatureRecord) → Encodes ReadsSignature text s
    → signature_of_bytes (base64_bytes text) ≡ s
decoded_signature text s h =
    let reads = rw (sym (bytes_read text h.bytes h.base64)) at h.reads in
    one_signature _ _ s (signature_in_front _ (stored_length _ s reads)) reads

-- The result of parsing four lines, for each check that may fail and for success.
module _ (a b c d : List ℕ) where
  abbrev read : Result SignatureTextRecord Fault
  read = signature_in_lines (a ∷ b ∷ c ∷ d ∷ [])

  pub other_label : starts_with eqb a untrusted_comment_label ≡ false
      → read ≡ Err (Named UntrustedCommentPrefix)
  other_label label = rw label refl

  module _ (label : starts_with eqb a untrusted_comment_label ≡ true) where
    pub no_base64 : is_base64 (trim b) ≡ false → read ≡ Err (Named SignatureNotBase64)
    no_base64 other = rw (label, other) refl

    pub too_short : is_base64 (trim b) ≡ true → length (base64_bytes (trim b)) < 74
        → read ≡ Err (Named RecordTooShort)
    too_short base64 short = rw (label, base64, lt-leb 74 _ short) refl

    module _ (s : SignatureRecord) (encodes : Encodes ReadsSignature (trim b) s) where
      pub other_trusted_label : starts_with eqb c trusted_comment_label ≡ false
          → read ≡ Err (Named TrustedCommentPrefix)
      other_trusted_label trusted =
          let signature = encodes_tests _ s encodes in
          rw (label, signature.0, signature.1, trusted) refl

      module _ (trusted : starts_with eqb c trusted_comment_label ≡ true) where
        pub unknown : is_known_algorithm s.algorithm ≡ false
            → read ≡ Err (Named UnsupportedSignatureAlgorithm)
        unknown other =
            let signature = encodes_tests _ s encodes in
            rw (label, signature.0, signature.1, trusted, signature.2, other) refl

        module _ (algorithm : is_known_algorithm s.algorithm ≡ true) where
          pub no_comment_base64 : is_base64 (trim d) ≡ false → read ≡ Err (Named SignatureNotBase64)
          no_comment_base64 other =
              let signature = encodes_tests _ s encodes in
              rw (label, signature.0, signature.1, trusted, signature.2, algorithm, other) refl

          pub all_passed : (u t g : List ℕ) → is_base64 (trim d) ≡ true
              → drop (length untrusted_comment_label) a ≡ u
              → trim (drop (length trusted_comment_label) c) ≡ t → base64_bytes (trim d) ≡ g
              → read ≡ Ok
              (record { signature = s; comments = record { untrusted = u; trusted = t; signature = g } })
          all_passed u t g signed is_untrusted is_trusted is_signed =
              let signature = encodes_tests _ s encodes in
              let same = decoded_signature _ s encodes in
              let known = ap is_known_algorithm signature.2 ∙ algorithm in
              rw (label, signature.0, signature.1, trusted, known, signed) (λ i. Ok (record {
                signature = same i;
                comments =
                    record { untrusted = is_untrusted i; trusted = is_trusted i; signature = is_signed i };
              }))

-- A text parses to a signature with comments if the relation holds for it.
pub text_is_read : (text : List ℕ) (t : SignatureTextRecord) → SignatureText text t
    → read_signature text ≡ Ok t
unfolding read_signature
text_is_read _ t h =
    rw h.cut (all_passed _ _ _ _ (begins h.first untrusted_comment_label _ h.untrusted_comment) _ h.signature
    (begins h.third trusted_comment_label _ h.trusted_comment.1)
    (known_is_accepted t.signature.algorithm h.algorithm) _ _ _ (is_read _ _ h.comment_signature)
    (ap (drop (length untrusted_comment_label)) h.untrusted_comment
    ∙ drop-append_seam untrusted_comment_label _)
    (ap (λ l. trim (drop (length trusted_comment_label) l)) h.trusted_comment.1
    ∙ ap trim (drop-append_seam trusted_comment_label _) ∙ h.trusted_comment.2)
    (bytes_read _ _ h.comment_signature))

read_lines : (text : List ℕ) (ls : List (List ℕ)) (t : SignatureTextRecord) → lines text ≡ ls
    → signature_in_lines ls ≡ Ok t → SignatureText text t
read_lines text [] t cut h = cc h
read_lines text (a ∷ []) t cut h = cc h
read_lines text (a ∷ b ∷ []) t cut h = cc h
read_lines text (a ∷ b ∷ c ∷ []) t cut h = cc h
read_lines text (a ∷ b ∷ c ∷ d ∷ later) t cut h =
    let bytes = base64_bytes (trim b) in
    let untrusted = passed _ _ _ t h in
    let base64 = passed _ _ _ t untrusted.1 in
    let long = passed _ _ _ t base64.1 in
    let trusted = passed _ _ _ t long.1 in
    let algorithm = passed _ _ _ t trusted.1 in
    let signed = passed _ _ _ t algorithm.1 in
    let read : SignatureTextRecord = record {
      signature = signature_of_bytes bytes;
      comments = record {
        untrusted = drop (length untrusted_comment_label) a;
        trusted = trim (drop (length trusted_comment_label) c);
        signature = base64_bytes (trim d);
      };
    } in
    let same : read ≡ t = cc signed.1 in
    subst (SignatureText text) same (record {
      first = a;
      second = b;
      third = c;
      fourth = d;
      later = later;
      cut = cut;
      untrusted_comment = begins_with a untrusted_comment_label untrusted.0;
      signature = record {
        bytes = bytes;
        base64 = reads _ base64.0;
        reads = signature_in_front bytes (leb-true 74 _ long.0);
      };
      algorithm = is_known (take 2 bytes) algorithm.0;
      trusted_comment = (_, begins_with c trusted_comment_label trusted.0, refl);
      comment_signature = reads _ signed.0;
    })

read_text : (text : List ℕ) (t : SignatureTextRecord) → read_signature text ≡ Ok t → SignatureText text t
unfolding read_signature
read_text _ t h = read_lines _ _ t refl h

-- The function read_signature agrees with the grammar SignatureText.
pub read_as : (text : List ℕ) → IsReading (SignatureText text) (read_signature text)
read_as _ = record { value = λ t. (read_text _ t, text_is_read _ t) }

-- Parsing a text depends only on its lines.
pub of_lines : (text : List ℕ) (ls : List (List ℕ)) → lines text ≡ ls
    → read_signature text ≡ signature_in_lines ls
unfolding read_signature
of_lines _ _ cut = ap signature_in_lines cut

-- The text that `to_string` writes, with its labels spelled out, is signature_text of the box.
pub spelled_text : (s : SignatureRecord) (c : CommentsRecord) (u b t g : List ℕ) → u ≡ c.untrusted
    → b ≡ base64_of (signature_bytes s) → t ≡ c.trusted → g ≡ base64_of c.signature
    → codes "untrusted comment: "
    ++ (u ++ (10 ∷ (b ++ (10 ∷ (codes "trusted comment: " ++ (t ++ (10 ∷ (g ++ 10 ∷ []))))))))
    ≡ signature_text s c
unfolding untrusted_comment_label trusted_comment_label
spelled_text s c u b t g same_u same_b same_t same_g =
    let encoded = base64_of (signature_bytes s) in
    let last = line (base64_of c.signature) in
    rw (same_u, same_b, same_t, same_g) (sym (
    labelled (codes "untrusted comment: ") c.untrusted
    (line encoded ++ (line (codes "trusted comment: " ++ c.trusted) ++ last))
    ∙ ap (λ r. codes "untrusted comment: " ++ (c.untrusted ++ (10 ∷ r)))
    (append_assoc encoded (10 ∷ []) _
    ∙ ap (λ r. encoded ++ (10 ∷ r)) (labelled (codes "trusted comment: ") c.trusted last))
    ))

pub untrusted_label_lacks_controls : LacksControls untrusted_comment_label
unfolding untrusted_comment_label
untrusted_label_lacks_controls = lacks_controls_codes (codes "untrusted comment: ") refl

pub untrusted_label_not_empty : 0 < length untrusted_comment_label
unfolding untrusted_comment_label
untrusted_label_not_empty = lit< tt

trusted_label_lacks_controls : LacksControls trusted_comment_label
unfolding trusted_comment_label
trusted_label_lacks_controls = lacks_controls_codes (codes "trusted comment: ") refl

trusted_label_not_empty : 0 < length trusted_comment_label
unfolding trusted_comment_label
trusted_label_not_empty = lit< tt

-- A text that was written parses to its signature and comments, except for a carriage return at the
-- end of the untrusted comment.
module _ (s : SignatureRecord) (c : CommentsRecord)
    (encodes : Encodes ReadsSignature (base64_of (signature_bytes s)) s)
    (signed : IsBase64Of (base64_of c.signature) c.signature)
    (one : AreOneLine c.untrusted c.trusted) (algorithm : IsKnownAlgorithm s.algorithm) where
  graphic : AllGraphic (base64_of (signature_bytes s))
  graphic = graphic_base64 _
      (front_bytes (signature_bytes s) _ (rw encodes.reads.front.1 at encodes.base64.each))

  graphic_comment : AllGraphic (base64_of c.signature)
  graphic_comment = graphic_base64 _ signed.each

  written_lines : lines (signature_text s c)
      ≡ (untrusted_comment_label ++ strip_carriage_return c.untrusted) ∷ base64_of (signature_bytes s)
      ∷ (trusted_comment_label ++ c.trusted) ∷ base64_of c.signature ∷ []
  written_lines =
      lines_labelled _ _ _ untrusted_label_lacks_controls untrusted_label_not_empty one.untrusted_one_line
      ∙ ap (λ l. (untrusted_comment_label ++ strip_carriage_return c.untrusted) ∷ l)
      (lines_line _ _ (one_line_without_controls _ (lacks_controls_graphic _ graphic))
      ∙ ap (λ l. base64_of (signature_bytes s) ∷ l)
      (lines_line _ _ (labelled_one_line _ _ trusted_label_lacks_controls trusted_label_not_empty
      one.trusted_one_line (trimmed_end _ one.trusted_trimmed))
      ∙ ap (λ l. (trusted_comment_label ++ c.trusted) ∷ l)
      (lines_last _ (one_line_without_controls _ (lacks_controls_graphic _ graphic_comment)))))

  pub written_text : read_signature_box (signature_text s c)
      ≡ Ok (record { signature = s; comments = Some (comments_read_back c) })
  written_text = ap (map_ok box_of) (text_is_read _ _ (record {
    first = untrusted_comment_label ++ strip_carriage_return c.untrusted;
    second = base64_of (signature_bytes s);
    third = trusted_comment_label ++ c.trusted;
    fourth = base64_of c.signature;
    later = [];
    cut = written_lines;
    untrusted_comment = refl;
    signature = rw (sym (trim_graphic _ graphic)) at encodes;
    algorithm = algorithm;
    trusted_comment = (c.trusted, refl, one.trusted_trimmed);
    comment_signature = rw (sym (trim_graphic _ graphic_comment)) at signed;
  }))

-- Comments that satisfy AreReadBack are read back unchanged.
pub same_comments : (c : CommentsRecord) → AreReadBack c.untrusted c.trusted → comments_read_back c ≡ c
same_comments c keeps = ap (λ u. record c { untrusted = u }) (strip_none _ keeps.untrusted_end)

-- If a prefix of the bytes begins with a record, so do the bytes.
longer : (bytes record_bytes rest : List ℕ) (n : ℕ) → take n bytes ≡ record_bytes ++ rest
    → bytes ≡ record_bytes ++ (rest ++ drop n bytes)
longer bytes record_bytes rest n front =
    sym (take-append-drop n bytes) ∙ ap (λ x. x ++ drop n bytes) front
    ∙ append_assoc record_bytes rest _

-- A record at the front of the decoded bytes in a buffer is the record that the text encodes.
module _ (text room bytes : List ℕ) (n : ℕ) (base64 : IsBase64Of text bytes)
    (front : take n room ≡ take n bytes) where
  encoded_key : (k : PublicKeyRecord) → ReadsPublicKey (take n room) k → Encodes ReadsPublicKey text k
  encoded_key k h = record {
    bytes = bytes;
    base64 = base64;
    reads = record {
      algorithm_length = h.algorithm_length;
      keynum_length = h.keynum_length;
      key_length = h.key_length;
      front = (
        h.front.0 ++ drop n bytes,
        longer _ _ _ n (sym front ∙ h.front.1),
      );
    };
  }

  pub encoded_signature : (s : SignatureRecord) → ReadsSignature (take n room) s
      → Encodes ReadsSignature text s
  encoded_signature s h = record {
    bytes = bytes;
    base64 = base64;
    reads = record {
      algorithm_length = h.algorithm_length;
      keynum_length = h.keynum_length;
      signature_length = h.signature_length;
      front = (
        h.front.0 ++ drop n bytes,
        longer _ _ _ n (sym front ∙ h.front.1),
      );
    };
  }

-- If fewer than m bytes were decoded into a buffer with space for m, the text decodes to fewer than m
-- bytes.
pub short_front : (text room bytes : List ℕ) (n cap m : ℕ) → IsBase64Of text bytes
    → n ≡ min (length bytes) cap → n ≤ length room → m ≤ cap → length (take n room) < m
    → (is_base64 text ≡ true) × (length (base64_bytes text) < m)
short_front text room bytes n cap m base64 count fits least short =
    let same = length-take-le n _ fits in
    let few : length bytes < m = omega (arith, same, count, short) in
    base64_of_fewer_bytes _ _ _ m base64 refl few

-- The front of the decoded bytes parses like all of them.
pub front_read : (fault : NamedFault) (text room bytes : List ℕ) (n : ℕ) (r : Result PublicKeyRecord Fault)
    → IsBase64Of text bytes → n ≡ min (length bytes) 42
    → n ≤ length room → take n room ≡ take n bytes → MatchResult r (ReadsPublicKey (take n room))
    (λ e. (e ≡ Named RecordTooShort) × (length (take n room) < 42))
    → r ≡ decoded_key fault text
front_read _ _ _ bytes n (Ok k) base64 _ _ front reads =
    sym (encoded_is_decoded _ _ k (encoded_key _ _ bytes n base64 front k reads))
front_read fault text room bytes n (Err e) base64 count fits front refused =
    let short = short_front _ _ _ n 42 42 base64 count fits (omega arith) refused.1 in
    rw (short.0, lt-leb 42 _ short.1) (ap Err refused.0)

-- The value of first_64, for fewer than 64 bytes and for at least 64.
few_bytes : (bytes : List ℕ) → length bytes < 64 → first_64 bytes ≡ None
few_bytes bytes few = ap (λ b. cond b (Some (take 64 bytes)) None) (lt-leb 64 _ few)

enough_bytes : (bytes : List ℕ) → 64 ≤ length bytes → first_64 bytes ≡ Some (take 64 bytes)
enough_bytes bytes enough = ap (λ b. cond b (Some (take 64 bytes)) None) (le-leb 64 _ enough)

-- first_64 of the at most 66 bytes that are decoded is first_64 of all bytes.
pub front_64 : (bytes room : List ℕ) (n : ℕ) → n ≡ min (length bytes) 66 → n ≤ length room
    → take n room ≡ take n bytes → first_64 (take n room) ≡ first_64 bytes
front_64 bytes room n count fits front =
    let same = length-take-le n _ fits in
    ⊎_elim (λ few. few_bytes _ (omega (arith, same, count)) ∙ sym (few_bytes _ few))
    (λ enough. enough_bytes _ (omega (arith, same, count))
    ∙ ap (λ x. Some (take 64 x)) front
    ∙ ap Some (take-take 64 n _ (omega (arith, count)))
    ∙ sym (enough_bytes _ enough)) (cases_lt (length bytes) 64)

-- The base64 of a signature is longer than the signature.
pub long_enough : (text : List ℕ) (s : SignatureRecord) → Encodes ReadsSignature text s → 64 ≤ length text
long_enough text s h = omega
    (arith, stored_length h.bytes s h.reads, ap length h.base64.encoded, length_base64 h.bytes)
