-- Lemmas about base64: a text is the base64 of at most one list of bytes, and its characters are
-- neither line feeds nor white space. In base64 that is decoded in pieces, all pieces except the
-- last are whole groups of four characters without padding.
use Rattle.std.proofs.Common.{◌≡◌, ℕ, zero, suc, ◌%◌, ◌<◌, true, false, List, [], ◌∷◌, length, map, refl}
use Rattle.std.proofs.Common.{sym, ap, subst, ◌∙◌, arith, Option, None, Some, Ok, Err, ◌+◌, ◌*◌, ◌/◌, ◌≤◌}
use Rattle.std.proofs.Common.{Bool, ◌++◌, take, drop, is_some, MatchOption, Result, length-append}
use Rattle.std.proofs.Common.{length-take-le, take-append-drop}
use Rattle.minisign.proofs.Common.{false_from_ne_true, bytes_eq-Decides, standard, IsBytes, IsDecodeFailure}
use Rattle.minisign.proofs.Common.{decode_of, decoded_bytes_of, decode_slice_of, decode_of-encode_of}
use Rattle.minisign.proofs.Common.{decode_of_strict, encode_of-append, front_bytes, length-replicate}
use Rattle.minisign.proofs.Common.{take-append_seam, drop-append_seam, unpadded_len, padding_len}
use Rattle.minisign.proofs.Common.{length-encode_symbols}
use Rattle.base64.specs.declared.decode.DecodeError.{DecodeError}
use Rattle.base64.specs.declared.decode.DecodeAllocError.{DecodeAllocError}
use Rattle.base64.specs.Decode.{decode_outcome, decode_error, decoded_estimate, or_error}
use Rattle.base64.specs.declared.decode.DecodeSliceError.{DecodeSliceError}
use Rattle.base64.proofs.Decoding.{slice_result_room, or_error_ok}
use Rattle.base64.specs.declared.decode.DecodeAllocError.TheVariants.{DecodeError as Failed}
use Rattle.minisign.specs.Texts.{IsBase64Of, base64_of, base64_bytes, is_base64}

-- Numbers reduced modulo 256 are bytes.
pub all_bytes : (xs : List ℕ) → IsBytes (map (λ b. b % 256) xs)
all_bytes [] i = omega arith
all_bytes (x ∷ xs) zero = omega arith
all_bytes (x ∷ xs) (suc i) = all_bytes xs i

-- Reducing bytes modulo 256 does not change them.
reduced_bytes_same : (xs : List ℕ) → IsBytes xs → map (λ b. b % 256) xs ≡ xs
reduced_bytes_same [] h = refl
reduced_bytes_same (x ∷ xs) h =
    let small = h 0 in
    let same : x % 256 ≡ x = omega arith in
    λ i. same i ∷ reduced_bytes_same xs (λ k. h (suc k)) i

outcome_bytes : (error : Option DecodeError) (bytes b : List ℕ) → decode_outcome error bytes ≡ Ok b
    → bytes ≡ b
outcome_bytes None bytes b e = cc
outcome_bytes (Some x) bytes b e = cc

-- Base64 decodes to the bytes that it encodes.
pub decoded : (s b : List ℕ) → IsBase64Of s b → decode_of standard s ≡ Ok b
unfolding base64_of
decoded s b h = ap (decode_of standard) h.encoded ∙ decode_of-encode_of standard b refl h.each

-- If a text is the base64 of some bytes, base64_bytes gives these bytes.
pub bytes_read : (s b : List ℕ) → IsBase64Of s b → base64_bytes s ≡ b
unfolding base64_bytes
bytes_read s b h = ap (map (λ b. b % 256)) (outcome_bytes _ _ b (decoded s b h)) ∙ reduced_bytes_same b h.each

-- A text is the base64 of at most one list of bytes.
pub one_decoding : (s a b : List ℕ) → IsBase64Of s a → IsBase64Of s b → a ≡ b
one_decoding s a b first second = sym (bytes_read s a first) ∙ bytes_read s b second

-- The base64 of bytes passes the base64 test.
pub is_read : (s b : List ℕ) → IsBase64Of s b → is_base64 s ≡ true
unfolding is_base64
is_read s b h = (bytes_eq-Decides s _).1 (h.encoded ∙ ap base64_of (sym (bytes_read s b h)))

-- A text that passes the base64 test is the base64 of the bytes that base64_bytes gives.
pub reads : (s : List ℕ) → is_base64 s ≡ true → IsBase64Of s (base64_bytes s)
unfolding is_base64 base64_bytes
reads s h = record { each = all_bytes _; encoded = (bytes_eq-Decides s _).0 h }

-- A text that does not decode is not base64.
pub not_read : (s t : List ℕ) (e : DecodeAllocError) (d : DecodeError) → s ≡ t → IsDecodeFailure standard s e
    → e ≡ Failed d → is_base64 t ≡ false
not_read s t e d same failure is =
    let failed = rw same at (subst (IsDecodeFailure standard s) is failure) in
    false_from_ne_true _
    (λ read. let ok = sym (decoded t _ (reads t read)) ∙ failed in cc ok)

-- The base64 of fewer than n bytes passes the base64 test, and decodes to fewer than n bytes.
pub base64_of_fewer_bytes : (text b d : List ℕ) (n : ℕ) → IsBase64Of text b → d ≡ b → length d < n
    → (is_base64 text ≡ true) × (length (base64_bytes text) < n)
base64_of_fewer_bytes text b d n h same short = (
  is_read _ b h,
  rw (same ∙ sym (bytes_read text b h)) at short,
)

-- If some text is the base64 of bytes, then base64_of gives the base64 of these bytes.
pub base64_of_bytes : (t b d : List ℕ) → IsBase64Of t b → b ≡ d → IsBase64Of (base64_of d) d
base64_of_bytes t b d h same = record { each = rw same at h.each; encoded = refl }

-- The error of decoding into a slice that is large enough.
error_of : List ℕ → Option DecodeError
error_of s =
    decode_error standard.decode_table standard.padding.value standard.config.decode_allow_trailing_bits
    standard.config.decode_padding_mode s

-- Decoding into a slice that is large enough gives the error of the text, or the number of bytes.
slice_result_of_text : (s : List ℕ) (room : ℕ) → decoded_estimate (length s) ≤ room
    → decode_slice_of standard s room
    ≡ or_error (error_of s) (Ok (length (decoded_bytes_of standard s)))
unfolding error_of
slice_result_of_text s room fits =
    slice_result_room standard.decode_table _ _ standard.config.decode_allow_trailing_bits
    standard.config.decode_padding_mode _ fits

outcome_ok : (x : Option DecodeError) (d b : List ℕ) → decode_outcome x d ≡ Ok b → x ≡ None
outcome_ok None d b h = refl
outcome_ok (Some e) d b h = cc h

-- A text that was decoded is base64.
pub piece_read : (s : List ℕ) (room n : ℕ) (r : Result ℕ DecodeSliceError) → decoded_estimate (length s)
    ≤ room → IsBytes s → IsBytes (decoded_bytes_of standard s)
    → r ≡ decode_slice_of standard s room → r ≡ Ok n → IsBase64Of s (decoded_bytes_of standard s)
    × (length (decoded_bytes_of standard s) ≡ n)
unfolding error_of base64_of
piece_read s _ n r fits each bytes value ok =
    let parts = or_error_ok (error_of s) (length (decoded_bytes_of standard s)) n
    (sym (slice_result_of_text s _ fits) ∙ sym value ∙ ok) in
    let whole = ap (λ e. decode_outcome e (decoded_bytes_of standard s)) parts.0 in
    (record { each = bytes; encoded = decode_of_strict standard s _ (refl, refl) each whole }, parts.1)

-- A text that was not decoded is not base64.
pub piece_unread : (s : List ℕ) (room : ℕ) (e : DecodeSliceError) (r : Result ℕ DecodeSliceError)
    → decoded_estimate (length s) ≤ room
    → r ≡ decode_slice_of standard s room → r ≡ Err e → is_base64 s ≡ false
unfolding error_of
piece_unread s room e r fits value err = false_from_ne_true _ (λ read.
    let none = outcome_ok _ _ _ (decoded s _ (reads s read)) in
    let no = sym err ∙ value ∙ slice_result_of_text s _ fits
    ∙ ap (λ x. or_error x (Ok (length (decoded_bytes_of standard s)))) none in
    cc no)

-- The base64 of n bytes has 4 * ((n + 2) / 3) characters.
pub length_base64 : (b : List ℕ) → length (base64_of b) ≡ 4 * ((length b + 2) / 3)
unfolding base64_of
length_base64 b =
    let n = length b in
    let exact : unpadded_len n + padding_len n ≡ 4 * ((n + 2) / 3) = omega arith in
    length-append _ _ ∙ (λ i. length-encode_symbols standard.encode_table b i + length-replicate {A = ℕ}
    (padding_len n) 61 i) ∙ exact

-- The concatenation of two lists of bytes is a list of bytes.
pub both_bytes : (a b : List ℕ) → IsBytes a → IsBytes b → IsBytes (a ++ b)
both_bytes [] b h j i = j i
both_bytes (x ∷ a) b h j zero = h 0
both_bytes (x ∷ a) b h j (suc i) = both_bytes a b (λ k. h (suc k)) j i

-- If the concatenation of two lists is a list of bytes, the second list is.
back_bytes : (a b : List ℕ) → IsBytes (a ++ b) → IsBytes b
back_bytes [] b h = h
back_bytes (x ∷ a) b h = back_bytes a b (λ k. h (suc k))

-- The base64 of whole groups of three bytes, followed by the base64 of other bytes, is the base64
-- of all of them.
pub joined : (s t a b : List ℕ) → IsBase64Of s a → IsBase64Of t b → length a % 3 ≡ 0
    → IsBase64Of (s ++ t) (a ++ b)
unfolding base64_of
joined s t a b h j whole = record {
  each = both_bytes a b h.each j.each;
  encoded = (λ i. h.encoded i ++ j.encoded i) ∙ sym (encode_of-append standard a b whole);
}

split : (a c : List ℕ) → length a % 3 ≡ 0 → base64_of (a ++ c) ≡ base64_of a ++ base64_of c
unfolding base64_of
split a c whole = encode_of-append standard a c whole

-- Base64 that is cut after whole groups, with some characters after the cut.
pub record IsCut (s t b : List ℕ) : Type 0 where
  pub front : List ℕ
  pub back : List ℕ
  pub whole : b ≡ front ++ back
  pub front_read : IsBase64Of s front
  pub front_length : length front ≡ length s / 4 * 3
  pub back_read : IsBase64Of t back

-- Base64 can be cut after whole groups of four characters, if some characters are left.
pub cut : (s t b : List ℕ) → IsBase64Of (s ++ t) b → length s % 4 ≡ 0 → 0 < length t → IsCut s t b
cut s t b h groups some =
    let k = length s / 4 in
    let all = sym (length-append s t) ∙ ap length h.encoded
    ∙ length_base64 b in
    let fits : k * 3 ≤ length b = omega arith in
    let a = take (k * 3) b in
    let c = drop (k * 3) b in
    let la = length-take-le _ b fits in
    let whole = sym (take-append-drop (k * 3) b) in
    let each = rw whole at h.each in
    let apart = h.encoded ∙ ap base64_of whole
    ∙ split a c (omega (arith, la)) in
    let same_length : length s ≡ length (base64_of a) = omega (arith, length_base64 a, la) in
    let front = sym (take-append_seam s t) ∙ ap (λ n. take n (s ++ t)) same_length
    ∙ ap (take (length (base64_of a))) apart ∙ take-append_seam _ _ in
    let back = sym (drop-append_seam s t) ∙ ap (λ n. drop n (s ++ t)) same_length
    ∙ ap (drop (length (base64_of a))) apart ∙ drop-append_seam (base64_of a) _ in
    record {
      front = a;
      back = c;
      whole = whole;
      front_read = record { each = front_bytes a c each; encoded = front };
      front_length = la;
      back_read = record { each = back_bytes a c each; encoded = back };
    }

same_truth : (x y : Bool) → (x ≡ true → y ≡ true) → (y ≡ true → x ≡ true) → x ≡ y
same_truth true y h j = sym (h refl)
same_truth false y h j = sym (false_from_ne_true y (λ t. let no = j t in cc no))

-- A text whose first piece s consists of whole groups and is base64 without padding is base64 exactly if
-- the rest t is.
module _ (s t text : List ℕ) (is : text ≡ s ++ t) (groups : length s % 4 ≡ 0) (some : 0 < length t) where
  cut_text : is_base64 text ≡ true → IsCut s t (base64_bytes text)
  cut_text h = cut s t _ (subst (λ x. IsBase64Of x (base64_bytes text)) is (reads text h)) groups some

  pub piece_judged : (a : List ℕ) → IsBase64Of s a → length a ≡ length s / 4 * 3
      → is_base64 text ≡ is_base64 t
  piece_judged a h long = same_truth _ _
      (λ all. let parts = cut_text all in is_read t _ parts.back_read) (λ rest. is_read _ _
      (rw (sym is) at (joined s t a (base64_bytes t) h (reads t rest) (omega (arith, long)))))

  -- The text is not base64 if s is not base64 or has padding, or if t is not base64.
  pub piece_refused : is_base64 s ≡ false → is_base64 text ≡ false
  piece_refused none = false_from_ne_true _ (λ all.
      let parts = cut_text all in
      let no = sym none ∙ is_read s _ parts.front_read in
      cc no)

  pub piece_padded : (a : List ℕ) (n : ℕ) → IsBase64Of s a → n ≡ length a → (n ≡ length s / 4 * 3 → ⊥)
      → is_base64 text ≡ false
  piece_padded a n h long differs = false_from_ne_true _ (λ all.
      let parts = cut_text all in
      let same = one_decoding s _ _ h parts.front_read in
      differs (long ∙ ap length same ∙ parts.front_length))

  pub rest_refused : is_base64 t ≡ false → is_base64 text ≡ false
  rest_refused none = false_from_ne_true _ (λ all.
      let parts = cut_text all in
      let no = sym none ∙ is_read t _ parts.back_read in
      cc no)

-- The first n characters and the rest give the text when they are joined.
pub rejoined : (text s t : List ℕ) (n : ℕ) → s ≡ take n text → t ≡ drop n text → text ≡ s ++ t
rejoined text s t n front back = sym ((λ i. front i ++ back i) ∙ take-append-drop n text)

-- The last piece is decoded exactly if it is base64.
pub judged : (t room : List ℕ) (r : Option ℕ)
    → MatchOption r (is_base64 t ≡ false) (λ n. (bytes : List ℕ) × IsBase64Of t bytes × (n ≡ length bytes)
    × (n ≤ length room) × (take n room ≡ bytes))
    → is_some r ≡ is_base64 t
judged t _ None none = sym none
judged t _ (Some n) h = sym (is_read t _ h.1)
