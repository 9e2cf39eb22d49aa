-- Proves that the version number, the key and the digest of a record can be read back, and that a record has
-- at most one version number for a field.
use Rattle.std.specs.Prelude.{codes, slice_index, ◌*◌}
use Rattle.std.proofs.Common.{List, Some, [], ap, append_assoc, arith, drop, get_or, length, length-append}
use Rattle.std.proofs.Common.{refl, subst, suc, sym, take, true, zero, ℕ, ◌++◌, ◌+◌, ◌-◌, ◌<◌, ◌^◌, ◌∙◌, ◌∷◌}
use Rattle.std.proofs.Common.{◌≡◌, ◌≤◌}
use Rattle.std.proofs.lemmas.Fmt.{IsAscii-decimal, decimal_is_IsNumeral, length-decimal-le}
use Rattle.std.specs.Str.{IsUtf8}
use Rattle.std.proofs.lemmas.Str.{IsUtf8-append, IsUtf8-from_ascii}
use Rattle.std.specs.Fmt.{decimal}
use Rattle.std.proofs.lemmas.List.{drop_at, take_at}
use Rattle.std.proofs.Math.Seq.{get_or-append_right}
use Rattle.std.proofs.lemmas.Bool.{le-leb, lt-leb}
use Rattle.std.specs.Option.{unwrap_or}
use Rattle.std.specs.Int.{bytes_low_first, to_le_bytes, w64}
use Rattle.std.specs.List.{flat_map}
use Rattle.hex.specs.Hex.{IsBytes, encode_lower, lower_digits}
use Rattle.hex.proofs.HexLemmas.{decode_sized-encode_lower, length-encode_with}
use Rattle.minisign_hash.specs.Blake2b.{blake2b_digest, compress}
use Rattle.minisign_hash.specs.Words.{bytes_of_words64}
use Rattle.minisign_install.specs.RecordTexts.{IsNumberFor, has_last_lines, last_lines, record_digest}
use Rattle.minisign_install.specs.RecordTexts.{record_of}
use Rattle.minisign_install.specs.RecordTexts.{IsRecordOf, record_key, record_text}
use Rattle.minisign_install.specs.Comments.{IsNumberText, Numbering, Timestamp, Version, number_label, strip}
use Rattle.minisign_install.proofs.Fields.{strips}

-- == A digest ==

-- The bytes of a number, of two lists that are joined, of words and of the beginning of a list are below 256.
bytes_of_number : (k i n j : ℕ) → slice_index (bytes_low_first i k n) j < 256
bytes_of_number zero i n j = omega arith
bytes_of_number (suc k) zero n zero = omega arith
bytes_of_number (suc k) (suc i) n zero = omega arith
bytes_of_number (suc k) i n (suc j) = bytes_of_number k (suc i) n j

both_bytes : (a b : List ℕ) → IsBytes a → IsBytes b → IsBytes (a ++ b)
both_bytes [] b h j i = j i
both_bytes (x ∷ a) b h j zero = h 0
both_bytes (x ∷ a) b h j (suc i) = both_bytes a b (λ k. h (suc k)) j i

words_bytes : (words : List ℕ) → IsBytes (flat_map (to_le_bytes w64) words)
words_bytes [] = λ i. omega arith
words_bytes (w ∷ words) =
    both_bytes (to_le_bytes w64 w) (flat_map (to_le_bytes w64) words) (bytes_of_number 8 0 w)
    (words_bytes words)

front_bytes : (n : ℕ) (xs : List ℕ) → IsBytes xs → IsBytes (take n xs)
front_bytes zero xs h i = omega arith
front_bytes (suc n) [] h i = h i
front_bytes (suc n) (x ∷ xs) h zero = h 0
front_bytes (suc n) (x ∷ xs) h (suc i) = front_bytes n xs (λ k. h (suc k)) i

-- A BLAKE2b digest consists of 64 bytes.
pub digest_bytes : (m : List ℕ) → IsBytes (blake2b_digest 64 m)
unfolding blake2b_digest bytes_of_words64
digest_bytes m = front_bytes 64 _ (words_bytes _)

pub length_digest : (m : List ℕ) → length (blake2b_digest 64 m) ≡ 64
unfolding blake2b_digest compress bytes_of_words64
length_digest m = refl

-- == A record ==

-- A record has at most one version number for a field.
pub same_number : (numbering : Numbering) (bytes : List ℕ) (n m : ℕ) → IsNumberFor numbering bytes n
    → IsNumberFor numbering bytes m → n ≡ m
same_number numbering bytes n m a b = sym a.number.value_is ∙ b.number.value_is

label_short : (numbering : Numbering) → length (number_label numbering) ≤ 10
label_short Timestamp = omega arith
label_short Version = omega arith

-- The first line of a record has at most 30 bytes.
line_short : (numbering : Numbering) (n : ℕ) → n < 2 ^ 64 → length (number_label numbering ++ decimal n) ≤ 30
line_short numbering n bound =
    omega (
      arith,
      length-append (number_label numbering) (decimal n),
      label_short numbering,
      length-decimal-le 20 n (omega arith) (omega arith) bound,
    )

-- The length of the two last lines.
pub length-last_lines : (key digest : List ℕ)
    → length (last_lines key digest) ≡ 2 + 2 * length key + 2 * length digest
length-last_lines key digest =
    omega (
      arith,
      length-append (10 ∷ encode_lower key) (10 ∷ encode_lower digest),
      length-encode_with lower_digits key,
      length-encode_with lower_digits digest,
    )

module _ (numbering : Numbering) (n : ℕ) (bound : n < 2 ^ 64) (key digest : List ℕ) (key_whole : length key
    ≡ 32) (digest_whole : length digest ≡ 64) where
  -- The first line of a record, without its line feed.
  abbrev line : List ℕ
  line = number_label numbering ++ decimal n

  len : length (line ++ last_lines key digest) ≡ length line + 194
  len = omega (
    arith,
    length-append line (last_lines key digest),
    length-last_lines key digest,
    key_whole,
    digest_whole,
  )

  -- A line feed follows the first line.
  ends : slice_index (line ++ last_lines key digest) (length (line ++ last_lines key digest) - 194) ≡ 10
  ends =
      let at : length (line ++ last_lines key digest) - 194 - length line ≡ 0 = omega (arith, len) in
      get_or-append_right line (last_lines key digest) (length (line ++ last_lines key digest) - 194) 0
      (omega (arith, len)) ∙ ap (λ i. get_or (last_lines key digest) i 0) at

  -- A record that is written has three lines, and the first one has the version number (text_of).
  is_written : has_last_lines (record_of numbering n key digest) ≡ true
  is_written =
      rw (
        le-leb 194 (length (record_of numbering n key digest)) (omega (arith, len)),
        le-leb (length (record_of numbering n key digest)) 258
            (omega (arith, len, line_short numbering n bound)),
        ends,
      ) refl

  text_of : record_text (record_of numbering n key digest) ≡ line
  text_of =
      let xs = record_of numbering n key digest in
      let at : length xs - 194 ≡ length line = omega (arith, len) in
      rw (lt-leb (length xs) 64 (omega (arith, len)), is_written) (ap (λ i. take i xs) at
      ∙ take_at line (last_lines key digest) (length line) refl)

-- The labels are UTF-8.
pub label_utf8 : (numbering : Numbering) → IsUtf8 (number_label numbering)
unfolding lib.Utf8.encode
label_utf8 Timestamp = (codes "timestamp:", (refl, refl))
label_utf8 Version = (codes "version:", (refl, refl))

-- A record has the version number that it was written with.
pub record_reads : (numbering : Numbering) (n : ℕ) → n < 2 ^ 64 → (key digest : List ℕ) → length key ≡ 32
    → length digest ≡ 64 → IsNumberFor numbering (record_of numbering n key digest) n
record_reads numbering n bound key digest key_whole digest_whole =
    let (numeral, value) = decimal_is_IsNumeral n bound in
    let number : IsNumberText (decimal n) n = record { numeral = numeral; value_is = value; bound = bound } in
    let same = sym (text_of numbering n bound key digest key_whole digest_whole) in record {
      utf8 = subst IsUtf8 same
          (IsUtf8-append (number_label numbering) (decimal n) (label_utf8 numbering)
          (IsUtf8-from_ascii (decimal n) (IsAscii-decimal n bound)));
      number =
          subst (λ t. IsNumberText (unwrap_or (strip (number_label numbering) t) t) n) same
          (subst (λ v. IsNumberText (unwrap_or v (number_label numbering ++ decimal n)) n)
          (sym (strips (number_label numbering) (decimal n))) number);
    }

-- record_digest returns the digest that the record was written with.
pub digest_reads : (numbering : Numbering) (n : ℕ) → n < 2 ^ 64 → (key digest : List ℕ) → length key ≡ 32
    → length digest ≡ 64 → IsBytes digest → record_digest (record_of numbering n key digest) ≡ Some digest
digest_reads numbering n bound key digest key_whole digest_whole bytes =
    let xs = record_of numbering n key digest in
    let whole = len numbering n bound key digest key_whole digest_whole in
    let front = (number_label numbering ++ decimal n) ++ ((10 ∷ encode_lower key) ++ (10 ∷ [])) in
    let split : xs ≡ front ++ encode_lower digest =
    ap (λ t. (number_label numbering ++ decimal n) ++ t)
    (sym (append_assoc (10 ∷ encode_lower key) (10 ∷ []) (encode_lower digest)))
    ∙ sym (append_assoc (number_label numbering ++ decimal n) ((10 ∷ encode_lower key) ++ (10 ∷ []))
    (encode_lower digest)) in
    let digits = length-encode_with lower_digits digest in
    let at : length xs - 128 ≡ length front =
    omega (arith, ap length split, length-append front (encode_lower digest), digits, digest_whole) in
    let tail : drop (length xs - 128) xs ≡ encode_lower digest =
    ap (λ i. drop i xs) at ∙ ap (drop (length front)) split
    ∙ drop_at front (encode_lower digest) (length front) refl in
    rw (
      is_written numbering n bound key digest key_whole digest_whole,
      tail,
      decode_sized-encode_lower digest 64 digest_whole bytes,
    ) refl

-- record_key returns the key that the record was written with.
pub key_reads : (numbering : Numbering) (n : ℕ) → n < 2 ^ 64 → (key digest : List ℕ) → length key ≡ 32
    → length digest ≡ 64 → IsBytes key → record_key (record_of numbering n key digest) ≡ Some key
key_reads numbering n bound key digest key_whole digest_whole bytes =
    let xs = record_of numbering n key digest in
    let whole = len numbering n bound key digest key_whole digest_whole in
    let line = number_label numbering ++ decimal n in
    let rest = encode_lower key ++ (10 ∷ encode_lower digest) in
    let split : xs ≡ (line ++ (10 ∷ [])) ++ rest = sym (append_assoc line (10 ∷ []) rest) in
    let at : length xs - 193 ≡ length (line ++ (10 ∷ [])) =
    omega (arith, whole, length-append line (10 ∷ [])) in
    let tail : drop (length xs - 193) xs ≡ rest =
    ap (λ i. drop i xs) at ∙ ap (drop (length (line ++ (10 ∷ [])))) split
    ∙ drop_at (line ++ (10 ∷ [])) rest (length (line ++ (10 ∷ []))) refl in
    let digits : 64 ≡ length (encode_lower key) =
    omega (arith, length-encode_with lower_digits key, key_whole) in
    let text : take 64 (drop (length xs - 193) xs) ≡ encode_lower key =
    ap (take 64) tail ∙ ap (λ i. take i rest) digits
    ∙ take_at (encode_lower key) (10 ∷ encode_lower digest) (length (encode_lower key)) refl in
    rw (
      is_written numbering n bound key digest key_whole digest_whole,
      text,
      decode_sized-encode_lower key 32 key_whole bytes,
    ) refl

-- A record has the version number, the key and the digest that it was written with.
pub reads_back : (numbering : Numbering) (n : ℕ) → n < 2 ^ 64 → (key digest : List ℕ) → length key ≡ 32
    → length digest ≡ 64 → IsBytes key → IsBytes digest
    → IsRecordOf numbering n key digest (record_of numbering n key digest)
reads_back numbering n bound key digest key_whole digest_whole key_bytes digest_bytes = record {
  number = record_reads numbering n bound key digest key_whole digest_whole;
  names = key_reads numbering n bound key digest key_whole digest_whole key_bytes;
  fits = digest_reads numbering n bound key digest key_whole digest_whole digest_bytes;
}
