-- Lemmas about secret key texts: the function that parses them and the relation agree; and parsing
-- in place, which sees only the front of the decoded bytes.
use Rattle.std.proofs.Common.{◌≡◌, ℕ, ◌+◌, ◌≤◌, List, [], ◌∷◌, ◌++◌, length, take, drop, refl, sym, ap, ◌∙◌}
use Rattle.std.proofs.Common.{arith, le-leb, leb-true, drop-drop, length-append, length-take-le, length-drop}
use Rattle.std.proofs.Common.{take-append-drop, Ok, take-take, ◌<◌, min, Err, append_assoc}
use Rattle.minisign.proofs.Common.{lines, SecretKeyNotBase64, RecordTooShort, lt-leb, Named}
use Rattle.minisign.specs.Records.{SecretKeyRecord, ReadsSecretKey, secret_key_bytes}
use Rattle.minisign.specs.KeyTexts.{SecretKeyText, read_secret_key, read_secret_key_bytes}
use Rattle.minisign.specs.KeyTexts.{secret_key_in_lines, secret_key_of_bytes}
use Rattle.minisign.specs.Texts.{IsBase64Of, IsReading, base64_bytes, is_base64, require}
use Rattle.minisign.proofs.Base64Texts.{bytes_read, is_read, reads}
use Rattle.minisign.proofs.ReadTexts.{passed, same_value}
use Rattle.minisign.proofs.RecordFields.{joined_fields, one_secret_key}

-- The record of a secret key has 158 bytes, and bytes that begin with one have at least as many.
pub record_length : (bytes : List ℕ) (k : SecretKeyRecord) → ReadsSecretKey bytes k
    → length (secret_key_bytes k) ≡ 158
record_length _ k reads = simp length-append (omega (
  arith,
  reads.algorithm_length,
  reads.kdf_length,
  reads.checksum_algorithm_length,
  reads.salt_length,
  reads.operations_limit_length,
  reads.memory_limit_length,
  reads.keynum_length,
  reads.secret_length,
  reads.checksum_length,
))

stored_length : (bytes : List ℕ) (k : SecretKeyRecord) → ReadsSecretKey bytes k → 158 ≤ length bytes
stored_length _ k reads =
    let whole = ap length reads.front.1 ∙ length-append (secret_key_bytes k) _ in
    omega (arith, record_length _ k reads, whole)

-- The bytes after the first n are a field followed by the bytes after it.
cut : (n a : ℕ) (bytes : List ℕ) → drop n bytes ≡ take a (drop n bytes) ++ drop (n + a) bytes
cut n a bytes = sym (take-append-drop a (drop n bytes)) ∙ ap (λ t. take a (drop n bytes) ++ t)
    (drop-drop a n bytes)

three_fields : (n a b c : ℕ) (bytes : List ℕ)
    → drop n bytes ≡ take a (drop n bytes) ++ take b (drop (n + a) bytes) ++ take c (drop (n + a + b) bytes)
    ++ drop (n + a + b + c) bytes
three_fields n a b c bytes = joined_fields _ _ _ _ _ _ _ (cut n a _) (cut (n + a) b bytes)
    (cut (n + a + b) c bytes)

field_length : (n a : ℕ) (bytes : List ℕ) → n + a ≤ length bytes → length (take a (drop n bytes)) ≡ a
field_length n a bytes long = length-take-le a _ (omega (arith, length-drop n bytes))

-- Enough bytes begin with a key.
pub key_in_front : (bytes : List ℕ) → 158 ≤ length bytes → ReadsSecretKey bytes (secret_key_of_bytes bytes)
unfolding secret_key_of_bytes
key_in_front bytes long = record {
  algorithm_length = field_length 0 2 bytes (omega arith);
  kdf_length = field_length 2 2 bytes (omega arith);
  checksum_algorithm_length = field_length 4 2 bytes (omega arith);
  salt_length = field_length 6 32 bytes (omega arith);
  operations_limit_length = field_length 38 8 bytes (omega arith);
  memory_limit_length = field_length 46 8 bytes (omega arith);
  keynum_length = field_length 54 8 bytes (omega arith);
  secret_length = field_length 62 64 bytes (omega arith);
  checksum_length = field_length 126 32 bytes (omega arith);
  front = (
    drop 158 bytes,
    joined_fields bytes _ _ _ (drop 6 bytes) (drop 54 bytes) _
        (three_fields 0 2 2 2 bytes) (three_fields 6 32 8 8 bytes) (three_fields 54 8 64 32 bytes),
  );
}

-- Bytes that begin with the record of a key parse to this key.
pub bytes_are_read : (bytes : List ℕ) (k : SecretKeyRecord) → ReadsSecretKey bytes k
    → read_secret_key_bytes bytes ≡ Ok k
bytes_are_read _ k h =
    let long = stored_length _ k h in
    let yes = le-leb _ _ long in
    rw yes (ap Ok (one_secret_key _ _ k (key_in_front _ long) h))

read_bytes : (bytes : List ℕ) (k : SecretKeyRecord) → read_secret_key_bytes bytes ≡ Ok k
    → ReadsSecretKey bytes k
read_bytes bytes k h =
    let long = passed _ _ _ k h in
    rw (same_value _ k long.1) at (key_in_front bytes (leb-true 158 _ long.0))

-- The function read_secret_key_bytes agrees with the relation ReadsSecretKey.
pub bytes_read_as : (bytes : List ℕ) → IsReading (ReadsSecretKey bytes) (read_secret_key_bytes bytes)
bytes_read_as _ = record { value = λ k. (read_bytes _ k, bytes_are_read _ k) }

-- A line is parsed as the bytes that it encodes.
pub line_is_read : (line bytes : List ℕ) → IsBase64Of line bytes
    → require (is_base64 line) SecretKeyNotBase64 (read_secret_key_bytes (base64_bytes line))
    ≡ read_secret_key_bytes bytes
line_is_read _ _ base64 = rw (is_read _ _ base64, bytes_read _ _ base64) refl

-- Parsing a text depends only on its lines.
pub of_lines : (text : List ℕ) (ls : List (List ℕ)) → lines text ≡ ls
    → read_secret_key text ≡ secret_key_in_lines ls
unfolding read_secret_key
of_lines _ _ cut = ap secret_key_in_lines cut

-- A text parses to a key if the relation holds for this key.
pub text_is_read : (text : List ℕ) (k : SecretKeyRecord) → SecretKeyText text k → read_secret_key text ≡ Ok k
text_is_read _ k h = of_lines _ _ h.cut ∙ line_is_read _ _ h.key.base64
    ∙ bytes_are_read _ k h.key.reads

read_lines : (text : List ℕ) (ls : List (List ℕ)) (k : SecretKeyRecord) → lines text ≡ ls
    → secret_key_in_lines ls ≡ Ok k → SecretKeyText text k
read_lines text [] k cut h = cc h
read_lines text (a ∷ []) k cut h = cc h
read_lines _ (a ∷ b ∷ later) k cut h =
    let base64 = passed _ _ _ k h in
    record {
      comment = a;
      encoded = b;
      later = later;
      cut = cut;
      key = record {
        bytes = base64_bytes b;
        base64 = reads b base64.0;
        reads = read_bytes _ k base64.1;
      };
    }

read_text : (text : List ℕ) (k : SecretKeyRecord) → read_secret_key text ≡ Ok k → SecretKeyText text k
unfolding read_secret_key
read_text _ k h = read_lines _ _ k refl h

-- The function read_secret_key agrees with the grammar SecretKeyText.
pub read_as : (text : List ℕ) → IsReading (SecretKeyText text) (read_secret_key text)
read_as _ = record { value = λ k. (read_text _ k, text_is_read _ k) }

-- If a prefix of the bytes begins with the record of a key, so do the bytes.
longer : (bytes : List ℕ) (n : ℕ) (k : SecretKeyRecord) → ReadsSecretKey (take n bytes) k
    → ReadsSecretKey bytes k
longer bytes n k h = record {
  algorithm_length = h.algorithm_length;
  kdf_length = h.kdf_length;
  checksum_algorithm_length = h.checksum_algorithm_length;
  salt_length = h.salt_length;
  operations_limit_length = h.operations_limit_length;
  memory_limit_length = h.memory_limit_length;
  keynum_length = h.keynum_length;
  secret_length = h.secret_length;
  checksum_length = h.checksum_length;
  front = (
    h.front.0 ++ drop n bytes,
    sym (take-append-drop n bytes) ∙ ap (λ x. x ++ drop n bytes) h.front.1
        ∙ append_assoc (secret_key_bytes k) _ _,
  );
}

module _ (line room bytes : List ℕ) (n : ℕ) (base64 : IsBase64Of line bytes)
    (count : n ≡ min (length bytes) 159) (fits : n ≤ length room) where
  -- If the buffer holds at least 158 decoded bytes, the first 158 are the record of the line.
  pub front_read : take n room ≡ take n bytes → 158 ≤ n
      → require (is_base64 line) SecretKeyNotBase64 (read_secret_key_bytes (base64_bytes line))
      ≡ Ok (secret_key_of_bytes (take 158 room))
  front_read front enough =
      let same = sym (take-take 158 n room enough) ∙ ap (take 158) front ∙ take-take 158 n bytes enough in
      let long = length-take-le 158 bytes (omega (arith, count, enough)) in
      let reads = longer bytes 158 _ (key_in_front (take 158 bytes) (omega (arith, long))) in
      line_is_read _ _ base64 ∙ bytes_are_read _ _ reads ∙ ap (λ x. Ok (secret_key_of_bytes x)) (sym same)

  -- If fewer than 158 bytes were decoded, the line is rejected as too short.
  pub front_refused : n < 158 → require (is_base64 line) SecretKeyNotBase64
      (read_secret_key_bytes (base64_bytes line)) ≡ Err (Named RecordTooShort)
  front_refused short =
      line_is_read _ _ base64 ∙ rw (lt-leb 158 (length bytes) (omega (arith, count, short))) refl
