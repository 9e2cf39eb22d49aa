-- Lemmas about the xor of two lists of bytes, and about the last three fields of a secret key as
-- one list that is xored with a stream.
use Rattle.std.proofs.Common.{◌≡◌, ℕ, List, ◌++◌, length, take, drop, bit_xor, refl, sym, ap, ◌∙◌, arith}
use Rattle.std.proofs.Common.{append_assoc, length-append, length-drop, take-append-drop, drop-drop}
use Rattle.std.proofs.Common.{take_all, ◌+◌, ◌<◌, [], ◌∷◌, slice_index, slice_set}
use Rattle.minisign.proofs.Common.{take-append_seam, drop-append_seam, length-zip2, zip2, take_more}
use Rattle.minisign.proofs.Common.{take_more_set, get_or-zip2}
use Rattle.minisign.specs.Records.{SecretKeyRecord}
use Rattle.minisign.specs.Sealing.{key_xor, stream_of, xored_key}
use Rattle.std.specs.Int.Bits.{xor_assoc, xor_self, xor_zero_r}

-- If the first i bytes are xored and then byte number i is, the first i + 1 bytes are xored.
pub xored_next : (x y out : List ℕ) (i : ℕ) → take i out ≡ take i (zip2 bit_xor x y)
    → slice_index out i ≡ slice_index x i
    → length x ≡ length out → length y ≡ length out → i < length out
    → take (i + 1) (slice_set out i (bit_xor (slice_index out i) (slice_index y i)))
    ≡ take (i + 1) (zip2 bit_xor x y)
xored_next x y out i done same lx ly lt =
    let lz = length-zip2 bit_xor x y (lx ∙ sym ly) in
    take_more_set out i _ lt
    ∙ (λ t. done t ++ (ap (λ b. bit_xor b (slice_index y i)) same
    ∙ sym (get_or-zip2 bit_xor x y i 0 0 0 (omega arith) (omega arith))) t ∷ [])
    ∙ sym (take_more (zip2 bit_xor x y) i 0 (omega arith))

-- Two concatenations with equally long fronts are xored front with front and rest with rest.
pub xor_halves : (a b x y : List ℕ) → length a ≡ length x → zip2 bit_xor (a ++ b) (x ++ y) ≡ zip2 bit_xor a x
    ++ zip2 bit_xor b y
xor_halves [] b [] y _ = refl
xor_halves [] b (c ∷ x) y len = absurd (omega arith)
xor_halves (c ∷ a) b [] y len = absurd (omega arith)
xor_halves (c ∷ a) b (d ∷ x) y len = ap (λ l. bit_xor c d ∷ l) (xor_halves a b x y (omega arith))

-- Xoring bytes twice with the same stream gives the bytes again.
pub xor_twice : (a x : List ℕ) → length a ≡ length x → zip2 bit_xor (zip2 bit_xor a x) x ≡ a
xor_twice [] x _ = refl
xor_twice (b ∷ a) [] len = absurd (omega arith)
xor_twice (b ∷ a) (y ∷ x) len =
    let first = xor_assoc b y y ∙ ap (bit_xor b) (xor_self y) ∙ xor_zero_r b in
    (λ i. first i ∷ xor_twice a x (omega arith) i)

-- The three encrypted fields have the lengths of the record.
pub record HasSealedLengths (k : SecretKeyRecord) : Type 0 where
  pub keynum : length k.keynum ≡ 8
  pub secret : length k.secret ≡ 64
  pub checksum : length k.checksum ≡ 32

-- The key with these three encrypted fields.
abbrev pub with_fields : SecretKeyRecord → List ℕ → List ℕ → List ℕ → SecretKeyRecord
with_fields k a b c = record k { keynum = a; secret = b; checksum = c }

-- The key with these 104 bytes in its three encrypted fields.
abbrev key_with_part : SecretKeyRecord → List ℕ → SecretKeyRecord
key_with_part k part = with_fields k (take 8 part) (take 64 (drop 8 part)) (take 32 (drop 72 part))

-- Splitting three joined fields gives these fields.
cut_fields : (k : SecretKeyRecord) (a b c : List ℕ) → length a ≡ 8 → length b ≡ 64 → length c ≡ 32
    → key_with_part k (a ++ b ++ c) ≡ with_fields k a b c
cut_fields k a b c la lb lc =
    let whole = append_assoc a b c in
    let len : length (a ++ b) ≡ 72 = length-append a b ∙ omega (arith, la, lb) in
    let first = ap (λ n. take n (a ++ b ++ c)) (sym la) ∙ ap (take (length a)) whole
    ∙ take-append_seam a (b ++ c) in
    let behind = ap (λ n. drop n (a ++ b ++ c)) (sym la) ∙ ap (drop (length a)) whole
    ∙ drop-append_seam a _ in
    let second = ap (take 64) behind ∙ ap (λ n. take n (b ++ c)) (sym lb) ∙ take-append_seam b c in
    let last = ap (λ n. drop n (a ++ b ++ c)) (sym len)
    ∙ drop-append_seam (a ++ b) c in
    let third = ap (take 32) last ∙ take_all 32 c (omega (arith, lc)) in
    λ i. with_fields k (first i) (second i) (third i)

-- Xoring a key with a stream xors each field with its part of the stream.
pub xored_fields : (k : SecretKeyRecord) (a b c : List ℕ) → HasSealedLengths k → length a ≡ 8 → length b ≡ 64
    → length c ≡ 32
    → key_xor k (a ++ b ++ c) ≡ with_fields k (zip2 bit_xor k.keynum a) (zip2 bit_xor k.secret b)
    (zip2 bit_xor k.checksum c)
unfolding key_xor
xored_fields k a b c len la lb lc =
    let halves =
    xor_halves _ _ _ c (length-append k.keynum k.secret ∙ omega (arith, len.keynum, len.secret, la, lb)
    ∙ sym (length-append a b))
    ∙ ap (λ l. l ++ zip2 bit_xor k.checksum c) (xor_halves _ _ a b (len.keynum ∙ sym la)) in
    ap (key_with_part k) halves
    ∙ cut_fields k _ _ _ (length-zip2 bit_xor k.keynum a (len.keynum ∙ sym la) ∙ len.keynum)
    (length-zip2 bit_xor k.secret b (len.secret ∙ sym lb) ∙ len.secret)
    (length-zip2 bit_xor k.checksum c (len.checksum ∙ sym lc) ∙ len.checksum)

-- A stream that is split like the fields gives the stream again when the parts are joined.
pub cut_stream : (stream : List ℕ) → take 8 stream ++ take 64 (drop 8 stream) ++ drop 64 (drop 8 stream)
    ≡ stream
cut_stream stream = append_assoc (take 8 stream) _ _
    ∙ ap (λ l. take 8 stream ++ l) (take-append-drop 64 (drop 8 stream))
    ∙ take-append-drop 8 stream

-- 104 bytes that are split like the fields, the last of which has 32 bytes, give the bytes again when
-- the parts are joined.
cut_part : (part : List ℕ) → length part ≡ 104
    → take 8 part ++ take 64 (drop 8 part) ++ take 32 (drop 72 part) ≡ part
cut_part part long =
    ap (λ l. take 8 part ++ take 64 (drop 8 part) ++ l)
    (take_all 32 _ (omega (arith, length-drop 72 part, long)) ∙ sym (drop-drop 64 8 part))
    ∙ cut_stream _

-- Xoring a key twice with the same stream gives the key again.
xored_twice : (k : SecretKeyRecord) (stream : List ℕ) → HasSealedLengths k → length stream ≡ 104
    → key_xor (key_xor k stream) stream ≡ k
unfolding key_xor
xored_twice k stream len whole =
    let parts = k.keynum ++ k.secret ++ k.checksum in
    let long : length parts ≡ length stream = simp length-append
    (omega (arith, len.keynum, len.secret, len.checksum, whole)) in
    ap (λ l. key_with_part k (zip2 bit_xor l stream))
    (cut_part _ (length-zip2 bit_xor parts stream long ∙ long ∙ whole))
    ∙ ap (key_with_part k) (xor_twice _ _ long)
    ∙ cut_fields k _ _ _ len.keynum len.secret len.checksum

-- A key whose fields were xored one by one, each with its part of the stream, is the key xored with
-- the stream.
pub xored_parts : (k self : SecretKeyRecord) (stream a b c x y z : List ℕ) → k ≡ self → HasSealedLengths k
    → length stream ≡ 104
    → a ≡ take 8 stream → b ≡ take 64 (drop 8 stream) → c ≡ drop 64 (drop 8 stream) → length a ≡ 8
    → length b ≡ 64 → length c ≡ 32
    → x ≡ zip2 bit_xor k.keynum a → y ≡ zip2 bit_xor k.secret b → z ≡ zip2 bit_xor k.checksum c
    → (with_fields k x y z ≡ key_xor self stream) × (key_xor (with_fields k x y z) stream ≡ self)
xored_parts k _ stream a b c x y z same len whole ea eb ec la lb lc ex ey ez =
    let joined = (λ i. ea i ++ eb i ++ ec i) ∙ cut_stream _ in
    let once : with_fields k x y z ≡ key_xor k stream = (λ i. with_fields k (ex i) (ey i) (ez i))
    ∙ sym (xored_fields k a b c len la lb lc) ∙ ap (key_xor k) joined in (
      once ∙ ap (λ l. key_xor l stream) same,
      ap (λ l. key_xor l stream) once ∙ xored_twice k _ len whole ∙ same,
    )

-- The stream does not depend on the encrypted fields.
pub same_stream : (k : SecretKeyRecord) (stream password : List ℕ) → stream_of (key_xor k stream) password
    ≡ stream_of k password
unfolding key_xor stream_of
same_stream k _ _ = refl

-- Decrypting a key that was encrypted under the same password gives the key again.
pub restored_key : (k new : SecretKeyRecord) (stream password : List ℕ) → stream ≡ stream_of k password
    → new ≡ key_xor k stream → key_xor new stream ≡ k
    → xored_key new password ≡ k
restored_key k new _ password is once twice =
    let same = ap (λ l. stream_of l password) once
    ∙ same_stream k _ _ ∙ sym is in
    ap (key_xor new) same ∙ twice
