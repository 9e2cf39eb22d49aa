-- Lemmas about fields at the front of bytes.
use Rattle.std.proofs.Common.{◌≡◌, ℕ, ◌≤◌, List, [], ◌++◌, length, take, drop, arith, append-nil}
use Rattle.std.proofs.Common.{append_assoc, sym, ap, ◌∙◌, true, not, inl, inr, bytes_eq, length-append}
use Rattle.minisign.proofs.Common.{take-append_seam, drop-append_seam, bytes_eq-Decides}
use Rattle.minisign.specs.Records.{PublicKeyRecord, ReadsPublicKey, SecretKeyRecord, ReadsSecretKey}
use Rattle.minisign.specs.Records.{SignatureRecord, ReadsSignature, IsKnownAlgorithm, legacy_algorithm}
use Rattle.minisign.specs.Records.{prehashed_algorithm}

-- Fields that were split off one by one give the bytes again when they are joined.
pub joined_fields : (bytes a b c r s t : List ℕ) → bytes ≡ a ++ r → r ≡ b ++ s → s ≡ c ++ t
    → bytes ≡ a ++ b ++ c ++ t
joined_fields _ a b c r s t cut_a cut_b cut_c = rw (append_assoc, append_assoc, ← cut_c, ← cut_b) cut_a

-- If bytes begin with the record of a signature, the first two bytes are its algorithm.
pub stored_algorithm : (bytes : List ℕ) (s : SignatureRecord) → ReadsSignature bytes s
    → take 2 bytes ≡ s.algorithm
stored_algorithm bytes s reads =
    let rest = reads.front.0 in
    let cut : bytes ≡ s.algorithm ++ (s.keynum ++ (s.signature ++ rest)) = reads.front.1
    ∙ simp append_assoc in
    let front : take (length s.algorithm) bytes ≡ s.algorithm = rw cut (take-append_seam s.algorithm _) in
    rw reads.algorithm_length at front

-- Bytes that begin with the record of a signature are at least 74 bytes.
pub stored_length : (bytes : List ℕ) (s : SignatureRecord) → ReadsSignature bytes s → 74 ≤ length bytes
stored_length bytes s reads =
    omega (
      arith,
      reads.algorithm_length,
      reads.keynum_length,
      reads.signature_length,
      simp length-append at (ap length reads.front.1),
    )

-- An algorithm that is neither `Ed` nor `ED` is not a known algorithm.
pub unknown_algorithm : (a : List ℕ) → true ≡ not (bytes_eq a legacy_algorithm)
    → true ≡ not (bytes_eq a prehashed_algorithm) → ¬ (IsKnownAlgorithm a)
unknown_algorithm a legacy prehashed (inl e) = let same : bytes_eq a legacy_algorithm ≡ true =
    (bytes_eq-Decides a _).1 e in let differs = rw same at legacy in cc
unknown_algorithm a legacy prehashed (inr e) = let same : bytes_eq a prehashed_algorithm ≡ true =
    (bytes_eq-Decides a _).1 e in let differs = rw same at prehashed in cc

-- If two equal lists are split at the same index, their parts are equal.
same_cut : (a b c d : List ℕ) → length a ≡ length b → a ++ c ≡ b ++ d → (a ≡ b) × (c ≡ d)
same_cut a b c d len same =
    let front = ap (λ n. take n (a ++ c)) len
    ∙ ap (take (length b)) same in
    let back = ap (λ n. drop n (a ++ c)) len
    ∙ ap (drop (length b)) same in (
      sym (take-append_seam a c) ∙ front ∙ take-append_seam b d,
      sym (drop-append_seam a c) ∙ back
          ∙ drop-append_seam b d,
    )

-- If two equal lists begin with three fields of the same lengths, the fields and the rests are equal.
same_fields : (a b c x y z r s : List ℕ) → length a ≡ length x → length b ≡ length y → length c ≡ length z
    → a ++ b ++ c ++ r ≡ x ++ y ++ z ++ s → (a ≡ x) × (b ≡ y) × (c ≡ z) × (r ≡ s)
same_fields a b c x y z r s la lb lc same =
    let nested = simp append_assoc at same in
    let first = same_cut a x _ _ la nested in
    let second = same_cut b y _ _ lb first.1 in
    let third = same_cut c z r s lc second.1 in
    (first.0, second.0, third.0, third.1)

-- Bytes begin with at most one public key.
pub one_public_key : (bytes : List ℕ) (k l : PublicKeyRecord) → ReadsPublicKey bytes k
    → ReadsPublicKey bytes l → k ≡ l
one_public_key _ k l read again =
    let same = same_fields _ _ _ _ _ _ _ _
    (read.algorithm_length ∙ sym again.algorithm_length) (read.keynum_length ∙ sym again.keynum_length)
    (read.key_length ∙ sym again.key_length) (sym read.front.1 ∙ again.front.1) in
    λ i. record { algorithm = same.0 i; keynum = same.1 i; key = same.2 i }

-- Bytes begin with at most one signature.
pub one_signature : (bytes : List ℕ) (s t : SignatureRecord) → ReadsSignature bytes s → ReadsSignature bytes t
    → s ≡ t
one_signature _ s t read again =
    let same = same_fields _ _ _ _ _ _ _ _
    (read.algorithm_length ∙ sym again.algorithm_length) (read.keynum_length ∙ sym again.keynum_length)
    (read.signature_length ∙ sym again.signature_length) (sym read.front.1 ∙ again.front.1) in
    λ i. record { algorithm = same.0 i; keynum = same.1 i; signature = same.2 i }

-- If two equal lists consist of three fields of the same lengths, the fields are equal.
same_three : (a b c x y z : List ℕ) → length a ≡ length x → length b ≡ length y → length c ≡ length z
    → a ++ b ++ c ≡ x ++ y ++ z → (a ≡ x) × (b ≡ y) × (c ≡ z)
same_three a b c x y z la lb lc same =
    let all = same_fields a b c x y z [] [] la lb lc (append-nil _ ∙ same ∙ sym (append-nil _)) in
    (all.0, all.1, all.2)

same_lengths : (a b c x y z : List ℕ) → length a ≡ length x → length b ≡ length y → length c ≡ length z
    → length (a ++ b ++ c) ≡ length (x ++ y ++ z)
same_lengths a b c x y z la lb lc = simp length-append (omega (arith, la, lb, lc))

-- Bytes begin with at most one secret key.
pub one_secret_key : (bytes : List ℕ) (k l : SecretKeyRecord) → ReadsSecretKey bytes k
    → ReadsSecretKey bytes l → k ≡ l
one_secret_key _ k l read again =
    let a = read.algorithm_length ∙ sym again.algorithm_length in
    let b = read.kdf_length ∙ sym again.kdf_length in
    let c = read.checksum_algorithm_length ∙ sym again.checksum_algorithm_length in
    let d = read.salt_length ∙ sym again.salt_length in
    let e = read.operations_limit_length ∙ sym again.operations_limit_length in
    let f = read.memory_limit_length ∙ sym again.memory_limit_length in
    let g = read.keynum_length ∙ sym again.keynum_length in
    let h = read.secret_length ∙ sym again.secret_length in
    let i = read.checksum_length ∙ sym again.checksum_length in
    let groups = same_fields _ _ _ _ _ _ _ _ (same_lengths _ _ _ _ _ _ a b c)
    (same_lengths _ _ _ _ _ _ d e f) (same_lengths _ _ _ _ _ _ g h i) (sym read.front.1 ∙ again.front.1) in
    let first = same_three _ _ _ _ _ _ a b c groups.0 in
    let second = same_three _ _ _ _ _ _ d e f groups.1 in
    let third = same_three _ _ _ _ _ _ g h i groups.2 in
    λ i. record {
      algorithm = first.0 i;
      kdf = first.1 i;
      checksum_algorithm = first.2 i;
      salt = second.0 i;
      operations_limit = second.1 i;
      memory_limit = second.2 i;
      keynum = third.0 i;
      secret = third.1 i;
      checksum = third.2 i;
    }
