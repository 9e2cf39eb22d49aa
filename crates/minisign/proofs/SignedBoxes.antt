-- Lemmas about the box that signing makes and why it is valid, and about its text, which parses to
-- a box that is valid for the same message.
use Rattle.std.proofs.Common.{◌≡◌, ℕ, true, false, List, ◌++◌, length, Option, None, Some, inl, refl, sym}
use Rattle.std.proofs.Common.{◌∙◌, arith, take_all, IsSomeAnd, Result, Ok, Err, IfOk, IfSome, MatchOption}
use Rattle.std.proofs.Common.{MatchResult, subst, le-leb}
use Rattle.minisign.proofs.Common.{blake2b_digest, RandomCall, SourceCall, Fault, Named, RefusedByGivenKey}
use Rattle.minisign.proofs.Common.{OutOfMemory, SignatureBoxIncomplete}
use Rattle.minisign_base.specs.Scheme.{AreRandomBytes, IsBytes}
use Rattle.minisign.specs.Records.{PublicKeyRecord, SecretKeyRecord, SignatureBoxRecord, prehashed_algorithm}
use Rattle.minisign.specs.Records.{CommentsRecord}
use Rattle.minisign.specs.Acceptance.{Verifier, VouchesUnderEachKey, accepts_comments, judge}
use Rattle.minisign.specs.Reading.{ReadsWhole}
use Rattle.minisign.specs.Sealing.{is_encrypted}
use Rattle.minisign.specs.Signing.{Signer, ChosenComments, IsGenuine, IsSigned, signed_box}
use Rattle.minisign.proofs.Verdicts.{vouches_judged}
use Rattle.minisign.specs.SignatureText.{AreOneLine, box_read_back, read_signature_box, signature_text}

-- The box with these parts and a prehashed signature.
abbrev pub box_of : List ℕ → List ℕ → ChosenComments → List ℕ → SignatureBoxRecord
box_of keynum signature chosen global = record {
  signature = record { algorithm = prehashed_algorithm; keynum = keynum; signature = signature };
  comments = Some (record { untrusted = chosen.untrusted; trusted = chosen.trusted; signature = global });
}

-- Parts that were made one by one are those of the box that signing makes.
pub made_box : (sign : Signer) (sk : SecretKeyRecord) (message : List ℕ) (chosen : ChosenComments)
    (first second keynum signature global : List ℕ)
    → keynum ≡ sk.keynum → signature ≡ sign (blake2b_digest 64 message) sk.secret (Some first)
    → global ≡ sign (signature ++ chosen.trusted) sk.secret (Some second)
    → box_of keynum signature chosen global ≡ signed_box sign sk message chosen first second
made_box _ _ _ _ _ _ _ _ _ same_keynum same_signature same_global =
    rw (same_keynum, same_global, same_signature) refl

-- The law of a scheme: a signature made with a seed's secret key is accepted under the seed's
-- public key.
abbrev pub AcceptsOwn : Verifier → Signer → (List ℕ → List ℕ) → Type 0
AcceptsOwn accepts sign public_of = (seed m : List ℕ) (z : Option (List ℕ)) → IsBytes seed → length seed ≡ 32
    → IsBytes m → AreRandomBytes z
    → accepts m (public_of seed) (sign m (seed ++ public_of seed) z) ≡ true

-- Parts that were made with a genuine key are accepted under its public key.
pub genuine_box : (accepts : Verifier) (sign : Signer) (public_of : List ℕ → List ℕ)
    → AcceptsOwn accepts sign public_of
    → (sk : SecretKeyRecord) (message : List ℕ) (chosen : ChosenComments)
    (first second keynum signature global : List ℕ)
    → keynum ≡ sk.keynum → signature ≡ sign (blake2b_digest 64 message) sk.secret (Some first)
    → global ≡ sign (signature ++ chosen.trusted) sk.secret (Some second)
    → IsBytes (blake2b_digest 64 message) → IsBytes (signature ++ chosen.trusted)
    → AreRandomBytes (Some first) → AreRandomBytes (Some second)
    → length global ≡ 64 → (seed : List ℕ) → IsGenuine public_of sk seed
    → VouchesUnderEachKey accepts (public_of seed) sk.keynum message (box_of keynum signature chosen global)
genuine_box accepts sign public_of own sk message chosen first second keynum signature global
    same_keynum same_signature same_global digest_bytes signed_bytes first_random second_random long seed
    genuine pk legacy key key_id =
    let digest_accepted = own seed (blake2b_digest 64 message) (Some first) genuine.seed_bytes
    genuine.seed_length digest_bytes first_random in
    let comment_accepted = own seed (signature ++ chosen.trusted) (Some second) genuine.seed_bytes
    genuine.seed_length signed_bytes second_random in
    vouches_judged accepts pk (box_of keynum signature chosen global) message legacy (record {
      same_key = same_keynum ∙ sym key_id;
      allowed = inl refl;
      signed = rw (key, same_signature, genuine.secret) digest_accepted;
      comment_signed = rw (
        le-leb 64 (length global) (omega (arith, long)),
        take_all 64 global (omega (arith, long)),
        key,
        same_global,
        genuine.secret,
      ) comment_accepted;
    })

-- The error if the given public key rejects the box that was made.
pub refused_by_given : {R Z : Type 0} (accepts : Verifier) (sign : Signer) (pk : Option PublicKeyRecord)
    (sk : SecretKeyRecord) (message : List ℕ)
    (chosen : ChosenComments) (r : SourceCall R) (z : RandomCall Z) (x : SignatureBoxRecord) (e : Fault)
    → is_encrypted sk ≡ false
    → ReadsWhole r.source r.old r.new message → IsSigned sign sk message chosen z x
    → IsSomeAnd pk (λ p. (e ≡ Named (RefusedByGivenKey p.keynum)) × (accepts_comments accepts p x ≡ false))
    → IsSomeAnd pk (λ p. (message : List ℕ) × (made : SignatureBoxRecord)
    × (e ≡ Named (RefusedByGivenKey p.keynum))
    × (is_encrypted sk ≡ false) × ReadsWhole r.source r.old r.new message
    × IsSigned sign sk message chosen z made
    × (accepts_comments accepts p made ≡ false))
refused_by_given _ _ None _ _ _ r z x e _ _ _ refused = absurd refused
refused_by_given _ _ (Some p) _ message _ r z x e opened read signed (fault, refused) =
    (message, x, fault, opened, read, signed, refused)

-- The chosen comments and a comment signature.
abbrev pub with_signature : ChosenComments → List ℕ → CommentsRecord
with_signature chosen global = record {
  untrusted = chosen.untrusted;
  trusted = chosen.trusted;
  signature = global;
}

-- If writing a box with these comments succeeds, the text is signature_text of the box, and is read back
-- if AreOneLine holds.
pub written_text : {T : Type 0} (bytes : T → List ℕ) (r : Result T Fault) (x : SignatureBoxRecord)
    (chosen : ChosenComments) (global : List ℕ)
    → x.comments ≡ Some (with_signature chosen global)
    → MatchOption x.comments (r ≡ Err (Named SignatureBoxIncomplete))
    (λ c. MatchResult r (λ t. bytes t ≡ signature_text x.signature c) (λ e. e ≡ Named OutOfMemory))
    → (IfSome x.comments (λ c. AreOneLine c.untrusted c.trusted)
    → IfOk r (λ t. read_signature_box (bytes t) ≡ Ok (box_read_back x)))
    → IfOk r (λ t. (bytes t ≡ signature_text x.signature (with_signature chosen global))
    × (AreOneLine chosen.untrusted chosen.trusted → read_signature_box (bytes t) ≡ Ok (box_read_back x)))
written_text _ (Err e) x _ _ _ _ _ = tt
written_text _ (Ok t) x _ _ has_comments written reads_back = (
  rw has_comments at written,
  λ are_one_line. reads_back
      (subst (λ (o : Option CommentsRecord). IfSome o (λ c. AreOneLine c.untrusted c.trusted))
      (sym has_comments) are_one_line),
)

-- A box that was read back is valid for every message for which the written box was valid.
pub read_back_box_vouches : (accepts : Verifier) (key keynum message : List ℕ) (x : SignatureBoxRecord)
    (chosen : ChosenComments) (global : List ℕ)
    → x.comments ≡ Some (with_signature chosen global)
    → VouchesUnderEachKey accepts key keynum message x
    → VouchesUnderEachKey accepts key keynum message (box_read_back x)
read_back_box_vouches accepts _ _ message x _ _ has_comments vouches = λ pk legacy same_key same_keynum.
    subst (λ (o : Option CommentsRecord). judge accepts pk (box_read_back (record x { comments = o })) message
    legacy ≡ Ok tt) (sym has_comments)
    (subst (λ (o : Option CommentsRecord). judge accepts pk (record x { comments = o }) message legacy
    ≡ Ok tt) has_comments (vouches pk legacy same_key same_keynum))
