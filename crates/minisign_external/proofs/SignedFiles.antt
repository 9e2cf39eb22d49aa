-- If a scheme accepts both signatures in a signature file that the library wrote, the verdict on the file is
-- its trusted comment.
use Rattle.std.proofs.Common.{◌≡◌, ◌∙◌, ℕ, List, ◌++◌, Some, Result, Ok, Err, Bool, true, false}
use Rattle.std.proofs.Common.{if◌then◌else◌, ap, sym, refl, subst, drop, take, length}
use Rattle.std.specs.Prelude.{⊤}
use Rattle.std.proofs.lemmas.Str.{is_utf8-from_IsUtf8}
use Rattle.std.proofs.Math.Seq.{drop-append_seam}
use Rattle.minisign_hash.specs.Blake2b.{blake2b_digest}
use Rattle.minisign_base.specs.Fault.{Fault}
use Rattle.minisign.specs.Acceptance.{Verifier, accepts_comments, judge, judge_answers, judge_key}
use Rattle.minisign.specs.Acceptance.{signed_bytes}
use Rattle.minisign.specs.Records.{CommentsRecord, SignatureBoxRecord}
use Rattle.minisign.specs.SignatureText.{SignatureTextRecord, box_of, read_signature}
use Rattle.minisign.specs.Signing.{ChosenComments}
use Rattle.minisign.specs.Texts.{and_then, map_ok}
use Rattle.minisign_external.specs.PublicKeys.{key_of, public_mark, read_utf8}
use Rattle.minisign_external.specs.Questions.{verdict_under}
use Rattle.minisign_external.specs.Signing.{AcceptsSignatures, HoldsSignatureFile, IsSignatureFileOf}
use Rattle.minisign_external.specs.Signing.{IsPairOf, box_of_signatures}
use Rattle.minisign_external.specs.Signing.{comments_with_signature, comments_of}
use Rattle.minisign_external.specs.SecretKeys.{is_opened, public_value_of}
use Rattle.minisign_external.specs.declared.secrets.SecretKeyValue.{SecretKeyValue}
use Rattle.minisign_external.specs.declared.state.Misuse.{Misuse}
use Rattle.minisign_external.specs.declared.state.Misuse.TheVariants.{KeyNotOpened}
use Rattle.minisign_external.specs.declared.public_keys.PublicKeyValue.{PublicKeyValue}
use Rattle.minisign_external.proofs.BoxesOfSignatures.{answered_vouches}

boxed : (r : Result SignatureTextRecord Fault) (x : SignatureBoxRecord) → map_ok box_of r ≡ Ok x
    → (t : SignatureTextRecord) × (r ≡ Ok t) × (box_of t ≡ x)
boxed (Ok t) x h = (t, refl, (let same : box_of t ≡ x = cc h in same))
boxed (Err e) x h = cc h

-- If a parsed signature passes all checks, the verdict is its trusted comment.
passes : (j : Result ⊤ Fault) (t : SignatureTextRecord) (more : SignatureTextRecord → Result ⊤ Fault)
    → and_then j (λ _. more t) ≡ Ok tt
    → and_then (and_then j (λ _. Ok t)) (λ s. and_then (more s) (λ _. Ok s.comments.trusted))
    ≡ Ok t.comments.trusted
passes (Ok _) t more h = rw h refl
passes (Err e) t more h = cc h

same_comments : (c d : CommentsRecord) → Some c ≡ Some d → c ≡ d
same_comments c d h = cc h

module _ (accepts : Verifier) (w : PublicKeyValue) (message text : List ℕ) (chosen : ChosenComments)
    (first second : List ℕ)
    (own : IsSignatureFileOf w.key_id chosen first second text) (long : length second ≡ 64)
    (answers : AcceptsSignatures accepts w.key message chosen.trusted first second) where
  -- If a scheme accepts the two signatures, the verdict on their signature file is the trusted comment.
  pub verified : verdict_under accepts w text message false ≡ Ok chosen.trusted
  verified =
      let (t, read, same) = boxed (read_signature text) _ own.read_back in
      let said : t.comments ≡ comments_with_signature chosen second = same_comments _ _
      (ap (λ x. x.comments) same) in
      let judged : judge accepts (key_of w) (box_of_signatures w.key_id chosen first second) message false
      ≡ Ok tt =
      answered_vouches accepts w.key message w.key_id chosen first second long answers
      (key_of w) false refl refl in
      let judged_text : judge accepts (key_of w) (box_of t) message false
      ≡ Ok tt = subst (λ x. judge accepts (key_of w) x message false ≡ Ok tt) (sym same) judged in
      let bytes : read_utf8 read_signature text ≡ Ok t = rw (is_utf8-from_IsUtf8 text own.utf8) read in
      rw bytes (passes (judge_key w.key_id t.signature false) t
      (λ s. judge_answers (accepts (signed_bytes (box_of s) message) w.key s.signature.signature)
      (accepts_comments accepts (key_of w) (box_of s)))
      judged_text) ∙ ap (λ c. Ok c.trusted) said

half_of : (b : Bool) (v w : PublicKeyValue) (m : Misuse) → b ≡ true → (if b then Ok v else Err m) ≡ Ok w
    → v ≡ w
half_of true v w m is h = cc h
half_of false v w m is h = cc is

module _ (accepts : Verifier) (public_of : List ℕ → List ℕ) (seed : List ℕ) (v : SecretKeyValue)
    (w : PublicKeyValue)
    (pair : IsPairOf public_of seed v) (opened : is_opened v ≡ true) (public : public_value_of v ≡ Ok w) where
  half : record { mark = public_mark; key = drop 32 v.secret; key_id = v.key_id } ≡ w
  half = half_of (is_opened v) _ w KeyNotOpened opened public

  own_key : public_of seed ≡ w.key
  own_key =
      let behind : drop 32 (seed ++ public_of seed) ≡ public_of seed = rw (← pair.seed_length)
      (drop-append_seam seed (public_of seed)) in
      sym behind ∙ ap (drop 32) (sym pair.secret) ∙ ap (λ x. x.key) half

  -- If a scheme accepts both signatures under the public key of a seed, and the signature file was written
  -- for the key of this seed, the verdict on the file under this public key is the trusted comment.
  pub own_verdict : (message digest trusted untrusted first second bytes : List ℕ) (len : ℕ)
      → digest ≡ blake2b_digest 64 message → length second ≡ 64
      → HoldsSignatureFile v.key_id (comments_of trusted untrusted) first second bytes len
      → (accepts digest (public_of seed) first ≡ true)
      × (accepts (first ++ trusted) (public_of seed) second ≡ true)
      → verdict_under accepts w (take len bytes) message false ≡ Ok trusted
  own_verdict message digest trusted untrusted first second bytes len returned long holds (one, two) =
      let own : IsSignatureFileOf w.key_id (comments_of trusted untrusted) first second (take len bytes) =
      subst (λ k. IsSignatureFileOf k (comments_of trusted untrusted) first second (take len bytes))
      (ap (λ x. x.key_id) half) holds.text in
      let answers : AcceptsSignatures accepts w.key message trusted first second = record
      { data_signature = rw (← returned, ← own_key) one; comment_signature = rw (← own_key) two } in
      verified accepts w message (take len bytes) (comments_of trusted untrusted) first second own long
      answers
