-- Lemmas about the questions for a key and a signature file: the results that a scheme returns for them are
-- the results of the checks that decide the verdict.
use Rattle.std.proofs.Common.{◌≡◌, ℕ, Bool, true, false, ◌||◌, List, ◌++◌, Result, Ok, Err, IsTrue, ap, sym}
use Rattle.std.proofs.Common.{subst, refl, ◌∙◌, length, take, if◌then◌else◌, [], ◌+◌, nat_le, ◌≤◌, le-leb}
use Rattle.std.specs.Prelude.{⊤}
use Rattle.minisign_hash.specs.Blake2b.{blake2b_digest}
use Rattle.minisign_base.specs.Fault.{Fault}
use Rattle.minisign_base.specs.declared.faults.NamedFault.{NamedFault}
use Rattle.minisign.specs.Acceptance.{Verifier, judge_key, signed_bytes}
use Rattle.minisign.specs.Records.{is_prehashed}
use Rattle.minisign.specs.SignatureText.{SignatureTextRecord, box_of, read_signature}
use Rattle.minisign.specs.Texts.{and_then, map_ok, require}
use Rattle.minisign_external.specs.Signatures.{read_signature_value, signature_value}
use Rattle.minisign_external.specs.PublicKeys.{is_public_key, read_utf8}
use Rattle.minisign_external.specs.Questions.{Answers, has_whole_signature, read_under}
use Rattle.minisign_external.specs.Questions.{comment_signature_or_zeros}
use Rattle.minisign_external.specs.States.{AreQuestionsWithoutDigest, IsBlank, IsFedState}
use Rattle.minisign_external.specs.States.{check_buffer_if_read, asking_misuse, result_of_asking_with_text}
use Rattle.minisign_external.specs.States.{without_trusted_comment, can_be_asked, with_public_key}
use Rattle.minisign_external.specs.Questions.{verdict_under}
use Rattle.minisign_external.specs.declared.state.Misuse.TheVariants.{NoRoom, PublicKeyNotRead}
use Rattle.minisign_external.specs.declared.state.Refusal.{Refusal}
use Rattle.minisign_external.specs.declared.state.Refusal.TheVariants.{Refused, WrongUse}
use Rattle.minisign_external.specs.declared.state.State.{State}
use Rattle.minisign_external.specs.declared.public_keys.PublicKeyValue.{PublicKeyValue}
use Rattle.minisign_external.specs.declared.state.Questions.{Questions}
use Rattle.minisign_external.proofs.Verdicts.{opened_text}

second_is_true : (a b : Bool) (f g : NamedFault) (u : ⊤) → require a f (require (b || false) g (Ok tt)) ≡ Ok u
    → b ≡ true
second_is_true true true f g u h = refl
second_is_true true false f g u h = cc h
second_is_true false b f g u h = cc h

of_judged : (v : PublicKeyValue) (s t : SignatureTextRecord) (j : Result ⊤ Fault)
    → judge_key v.key_id s.signature false ≡ j
    → and_then j (λ _. Ok s) ≡ Ok t → is_prehashed t.signature ≡ true
of_judged v s t (Ok u) e h =
    let same : s ≡ t = cc h in subst (λ x. is_prehashed x.signature ≡ true) same (second_is_true _ _ _ _ u e)
of_judged v s t (Err f) e h = cc h

of_read : (v : PublicKeyValue) (t : SignatureTextRecord) (r : Result SignatureTextRecord Fault)
    → and_then r (λ s. and_then (judge_key v.key_id s.signature false) (λ _. Ok s)) ≡ Ok t
    → is_prehashed t.signature ≡ true
of_read v t (Ok s) h = of_judged v s t (judge_key v.key_id s.signature false) refl h
of_read v t (Err f) h = cc h

-- A signature that passes the checks under a key is prehashed, if legacy signatures are not allowed.
pub prehashed : (v : PublicKeyValue) (text : List ℕ) (t : SignatureTextRecord) → read_under v false text
    ≡ Ok t → is_prehashed t.signature ≡ true
prehashed v text t h = of_read v t (read_utf8 read_signature text) h

whole_signature_is : (b : Bool) (x y : List ℕ) → IsTrue b → (if b then x else y) ≡ x
whole_signature_is true x y h = refl
whole_signature_is false x y h = cc h

module _ (accepts : Verifier) (v : PublicKeyValue) (text m room digest : List ℕ) (t : SignatureTextRecord)
    (q : Questions)
    (opens : read_under v false text ≡ Ok t) (asked : AreQuestionsWithoutDigest q room v t)
    (returned : digest ≡ blake2b_digest 64 m) where
  first_answer : accepts (signed_bytes (box_of t) m) v.key t.signature.signature
      ≡ accepts digest q.public_key q.signature
  first_answer = rw (prehashed v text t opens, asked.0, returned) refl

  second_answer : IsTrue (has_whole_signature t.comments)
      → accepts (t.signature.signature ++ t.comments.trusted) v.key (take 64 t.comments.signature)
      ≡ accepts (take q.message_len room) q.public_key q.comment_signature
  second_answer whole =
      let message : take q.message_len room ≡ t.signature.signature ++ t.comments.trusted = asked.1.message in
      let key : q.public_key ≡ v.key = ap (λ x. x.public_key) asked.0 in
      let signature : q.comment_signature ≡ comment_signature_or_zeros t.comments = ap
      (λ x. x.comment_signature)
      asked.0 in
      rw (message, key, signature ∙ whole_signature_is (has_whole_signature t.comments) _ _ whole) refl

  pub answered : Answers accepts v text m (accepts digest q.public_key q.signature)
      (accepts (take q.message_len room) q.public_key q.comment_signature)
  answered =
      let (utf8, read) = opened_text v false text t opens in
      record {
        data_signature = λ s is. let same : t ≡ s = cc (sym read ∙ is) in
            subst (λ x. accepts (signed_bytes (box_of x) m) v.key x.signature.signature
            ≡ accepts digest q.public_key q.signature) same first_answer;
        comment_signature = λ s is. let same : t ≡ s = cc (sym read ∙ is) in
            subst (λ x. IsTrue (has_whole_signature x.comments)
            → accepts (x.signature.signature ++ x.comments.trusted) v.key (take 64 x.comments.signature)
            ≡ accepts (take q.message_len room) q.public_key q.comment_signature) same second_answer;
      }

module _ (accepts : Verifier) (v : PublicKeyValue) (text m room digest : List ℕ) (t : SignatureTextRecord)
    (q : Questions)
    (opens : read_under v false text ≡ Ok t) (asked : AreQuestionsWithoutDigest q room v t)
    (returned : digest ≡ blake2b_digest 64 m) where
  pub results_of_questions : (first second : Bool) → first ≡ accepts digest q.public_key q.signature
      → second ≡ accepts (take q.message_len room) q.public_key q.comment_signature
      → Answers accepts v text m first second
  results_of_questions first second is also =
      let both = answered accepts v text m room digest t q opens asked returned in
      let one = subst (λ x. Answers accepts v text m x
      (accepts (take q.message_len room) q.public_key q.comment_signature)) (sym is) both in
      subst (λ x. Answers accepts v text m first x) (sym also) one

-- A buffer that is long enough does not cause an error.
room_is_enough : (b : Bool) (r : Refusal Fault) → b ≡ true
    → ◌≡◌ {A = Result Unit (Refusal Fault)} (Err r) (if b then Ok tt else Err (WrongUse NoRoom)) → ⊥
room_is_enough true r is h = cc h
room_is_enough false r is h = cc is

module _ (accepts : Verifier) (v : PublicKeyValue) (text message : List ℕ) (room : ℕ) (r : Refusal Fault)
    (fits : (t : SignatureTextRecord) → read_under v false text ≡ Ok t → 64 + length t.comments.trusted
    ≤ room) where
  error_of_failed_ask : (x : Result SignatureTextRecord Fault) → read_under v false text ≡ x
      → Err r ≡ check_buffer_if_read x room
      → Err r ≡ without_trusted_comment (verdict_under accepts v text message false)
  error_of_failed_ask (Ok t) e h = absurd
      (room_is_enough (nat_le (64 + length t.comments.trusted) room) r (le-leb _ _ (fits t e)) h)
  error_of_failed_ask (Err f) e h = rw e h

  -- If asking a new state fails, the verdict on the key and the signature file is the same error.
  pub failed_ask_verdict : (s : State) → is_public_key v ≡ true → IsFedState s [] → IsBlank s
      → Err r ≡ result_of_asking_with_text s v text false room
      → Err r ≡ without_trusted_comment (verdict_under accepts v text message false)
  failed_ask_verdict s public fed blank is =
      let may : can_be_asked s ≡ true = rw (fed.mark, blank.asked) refl in
      error_of_failed_ask (read_under v false text) refl
      (is
      ∙ ap (λ (b : Bool). if b then with_public_key v (check_buffer_if_read (read_under v false text) room)
      else Err (WrongUse (asking_misuse s))) may
      ∙ ap (λ (b : Bool). if b then check_buffer_if_read (read_under v false text) room else
      Err (WrongUse PublicKeyNotRead)) public)

-- If parsing the signature file fails, the verdict is the same error.
pub unparsed_verdict : (accepts : Verifier) (v : PublicKeyValue) (text message : List ℕ) (e : Fault)
    → read_signature_value text ≡ Err e
    → Err (Refused e) ≡ without_trusted_comment (verdict_under accepts v text message false)
unparsed_verdict accepts v text message e h = of_text (read_utf8 read_signature text) refl h
  where
    of_text : (r : Result SignatureTextRecord Fault) → read_utf8 read_signature text ≡ r
        → map_ok (signature_value text) r ≡ Err e
        → Err (Refused e) ≡ without_trusted_comment (verdict_under accepts v text message false)
    of_text (Ok t) is none = cc none
    of_text (Err f) is same = let one : f ≡ e = cc same in rw (is, one) refl
