-- Lemmas about the error number of the verdict under the strict scheme, which also rejects weak public keys
-- and signatures.
use Rattle.std.proofs.Common.{◌≡◌, ◌∙◌, ◌<◌, ◌≤◌, ◌+◌, ◌==◌, ◌&&◌, ◌||◌, not, ℕ, Bool, true, false}
use Rattle.std.proofs.Common.{if◌then◌else◌, List, length, Result, Ok, Err, ap, sym, refl, arith, subst}
use Rattle.std.proofs.Common.{ne_eqb, le-leb, nat_le, take, [], ◌++◌}
use Rattle.std.specs.Prelude.{⊤, is_ok}
use Rattle.minisign_base.specs.Fault.{Fault}
use Rattle.minisign.specs.Acceptance.{Verifier, judge_answers, judge_key, signed_bytes}
use Rattle.minisign.specs.Records.{PublicKeyRecord}
use Rattle.minisign.specs.SignatureText.{SignatureTextRecord, box_of, read_signature}
use Rattle.minisign.specs.Texts.{and_then}
use Rattle.minisign_external.specs.Numbers.{fault_number, weak_number}
use Rattle.minisign_external.specs.PublicKeys.{is_public_key, read_utf8, value_of}
use Rattle.minisign_external.specs.Questions.{has_whole_signature, read_under, verdict_under}
use Rattle.minisign_external.specs.States.{IsBlank, IsFedState, check_buffer_if_read, asking_misuse}
use Rattle.minisign_external.specs.States.{result_of_asking_with_text}
use Rattle.minisign_external.specs.States.{can_be_asked, verdict_number, with_public_key}
use Rattle.minisign_external.specs.StrictCalls.{asked_number, asked_strictly, is_strict_text, number_with_key}
use Rattle.minisign_external.specs.StrictCalls.{strict, strict_read, strict_verdict_number}
use Rattle.minisign_external.specs.StrictEd25519.{is_strict_point, is_strict_signature}
use Rattle.minisign_external.specs.declared.public_keys.PublicKeyValue.{PublicKeyValue}
use Rattle.minisign_external.specs.declared.state.Misuse.TheVariants.{NoRoom, PublicKeyNotRead}
use Rattle.minisign_external.specs.declared.state.Refusal.TheVariants.{WrongUse}
use Rattle.minisign_external.specs.declared.state.State.{State}
use Rattle.minisign_c.proofs.Positive.{positive}

-- == Parsing ==

read_same : (j : Result ⊤ Fault) (s t : SignatureTextRecord) → and_then j (λ _. Ok s) ≡ Ok t → s ≡ t
read_same (Ok _) s t h = cc h
read_same (Err e) s t h = cc h

opened_of : (r : Result SignatureTextRecord Fault) (v : PublicKeyValue) (t : SignatureTextRecord)
    → and_then r (λ s. and_then (judge_key v.key_id s.signature false) (λ _. Ok s)) ≡ Ok t → r ≡ Ok t
opened_of (Ok s) v t h = ap (λ x. Ok x) (read_same (judge_key v.key_id s.signature false) s t h)
opened_of (Err e) v t h = cc h

-- A text that parses and passes the checks under a key parses to the same signature.
pub opened : (v : PublicKeyValue) (text : List ℕ) (t : SignatureTextRecord) → read_under v false text ≡ Ok t
    → read_utf8 read_signature text ≡ Ok t
opened v text t h = opened_of (read_utf8 read_signature text) v t h

-- == The results of the two checks ==

abbrev decided : Bool → Bool → List ℕ → Result (List ℕ) Fault
decided first second trusted = and_then (judge_answers first second) (λ _. Ok trusted)

-- If neither the key nor a signature is weak, the stricter scheme gives the same verdict.
strictly_same : (p q w r a b : Bool) (x : List ℕ) → ((p && q) && (not w || r)) ≡ true
    → decided ((p && q) && a) (w && ((p && r) && b)) x ≡ decided a (w && b) x
strictly_same true true true true a b x h = refl
strictly_same true true true false a b x h = cc h
strictly_same true true false r a b x h = refl
strictly_same true false w r a b x h = cc h
strictly_same false q w r a b x h = cc h

-- If the key or a signature is weak, the verdict of the stricter scheme is an error.
not_strict : (p q w r a b : Bool) (x : List ℕ) → ((p && q) && (not w || r)) ≡ false
    → is_ok (decided ((p && q) && a) (w && ((p && r) && b)) x) ≡ false
not_strict true true true true a b x h = cc h
not_strict true true true false true b x h = refl
not_strict true true true false false b x h = refl
not_strict true true false r a b x h = cc h
not_strict true false w r a b x h = refl
not_strict false q w r a b x h = refl

-- == Numbers ==

pub some_number : (n : ℕ) → 0 < n → (n == 0) ≡ false
some_number n some = ne_eqb n 0 (λ none. omega arith)

-- The number is 0 exactly if the verdict is success.
number_zero : (r : Result (List ℕ) Fault) → (verdict_number r == 0) ≡ is_ok r
number_zero (Ok x) = refl
number_zero (Err e) = some_number (fault_number e) (positive e)

read_zero : (s : Bool) (r : Result (List ℕ) Fault) → (s ≡ false → is_ok r ≡ false)
    → ((if s then verdict_number r else weak_number) == 0) ≡ is_ok r
read_zero true r h = number_zero r
read_zero false r h = sym (h refl)

pub chosen : (s : Bool) (n : ℕ) → s ≡ true → (if s then n else weak_number) ≡ n
chosen true n h = refl
chosen false n h = cc h

module _ (accepts : Verifier) (v : PublicKeyValue) (text message : List ℕ) where
  abbrev strict_verdict : Result (List ℕ) Fault
  strict_verdict = verdict_under (strict accepts) v text message false

  -- The signature file was parsed and passed the checks under the key.
  module _ (t : SignatureTextRecord) (read : read_under v false text ≡ Ok t) where
    abbrev first : Bool
    first = accepts (signed_bytes (box_of t) message) v.key t.signature.signature

    abbrev second : Bool
    second = accepts (t.signature.signature ++ t.comments.trusted) v.key (take 64 t.comments.signature)

    as_decided : strict_verdict
        ≡ decided ((is_strict_point v.key && is_strict_signature t.signature.signature) && first)
        (has_whole_signature t.comments && ((is_strict_point v.key
        && is_strict_signature (take 64 t.comments.signature)) && second))
        t.comments.trusted
    as_decided = rw read refl

    pub strict_same : is_strict_text v t ≡ true → strict_verdict ≡ verdict_under accepts v text message false
    strict_same h = as_decided
        ∙ strictly_same (is_strict_point v.key) (is_strict_signature t.signature.signature)
        (has_whole_signature t.comments) (is_strict_signature (take 64 t.comments.signature)) first second
        t.comments.trusted h
        ∙ rw read refl

    pub not_accepted : is_strict_text v t ≡ false → is_ok strict_verdict ≡ false
    not_accepted h = ap (λ (r : Result (List ℕ) Fault). is_ok r) as_decided
        ∙ not_strict (is_strict_point v.key) (is_strict_signature t.signature.signature)
        (has_whole_signature t.comments) (is_strict_signature (take 64 t.comments.signature)) first second
        t.comments.trusted h

    -- If neither the key nor a signature is weak, the number is that of the scheme's verdict.
    pub strict_number : is_strict_text v t ≡ true
        → verdict_number (verdict_under accepts v text message false)
        ≡ strict_verdict_number accepts v text message false
    strict_number h = sym (ap (λ r. strict_read v r (verdict_number strict_verdict)) read
        ∙ chosen (is_strict_text v t) (verdict_number strict_verdict) h
        ∙ ap verdict_number (strict_same h))

  read_of : (r : Result SignatureTextRecord Fault) → read_under v false text ≡ r
      → (strict_read v r (verdict_number strict_verdict) == 0) ≡ is_ok strict_verdict
  read_of (Ok t) is = read_zero (is_strict_text v t) strict_verdict (not_accepted t is)
  read_of (Err e) is = number_zero strict_verdict

  -- The number is 0 exactly if the verdict is success for the scheme that also rejects weak public keys and
  -- signatures.
  pub accepted : (strict_verdict_number accepts v text message false == 0) ≡ is_ok strict_verdict
  accepted = read_of (read_under v false text) refl

-- `accepted` for the result of parsing the public key.
pub accepted_with : (accepts : Verifier) (text message : List ℕ) (r : Result PublicKeyRecord Fault)
    → (number_with_key r (λ k. strict_verdict_number accepts (value_of k) text message false) == 0)
    ≡ is_ok (and_then r (λ k. verdict_under (strict accepts) (value_of k) text message false))
accepted_with accepts text message (Ok k) = accepted accepts (value_of k) text message
accepted_with accepts text message (Err e) = some_number (fault_number e) (positive e)

-- == Errors of asking ==

-- If the buffer is long enough, the only possible error is that of a weak key or signature.
pub room_is_enough : (s b : Bool) → b ≡ true
    → asked_number (asked_strictly s (if b then Ok tt else Err (WrongUse NoRoom)))
    ≡ (if s then 0 else weak_number)
room_is_enough s true h = refl
room_is_enough s false h = cc h

-- If the number for weak keys and signatures is not 0, it is the result, whatever the verdict is.
pub weak_number_if_positive : (s : Bool) (n : ℕ) → 0 < (if s then 0 else weak_number)
    → (if s then 0 else weak_number) ≡ (if s then n else weak_number)
weak_number_if_positive true n h = absurd (omega arith)
weak_number_if_positive false n h = refl

module _ (accepts : Verifier) (v : PublicKeyValue) (text message : List ℕ) (room : ℕ)
    (t : SignatureTextRecord) (read : read_utf8 read_signature text ≡ Ok t)
    (fits : 64 + length t.comments.trusted ≤ room) where
  number_of_failed_ask : (r : Result SignatureTextRecord Fault) → read_under v false text ≡ r
      → 0 < asked_number (asked_strictly (is_strict_text v t) (check_buffer_if_read r room))
      → asked_number (asked_strictly (is_strict_text v t) (check_buffer_if_read r room))
      ≡ strict_read v r (verdict_number (verdict_under (strict accepts) v text message false))
  number_of_failed_ask (Ok u) is some =
      let both = sym read ∙ opened v text u is in
      let same : t ≡ u = cc both in
      let none : asked_number (asked_strictly (is_strict_text v t) (check_buffer_if_read (Ok u) room))
      ≡ (if is_strict_text v u then 0 else weak_number) =
      rw same (room_is_enough (is_strict_text v u) (nat_le (64 + length u.comments.trusted) room)
      (le-leb _ _ (subst (λ (x : SignatureTextRecord). 64 + length x.comments.trusted ≤ room) same fits))) in
      none ∙ weak_number_if_positive (is_strict_text v u) _ (subst (λ (k : ℕ). 0 < k) none some)
  number_of_failed_ask (Err e) is some = rw is refl

  -- If asking a new state fails (`minisign_ask`), the verdict has the same error number.
  pub failed_ask_number : (s : State) (n : ℕ) → is_public_key v ≡ true → IsFedState s [] → IsBlank s
      → n ≡ asked_number (asked_strictly (is_strict_text v t)
      (result_of_asking_with_text s v text false room)) → 0 < n
      → n ≡ strict_verdict_number accepts v text message false
  failed_ask_number s n public fed blank is some =
      let may : can_be_asked s ≡ true = rw (fed.mark, blank.asked) refl in
      let returned : n ≡ asked_number (asked_strictly (is_strict_text v t)
      (check_buffer_if_read (read_under v false text) room)) =
      is ∙ ap (λ (b : Bool). asked_number (asked_strictly (is_strict_text v t)
      (if b then with_public_key v (check_buffer_if_read (read_under v false text) room) else
      Err (WrongUse (asking_misuse s))))) may
      ∙ ap (λ (b : Bool). asked_number (asked_strictly (is_strict_text v t)
      (if b then check_buffer_if_read (read_under v false text) room
      else Err (WrongUse PublicKeyNotRead)))) public in
      returned ∙ number_of_failed_ask (read_under v false text) refl (subst (λ (k : ℕ). 0 < k) returned some)
