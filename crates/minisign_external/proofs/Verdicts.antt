-- Lemmas about verdicts: the verdict on a public key and a signature file is the verdict on every public key
-- file that parses to this key; and the results of the two checks decide it.
use Rattle.std.proofs.Common.{◌≡◌, ◌⊎◌, ℕ, Bool, true, false, ◌||◌, ◌&&◌, ◌==◌, not, ◌+◌, if◌then◌else◌, List}
use Rattle.std.proofs.Common.{◌++◌, Result, Ok, Err, IsTrue, bytes_eq, inl, inr, ap, sym, subst, refl, ◌∙◌}
use Rattle.std.proofs.Common.{nat_le, length, take}
use Rattle.std.specs.Prelude.{⊤}
use Rattle.std.specs.Str.{IsUtf8, is_utf8}
use Rattle.std.proofs.lemmas.Str.{IsUtf8-from_is_utf8, is_utf8-from_IsUtf8}
use Rattle.std.proofs.lemmas.Slice.Eq.{bytes_eq-Decides}
use Rattle.minisign_base.specs.Fault.{Fault}
use Rattle.minisign_base.specs.declared.faults.NamedFault.{NamedFault}
use Rattle.minisign_base.specs.declared.faults.NamedFault.TheVariants.{DifferentKeyIds, LegacyNotAccepted}
use Rattle.minisign_base.specs.declared.faults.NamedFault.TheVariants.{NotUtf8}
use Rattle.minisign.specs.Records.{PublicKeyRecord, is_prehashed, prehashed_algorithm}
use Rattle.minisign.specs.Acceptance.{Verifier, Vouches, accepts_comments, judge_answers, judge_key}
use Rattle.minisign.specs.Acceptance.{signed_bytes}
use Rattle.minisign.specs.Headline.{TextsVouchFor, verdict}
use Rattle.minisign.specs.KeyTexts.{read_public_key}
use Rattle.minisign.specs.SignatureText.{SignatureTextRecord, box_of, read_signature}
use Rattle.minisign.specs.Texts.{and_then, map_ok, require}
use Rattle.minisign_external.specs.PublicKeys.{key_of, read_utf8, value_of}
use Rattle.minisign_external.specs.Questions.{Answers, IsKeyText, has_whole_signature, read_under}
use Rattle.minisign_external.specs.Questions.{verdict_under}
use Rattle.minisign_external.specs.PublicKeys.{is_public_key}
use Rattle.minisign_external.specs.States.{IsTextRefusal, check_buffer_if_read, asking_misuse}
use Rattle.minisign_external.specs.States.{result_of_asking_with_text, fed_mark, with_public_key}
use Rattle.minisign_external.specs.declared.state.Misuse.TheVariants.{PublicKeyNotRead}
use Rattle.minisign_external.specs.States.{was_asked}
use Rattle.minisign_external.specs.declared.public_keys.PublicKeyValue.{PublicKeyValue}
use Rattle.minisign_external.specs.declared.state.Misuse.{Misuse}
use Rattle.minisign_external.specs.declared.state.Misuse.TheVariants.{NoRoom, NotBegun}
use Rattle.minisign_external.specs.declared.state.Refusal.{Refusal}
use Rattle.minisign_external.specs.declared.state.Refusal.TheVariants.{Refused, WrongUse}
use Rattle.minisign_external.specs.declared.state.State.{State}

-- == Reading under a key ==

required : {V : Type 0} (b : Bool) (f : NamedFault) (r : Result V Fault) (v : V) → require b f r ≡ Ok v
    → (b ≡ true) × (r ≡ Ok v)
required true f r v h = (refl, h)
required false f r v h = cc h

and_then_value : {T : Type 0} (j : Result ⊤ Fault) (s t : T) → and_then j (λ _. Ok s) ≡ Ok t → s ≡ t
and_then_value (Ok _) s t h = cc h
and_then_value (Err e) s t h = cc h

opened_of : (r : Result SignatureTextRecord Fault) (v : PublicKeyValue) (legacy : Bool)
    (t : SignatureTextRecord)
    → and_then r (λ s. and_then (judge_key v.key_id s.signature legacy) (λ _. Ok s)) ≡ Ok t → r ≡ Ok t
opened_of (Ok s) v legacy t h = ap (λ x. Ok x) (and_then_value (judge_key v.key_id s.signature legacy) s t h)
opened_of (Err e) v legacy t h = cc h

-- A text that parses and passes the checks under a key is UTF-8 and parses to the same signature.
pub opened : (v : PublicKeyValue) (legacy : Bool) (sig_text : List ℕ) (t : SignatureTextRecord)
    → read_under v legacy sig_text ≡ Ok t
    → read_utf8 read_signature sig_text ≡ Ok t
opened v legacy sig_text t h = opened_of (read_utf8 read_signature sig_text) v legacy t h

pub opened_text : (v : PublicKeyValue) (legacy : Bool) (sig_text : List ℕ) (t : SignatureTextRecord)
    → read_under v legacy sig_text ≡ Ok t
    → IsUtf8 sig_text × (read_signature sig_text ≡ Ok t)
opened_text v legacy sig_text t h =
    let (is, read) = required (is_utf8 sig_text) NotUtf8 (read_signature sig_text) t
    (opened v legacy sig_text t h) in
    (IsUtf8-from_is_utf8 sig_text is, read)

-- == The four checks ==

-- The first two checks: a is true if the key IDs are equal, otherwise f is the error; b is true if the
-- signature is prehashed or legacy ones are allowed.
abbrev judge_two : Bool → Bool → NamedFault → Result ⊤ Fault
judge_two a b f = require a f (require b LegacyNotAccepted (Ok tt))

-- All four checks, each after the one before. c and d are the results of the two Ed25519 checks, and u is the
-- trusted comment.
abbrev tests : {T : Type 0} → Bool → Bool → Bool → Bool → NamedFault → T → List ℕ → Result (List ℕ) Fault
tests a b c d f t u =
    and_then (and_then (judge_two a b f) (λ _. Ok t)) (λ _. and_then (judge_answers c d) (λ _. Ok u))

-- If the four checks succeed, each of them does.
pass : {T : Type 0} (a b c d : Bool) (f : NamedFault) (t : T) (u w : List ℕ) → tests a b c d f t u ≡ Ok w
    → (a ≡ true) × (b ≡ true) × (c ≡ true) × (d ≡ true)
pass true true true true f t u w h = (refl, refl, refl, refl)
pass true true true false f t u w h = cc h
pass true true false d f t u w h = cc h
pass true false c d f t u w h = cc h
pass false b c d f t u w h = cc h

-- The four checks give the same result in both nestings: if the last two are inside the first two, and if
-- each check follows the one before.
reordered : {T : Type 0} (a b c d : Bool) (f : NamedFault) (t : T) (u : List ℕ)
    → and_then (and_then (judge_two a b f) (λ _. judge_answers c d)) (λ _. Ok u) ≡ tests a b c d f t u
reordered true true c d f t u = refl
reordered true false c d f t u = refl
reordered false b c d f t u = refl

either : (a b : Bool) → (a || b) ≡ true → (a ≡ true) ⊎ (b ≡ true)
either true b h = inl refl
either false b h = inr h

module _ (accepts : Verifier) (key : PublicKeyRecord) (t : SignatureTextRecord) (message : List ℕ)
    (legacy : Bool) where
  abbrev is_same : Bool
  is_same = bytes_eq t.signature.keynum key.keynum

  abbrev is_allowed : Bool
  is_allowed = is_prehashed t.signature || legacy

  abbrev is_signed : Bool
  is_signed = accepts (signed_bytes (box_of t) message) key.key t.signature.signature

  abbrev is_comment_signed : Bool
  is_comment_signed = accepts_comments accepts (key_of (value_of key)) (box_of t)

  abbrev tested : Result (List ℕ) Fault
  tested = tests is_same is_allowed is_signed is_comment_signed
      (DifferentKeyIds t.signature.keynum key.keynum) t t.comments.trusted

  vouched_by : (w : List ℕ) → tested ≡ Ok w → Vouches accepts key (box_of t) message legacy
  vouched_by w h =
      let (same, allowed, signed, commented) = pass is_same is_allowed is_signed is_comment_signed _ t
      t.comments.trusted w h in
      record {
        same_key = (bytes_eq-Decides t.signature.keynum key.keynum).0 same;
        allowed = elim (either (is_prehashed t.signature) legacy allowed) [
          | inl is ↦ inl ((bytes_eq-Decides t.signature.algorithm prehashed_algorithm).0 is)
          | inr is ↦ inr is
        ];
        signed = signed;
        comment_signed = commented;
      }

-- == The public key file and the signature file ==

-- If a check returns t on success, applying a function to its result is applying the function to t.
chained : {T W : Type 0} (j : Result ⊤ Fault) (t : T) (more : T → Result W Fault)
    → and_then (and_then j (λ _. Ok t)) more ≡ and_then (and_then j (λ _. Ok t)) (λ _. more t)
chained (Ok _) t more = refl
chained (Err e) t more = refl

module _ (accepts : Verifier) (pk_text sig_text message : List ℕ) (legacy : Bool) (key : PublicKeyRecord)
    (key_read : read_public_key pk_text ≡ Ok key)
    (utf8 : IsUtf8 sig_text) where
  as_read : read_signature sig_text ≡ read_utf8 read_signature sig_text
  as_read = rw (is_utf8-from_IsUtf8 sig_text utf8) refl

  as_tested : (t : SignatureTextRecord) → read_signature sig_text ≡ Ok t
      → verdict_under accepts (value_of key) sig_text message legacy ≡ tested accepts key t message legacy
  as_tested t read = rw (sym as_read ∙ read)
      (chained (judge_key (value_of key).key_id t.signature legacy) t
      (λ (s : SignatureTextRecord). and_then
      (judge_answers (accepts (signed_bytes (box_of s) message) key.key s.signature.signature)
      (accepts_comments accepts (key_of (value_of key)) (box_of s))) (λ _. Ok s.comments.trusted)))

  unread : (e f : Fault) → read_signature sig_text ≡ Err f
      → verdict_under accepts (value_of key) sig_text message legacy ≡ Err e → f ≡ e
  unread e f read h =
      let g : verdict_under accepts (value_of key) sig_text message legacy
      ≡ Err f = rw (sym as_read ∙ read) refl in
      let same = sym g ∙ h in cc same

  vouch_of : (r : Result SignatureTextRecord Fault) (w : List ℕ) → read_signature sig_text ≡ r
      → verdict_under accepts (value_of key) sig_text message legacy ≡ Ok w
      → TextsVouchFor accepts pk_text sig_text message legacy
  vouch_of (Ok t) w read h = record {
    key = key;
    box = box_of t;
    key_read = key_read;
    box_read = ap (map_ok box_of) read;
    vouches = vouched_by accepts key t message legacy w (sym (as_tested t read) ∙ h);
  }
  vouch_of (Err e) w read h =
      let g : verdict_under accepts (value_of key) sig_text message legacy
      ≡ Err e = rw (sym as_read ∙ read) refl in
      let no = sym g ∙ h in cc no

  -- The verdict on the public key file and the signature file is the result of the four checks of the key and
  -- the signature.
  as_verdict : (t : SignatureTextRecord) → read_signature sig_text ≡ Ok t
      → verdict accepts pk_text sig_text message legacy ≡ tested accepts key t message legacy
  unfolding verdict
  as_verdict t read = rw (key_read, read)
      (reordered (is_same accepts key t message legacy) (is_allowed accepts key t message legacy)
      (is_signed accepts key t message legacy)
      (is_comment_signed accepts key t message legacy) (DifferentKeyIds t.signature.keynum key.keynum) t
      t.comments.trusted)

  unread_verdict : (f : Fault) → read_signature sig_text ≡ Err f
      → verdict accepts pk_text sig_text message legacy ≡ Err f
  unfolding verdict
  unread_verdict f read = rw (key_read, read) refl

  refuse_of : (r : Result SignatureTextRecord Fault) (e : Fault) → read_signature sig_text ≡ r
      → verdict_under accepts (value_of key) sig_text message legacy ≡ Err e
      → verdict accepts pk_text sig_text message legacy ≡ Err e
  refuse_of (Ok t) e read h = as_verdict t read ∙ (sym (as_tested t read) ∙ h)
  refuse_of (Err f) e read h = let same : f ≡ e = unread e f read h in unread_verdict f read
      ∙ ap (λ x. Err x) same

module _ (accepts : Verifier) (pk_text sig_text message : List ℕ) (legacy : Bool) (v : PublicKeyValue)
    (keyed : IsKeyText pk_text v) (utf8 : IsUtf8 sig_text) where
  pub vouch : (w : List ℕ) → verdict_under accepts v sig_text message legacy ≡ Ok w
      → TextsVouchFor accepts pk_text sig_text message legacy
  vouch w h =
      vouch_of accepts pk_text sig_text message legacy keyed.key keyed.read utf8 (read_signature sig_text) w
      refl
      (subst (λ u. verdict_under accepts u sig_text message legacy ≡ Ok w) keyed.value_of_key h)

  pub refuse : (e : Fault) → verdict_under accepts v sig_text message legacy ≡ Err e
      → verdict accepts pk_text sig_text message legacy ≡ Err e
  refuse e h =
      refuse_of accepts pk_text sig_text message legacy keyed.key keyed.read utf8 (read_signature sig_text) e
      refl
      (subst (λ u. verdict_under accepts u sig_text message legacy ≡ Err e) keyed.value_of_key h)

-- == The results of the two checks ==

same_and : (w x y : Bool) → (w ≡ true → x ≡ y) → (w && x) ≡ (w && y)
same_and true x y h = h refl
same_and false x y h = refl

-- The comment signature is accepted exactly if it has at least 64 bytes and the result of the second check is
-- true.
pub comment_answer : (accepts : Verifier) (v : PublicKeyValue) (t : SignatureTextRecord) (whole second : Bool)
    → whole ≡ has_whole_signature t.comments
    → (IsTrue (has_whole_signature t.comments) → accepts (t.signature.signature ++ t.comments.trusted) v.key
    (take 64 t.comments.signature) ≡ second)
    → accepts_comments accepts (key_of v) (box_of t) ≡ (whole && second)
comment_answer accepts v t whole second is answer =
    same_and (has_whole_signature t.comments) _ second answer ∙ ap (λ w. w && second) (sym is)

-- The results of the two checks decide the verdict.
pub decided : (accepts : Verifier) (v : PublicKeyValue) (sig_text message : List ℕ) (legacy : Bool)
    (t : SignatureTextRecord) (whole first second : Bool)
    → read_under v legacy sig_text ≡ Ok t → whole ≡ has_whole_signature t.comments
    → Answers accepts v sig_text message first second
    → verdict_under accepts v sig_text message legacy ≡ and_then (judge_answers first (whole && second))
    (λ _. Ok t.comments.trusted)
decided accepts v sig_text message legacy t whole first second opens is answers =
    let (utf8, read) = opened_text v legacy sig_text t opens in
    rw opens
    (ap (λ (x : Bool). and_then (judge_answers x (accepts_comments accepts (key_of v) (box_of t)))
    (λ _. Ok t.comments.trusted)) (answers.data_signature t read)
    ∙ ap (λ (x : Bool). and_then (judge_answers first x) (λ _. Ok t.comments.trusted))
    (comment_answer accepts v t whole second is (answers.comment_signature t read)))

-- == Errors of asking ==

abbrev fits : Bool → Result Unit (Refusal Fault)
fits b = if b then Ok tt else Err (WrongUse NoRoom)

-- A check of the buffer fails only with API misuse, not with an error of the library.
has_room : (b : Bool) (e : Fault) → fits b ≡ Err (Refused e) → ⊥
has_room true e h = cc h
has_room false e h = cc h

abbrev begun : Bool → Result SignatureTextRecord Fault → ℕ → Misuse → Result Unit (Refusal Fault)
begun b r room m = if b then check_buffer_if_read r room else Err (WrongUse m)

-- An error of the library comes from parsing the text or checking it under the key.
refused_text : (b : Bool) (r : Result SignatureTextRecord Fault) (room : ℕ) (m : Misuse) (e : Fault)
    → begun b r room m ≡ Err (Refused e) → r ≡ Err e
refused_text true (Ok t) room m e h = absurd (has_room (nat_le (64 + length t.comments.trusted) room) e h)
refused_text true (Err f) room m e h = let same : f ≡ e = cc h in ap (λ x. Err x) same
refused_text false r room m e h = cc h

-- If asking fails after the checks of the state and the public key, then verification fails with the same
-- error, or the error is API misuse (IsTextRefusal).
pub opening_refusal : (v : PublicKeyValue) (sig_text : List ℕ) (legacy : Bool) (room : ℕ) (r : Refusal Fault)
    → check_buffer_if_read (read_under v legacy sig_text) room ≡ Err r → IsTextRefusal v sig_text legacy r
opening_refusal v sig_text legacy room (WrongUse m) h = tt
opening_refusal v sig_text legacy room (Refused e) h = λ utf8 pk_text message accepts keyed.
    refuse accepts pk_text sig_text message legacy v keyed utf8 e
    (rw (refused_text true (read_under v legacy sig_text) room NotBegun e h) refl)

-- The same for the check that the public key was read, followed by the checks after it.
refusal_of_asking : (b : Bool) (v : PublicKeyValue) (sig_text : List ℕ) (legacy : Bool) (room : ℕ)
    (r : Refusal Fault)
    → (if b then check_buffer_if_read (read_under v legacy sig_text) room
    else Err (WrongUse PublicKeyNotRead)) ≡ Err r
    → IsTextRefusal v sig_text legacy r
refusal_of_asking b v sig_text legacy room (WrongUse m) h = tt
refusal_of_asking true v sig_text legacy room (Refused e) h =
    opening_refusal v sig_text legacy room (Refused e) h
refusal_of_asking false v sig_text legacy room (Refused e) h = cc h

-- `opening_refusal` for all checks of asking after that of the state, which include that of the public key.
pub opening_refusal_under : (v : PublicKeyValue) (sig_text : List ℕ) (legacy : Bool) (room : ℕ)
    (r : Refusal Fault) → with_public_key v (check_buffer_if_read (read_under v legacy sig_text) room) ≡ Err r
    → IsTextRefusal v sig_text legacy r
opening_refusal_under v sig_text legacy room r h =
    refusal_of_asking (is_public_key v) v sig_text legacy room r h
