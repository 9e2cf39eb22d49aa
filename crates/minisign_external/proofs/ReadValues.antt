-- Lemmas about a struct into which a signature file was read: asking a state about the struct gives the same
-- result as parsing the file and checking it under the key.
use Rattle.std.proofs.Common.{◌≡◌, ◌∙◌, ◌==◌, ◌+◌, ℕ, Bool, true, false, if◌then◌else◌, List, length, take}
use Rattle.std.proofs.Common.{drop, Result, Ok, Err, ap, sym, refl, subst, le-leb, IfOk, IfErr, ◌≤◌, ◌++◌}
use Rattle.std.proofs.Common.{◌&&◌}
use Rattle.std.specs.Prelude.{⊤, bytes_eq, nat_le}
use Rattle.std.specs.Str.{IsUtf8, is_utf8}
use Rattle.std.proofs.lemmas.Slice.Eq.{bytes_eq-Decides}
use Rattle.std.proofs.lemmas.Str.{IsUtf8-from_is_utf8, is_utf8-from_IsUtf8}
use Rattle.minisign_hash.specs.Blake2b.{blake2b_digest}
use Rattle.minisign_base.specs.Fault.{Fault}
use Rattle.minisign.specs.Acceptance.{judge_key}
use Rattle.minisign.specs.SignatureText.{SignatureTextRecord, read_signature, IsAtOffset}
use Rattle.minisign.specs.Texts.{and_then, map_ok}
use Rattle.minisign_external.specs.PublicKeys.{is_public_key, read_utf8}
use Rattle.minisign_external.specs.Questions.{HoldsMessage, has_whole_signature, read_under}
use Rattle.minisign_external.specs.Signatures.{IsReadFrom, comment_bytes, comment_of, is_text_of}
use Rattle.minisign_external.specs.Signatures.{read_signature_value, signature_mark, signature_of_value}
use Rattle.minisign_external.specs.Signatures.{signature_value}
use Rattle.minisign_external.specs.States.{WasAskedAbout, IsTextRefusal, state_after_asking}
use Rattle.minisign_external.specs.States.{check_ask_arguments, check_buffer_if_read, asking_misuse}
use Rattle.minisign_external.specs.States.{result_of_asking, result_of_asking_with_text, after_key_check}
use Rattle.minisign_external.specs.States.{can_be_asked, after_comment_check, questions_for_value}
use Rattle.minisign_external.specs.States.{questions_for_text, check_buffer, with_public_key}
use Rattle.minisign_external.specs.declared.public_keys.PublicKeyValue.{PublicKeyValue}
use Rattle.minisign_external.specs.declared.signatures.SignatureValue.{SignatureValue}
use Rattle.minisign_external.specs.declared.state.Misuse.{Misuse}
use Rattle.minisign_external.specs.declared.state.Misuse.TheVariants.{OtherSignatureText, PublicKeyNotRead}
use Rattle.minisign_external.specs.declared.state.Misuse.TheVariants.{SignatureNotRead}
use Rattle.minisign_external.specs.declared.state.Refusal.{Refusal}
use Rattle.minisign_external.specs.declared.state.Refusal.TheVariants.{Refused, WrongUse}
use Rattle.minisign_external.specs.declared.state.State.{State}
use Rattle.minisign_external.proofs.Utf8.{not_true, of_text}
use Rattle.minisign_external.proofs.Verdicts.{opening_refusal}

-- The conjunction of three true Booleans is true.
all_hold : (a b c : Bool) → a ≡ true → b ≡ true → c ≡ true → (a && b && c) ≡ true
all_hold true true true x y z = refl
all_hold true true false x y z = cc z
all_hold true false c x y z = cc y
all_hold false b c x y z = cc x

last_fails : (a b c : Bool) → c ≡ false → (a && b && c) ≡ false
last_fails true true c is = is
last_fails true false c is = refl
last_fails false b c is = refl

chosen : (a b : Bool) (x y : List ℕ) → a ≡ true → b ≡ true → x ≡ y
    → ◌≡◌ {A = Result (List ℕ) Misuse}
    (if a then if b then Ok x else Err OtherSignatureText else Err SignatureNotRead) (Ok y)
chosen true true x y p q same = ap (λ c. Ok c) same
chosen true false x y p q same = cc q
chosen false b x y p q same = cc p

-- If asking with a public key succeeds, the checks after that of the public key succeed.
of_public : (b : Bool) (x : Result Unit (Refusal Fault))
    → (if b then x else Err (WrongUse PublicKeyNotRead)) ≡ Ok tt → x ≡ Ok tt
of_public true x h = h
of_public false x h = cc h

one_or_zero : (b : Bool) → ((if b then 1 else 0) == 1) ≡ b
one_or_zero true = refl
one_or_zero false = refl

-- The two ways to compute the checks after parsing, from the struct and from the text, give the same result.
judged_as : (j : Result ⊤ Fault) (t : SignatureTextRecord) (room : ℕ)
    → after_key_check j (check_buffer (length t.comments.trusted) room) ≡ check_buffer_if_read (and_then j
    (λ _. Ok t)) room
judged_as (Ok u) t room = refl
judged_as (Err e) t room = refl

-- If they succeed, the text passes the checks under the key.
judged_ok : (j : Result ⊤ Fault) (t : SignatureTextRecord) (room : ℕ)
    → check_buffer_if_read (and_then j (λ _. Ok t)) room ≡ Ok tt
    → ◌≡◌ {A = Result SignatureTextRecord Fault} (and_then j (λ _. Ok t)) (Ok t)
judged_ok (Ok u) t room h = refl
judged_ok (Err e) t room h = cc h

-- A text with the recorded digest, and with UTF-8 at the position of the comment, is accepted as the text of
-- the struct.
pub is_same : (s : SignatureValue) (text part : List ℕ) → bytes_eq (blake2b_digest 32 text) s.text_digest
    ≡ true → nat_le (s.comment_offset + s.comment_len) (length text) ≡ true
    → part ≡ comment_bytes s text → IsUtf8 part → is_text_of s text ≡ true
is_same s text part digest fits is utf8 =
    all_hold (bytes_eq (blake2b_digest 32 text) s.text_digest)
    (nat_le (s.comment_offset + s.comment_len) (length text)) (is_utf8 (comment_bytes s text))
    digest fits (ap is_utf8 (sym is) ∙ is_utf8-from_IsUtf8 part utf8)

-- If the bytes at the position of the comment are not UTF-8, the text is not accepted as the text of the
-- struct.
pub is_other : (s : SignatureValue) (text part : List ℕ) → part ≡ comment_bytes s text → ¬ (IsUtf8 part)
    → is_text_of s text ≡ false
is_other s text part is other =
    last_fails (bytes_eq (blake2b_digest 32 text) s.text_digest)
    (nat_le (s.comment_offset + s.comment_len) (length text)) (is_utf8 (comment_bytes s text))
    (ap is_utf8 (sym is) ∙ not_true (is_utf8 part) (λ u. other (IsUtf8-from_is_utf8 part u)))

module _ (s : SignatureValue) (text : List ℕ) (t : SignatureTextRecord) (from : IsReadFrom s text t) where
  len_is : s.comment_len ≡ length t.comments.trusted
  len_is = ap (λ (x : SignatureValue). x.comment_len) from.value

  bytes_are : comment_bytes s text ≡ t.comments.trusted
  bytes_are = ap (λ (n : ℕ). take n (drop s.comment_offset text)) len_is ∙ from.comment.bytes_at_offset

  text_is : is_text_of s text ≡ true
  text_is =
      is_same s text t.comments.trusted
      ((bytes_eq-Decides (blake2b_digest 32 text) s.text_digest).1
      (sym (ap (λ (x : SignatureValue). x.text_digest) from.value)))
      (le-leb _ _ (subst (λ (n : ℕ). s.comment_offset + n ≤ length text) (sym len_is) from.comment.within))
      (sym bytes_are) from.utf8

  -- The trusted comment that is found with the struct is the trusted comment of the text.
  pub comment_is : comment_of s text ≡ Ok t.comments.trusted
  comment_is = chosen (s.mark == signature_mark) (is_text_of s text) _ _
      (ap (λ (x : SignatureValue). x.mark == signature_mark) from.value) text_is bytes_are

  under : (v : PublicKeyValue) (legacy : Bool) → and_then (judge_key v.key_id t.signature legacy) (λ _. Ok t)
      ≡ read_under v legacy text
  under v legacy = sym (ap
      (λ r. and_then r (λ x. and_then (judge_key v.key_id x.signature legacy) (λ _. Ok x))) from.read)

  judged_under : (v : PublicKeyValue) (legacy : Bool) (room : ℕ) → after_comment_check (comment_of s text)
      (after_key_check (judge_key v.key_id (signature_of_value s) legacy) (check_buffer s.comment_len room))
      ≡ check_buffer_if_read (read_under v legacy text) room
  judged_under v legacy room =
      ap (λ c. after_comment_check c
      (after_key_check (judge_key v.key_id (signature_of_value s) legacy) (check_buffer s.comment_len room)))
      comment_is
      ∙ ap (λ (x : SignatureValue). after_key_check (judge_key v.key_id (signature_of_value x) legacy)
      (check_buffer x.comment_len room)) from.value
      ∙ judged_as (judge_key v.key_id t.signature legacy) t room
      ∙ ap (λ r. check_buffer_if_read r room) (under v legacy)

  -- Asking with the struct gives the same result as the checks of the text under the key.
  pub asked_as : (v : PublicKeyValue) (legacy : Bool) (room : ℕ) → check_ask_arguments v s text legacy room
      ≡ with_public_key v (check_buffer_if_read (read_under v legacy text) room)
  asked_as v legacy room = ap (with_public_key v) (judged_under v legacy room)

  pub asking_as : (state : State) (v : PublicKeyValue) (legacy : Bool) (room : ℕ)
      → result_of_asking state v s text legacy room ≡ result_of_asking_with_text state v text legacy room
  asking_as state v legacy room =
      ap (λ x. if can_be_asked state then x else Err (WrongUse (asking_misuse state)))
      (asked_as v legacy room)

  -- If asking succeeds, the text parses to this signature and passes the checks under the key.
  pub reads_under : (v : PublicKeyValue) (legacy : Bool) (room : ℕ)
      → check_ask_arguments v s text legacy room ≡ Ok tt
      → read_under v legacy text ≡ Ok t
  reads_under v legacy room h =
      sym (under v legacy) ∙ judged_ok (judge_key v.key_id t.signature legacy) t room
      (ap (λ r. check_buffer_if_read r room) (under v legacy)
      ∙ of_public (is_public_key v) _ (sym (asked_as v legacy room) ∙ h))

  -- The questions for the struct are the questions for the text.
  pub questions_are : (v : PublicKeyValue) → questions_for_value v s ≡ questions_for_text v t
  questions_are v = ap (questions_for_value v) from.value

  -- The bytes in the buffer are the message of the second check about the text.
  pub message_is : (c message : List ℕ) (len : ℕ) → comment_of s text ≡ Ok c → len ≡ 64 + length c
      → len ≤ length message
      → take len message ≡ s.signature ++ c → (c ≡ t.comments.trusted)
      × HoldsMessage t.signature t.comments.trusted message len
  message_is c message len is many fits same =
      let both : Ok c ≡ Ok t.comments.trusted = sym is ∙ comment_is in
      let one : c ≡ t.comments.trusted = cc both in (
        one,
        record {
          fits = fits;
          message = same ∙ ap (λ (x : List ℕ). x ++ c) (ap (λ (x : SignatureValue). x.signature) from.value)
              ∙ ap (λ (x : List ℕ). t.signature.signature ++ x) one;
        },
      )

  -- A state that was asked with the struct was asked about the text (WasAskedAbout).
  pub has_asked : (state : State) (v : PublicKeyValue) (legacy : Bool) → read_under v legacy text ≡ Ok t
      → WasAskedAbout (state_after_asking state s) v text legacy
  has_asked state v legacy read = record {
    asked = refl;
    signed = t;
    read = read;
    whole = ap (λ (x : SignatureValue). x.whole == 1) from.value
        ∙ one_or_zero (has_whole_signature t.comments);
  }

-- == Reading a signature from bytes ==

-- If reading a signature from UTF-8 bytes succeeds, the struct was read from these bytes (IsReadFrom).
pub from_text : (r : Result SignatureValue Fault) (text bytes : List ℕ)
    → r ≡ map_ok (signature_value text) (read_signature text) → text ≡ bytes → IsUtf8 bytes
    → IfOk r (λ s. (t : SignatureTextRecord) × (read_signature text ≡ Ok t)
    × IsAtOffset t.comments.trusted text s.comment_offset × IsUtf8 t.comments.trusted
    × (64 + length t.comments.trusted ≤ length text))
    → IfOk r (λ s. (t : SignatureTextRecord) × IsReadFrom s bytes t)
from_text (Ok s) text bytes h same utf8 (t, read, stands, comment, room) =
    let these : Ok s ≡ Ok (signature_value text t) = h ∙ ap (map_ok (signature_value text)) read in
    let is : s ≡ signature_value text t = cc these in
    let from : IsReadFrom s text t = record {
      read = sym (of_text read_signature text text refl (subst IsUtf8 (sym same) utf8)) ∙ read;
      value = is;
      comment = stands;
      utf8 = comment;
      room = room;
    } in
    (t, subst (λ (b : List ℕ). IsReadFrom s b t) same from)
from_text (Err e) text bytes h same utf8 more = tt

-- If reading a signature from a text fails, parsing the text fails with the same error.
unread_of : (text : List ℕ) (e : Fault) (r : Result SignatureTextRecord Fault)
    → Err e ≡ map_ok (signature_value text) r → r ≡ Err e
unread_of text e (Ok t) h = cc h
unread_of text e (Err f) h = let same : f ≡ e = cc h in ap (λ x. Err x) same

-- If reading a signature from bytes fails, verification with them fails with the same error.
pub unread_texts : (v : PublicKeyValue) (legacy : Bool) (bytes : List ℕ) (r : Result SignatureValue Fault)
    → r ≡ read_signature_value bytes
    → IfErr r (λ e. IsTextRefusal v bytes legacy (Refused e))
unread_texts v legacy bytes (Ok s) h = tt
unread_texts v legacy bytes (Err e) h =
    opening_refusal v bytes legacy 0 (Refused e)
    (ap (λ r. check_buffer_if_read (and_then r (λ t. and_then (judge_key v.key_id t.signature legacy)
    (λ _. Ok t))) 0)
    (unread_of bytes e (read_utf8 read_signature bytes) h))
