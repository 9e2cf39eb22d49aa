-- Lemmas about asking a list about a key and a signature, and about the verdict on the list.
use Rattle.std.proofs.Common.{◌≡◌, ◌∙◌, ◌==◌, ◌+◌, ◌≤◌, ◌++◌, ℕ, Bool, true, false, if◌then◌else◌, List, []}
use Rattle.std.proofs.Common.{Option, Some, None, Result, Ok, Err, length, take, drop, ap, sym, refl, arith}
use Rattle.std.proofs.Common.{nat_le, ◌&&◌, length-append}
use Rattle.std.specs.Prelude.{⊤}
use Rattle.std.proofs.lemmas.Bool.{leb-true}
use Rattle.std.proofs.lemmas.List.{drop-take, drop_at, length-take-le}
use Rattle.minisign_base.specs.Fault.{Fault}
use Rattle.minisign.specs.Acceptance.{Verifier, judge_answers, judge_key}
use Rattle.minisign.specs.SignatureText.{SignatureTextRecord}
use Rattle.minisign.specs.Texts as texts
use Rattle.minisign_external.specs.PublicKeys.{is_public_key}
use Rattle.minisign_external.specs.Questions.{Answers, has_whole_signature, read_under}
use Rattle.minisign_external.specs.Signatures.{IsReadFrom, comment_of, signature_of_value}
use Rattle.minisign_external.specs.States.{AreQuestionsWithoutDigest, IsBlank, IsFedState}
use Rattle.minisign_external.specs.States.{check_ask_arguments, check_buffer_if_read, asking_misuse}
use Rattle.minisign_external.specs.States.{result_of_asking, result_of_asking_with_text, after_key_check}
use Rattle.minisign_external.specs.States.{can_be_asked, after_comment_check, check_buffer, with_public_key}
use Rattle.minisign_external.specs.StrictCalls.{asked_strictly}
use Rattle.minisign_external.specs.declared.public_keys.PublicKeyValue.{PublicKeyValue}
use Rattle.minisign_external.specs.declared.signatures.SignatureValue.{SignatureValue}
use Rattle.minisign_external.specs.declared.state.Misuse.{Misuse}
use Rattle.minisign_external.specs.declared.state.Misuse.TheVariants.{NoRoom, PublicKeyNotRead}
use Rattle.minisign_external.specs.declared.state.Questions.{Questions}
use Rattle.minisign_external.specs.declared.state.Refusal.{Refusal}
use Rattle.minisign_external.specs.declared.state.Refusal.TheVariants.{WrongUse}
use Rattle.minisign_external.specs.declared.state.State.{State}
use Rattle.minisign_external.proofs.Laws.{decided}
use Rattle.minisign_lists.specs.Comments.{names_list}
use Rattle.minisign_lists.specs.Faults.{ListFault, OtherList, and_then, wrap_library_error}
use Rattle.minisign_lists.specs.Values.{HasAskedList, asked_list, given_list, judged_list, list_verdict_under}
use Rattle.minisign_lists.specs.Values.{named_number, list_verdict_outcome}
use Rattle.minisign_lists.specs.Verdicts.{check_list_name}
use Rattle.minisign_lists.specs.declared.values.ListValue.{ListValue}

-- == A new state ==

module _ (s : State) (fed : IsFedState s []) (blank : IsBlank s) where
  may : can_be_asked s ≡ true
  may = rw (fed.mark, blank.asked) refl

  -- If the state may ask, the result of asking does not depend on the state. The same for a signature file
  -- that was not parsed yet (asks_under).
  pub asks : (v : PublicKeyValue) (signature : SignatureValue) (text : List ℕ) (room : ℕ)
      → result_of_asking s v signature text false room ≡ check_ask_arguments v signature text false room
  asks v signature text room =
      ap (λ (b : Bool). if b then check_ask_arguments v signature text false room else Err (WrongUse
      (asking_misuse s))) may

  pub asks_under : (v : PublicKeyValue) (text : List ℕ) (room : ℕ)
      → result_of_asking_with_text s v text false room ≡ with_public_key v (check_buffer_if_read
      (read_under v false text) room)
  asks_under v text room =
      ap (λ (b : Bool). if b then with_public_key v (check_buffer_if_read (read_under v false text) room)
      else Err (WrongUse (asking_misuse s))) may

-- == The space for the message ==

fits : (s b : Bool) → asked_strictly s (if b then Ok tt else Err (WrongUse NoRoom)) ≡ Ok true → b ≡ true
fits s true h = refl
fits s false h = cc h

-- If asking succeeds, the message fits into the buffer.
has_room : (s p : Bool) (c : Result (List ℕ) Misuse) (j : Result ⊤ Fault) (n room : ℕ)
    → asked_strictly s (if p then after_comment_check c (after_key_check j (check_buffer n room))
    else Err (WrongUse PublicKeyNotRead)) ≡ Ok true
    → 64 + n ≤ room
has_room s true (Ok c) (Ok j) n room h = leb-true _ _ (fits s (nat_le (64 + n) room) h)
has_room s true (Ok c) (Err e) n room h = cc h
has_room s true (Err m) j n room h = cc h
has_room s false c j n room h = cc h

-- If asking succeeds, the message fits into the buffer.
pub room_is_enough : (s : Bool) (v : PublicKeyValue) (signature : SignatureValue) (text : List ℕ) (room : ℕ)
    → asked_strictly s (check_ask_arguments v signature text false room) ≡ Ok true
    → 64 + signature.comment_len ≤ room
room_is_enough s v signature text room h =
    has_room s (is_public_key v) (comment_of signature text)
    (judge_key v.key_id (signature_of_value signature) false) signature.comment_len room h

-- == The trusted comment in the message ==

-- In the message, the bytes after the data signature are the trusted comment.
pub comment_after : (s : SignatureValue) (text : List ℕ) (t : SignatureTextRecord) → IsReadFrom s text t
    → (q : Questions) (v : PublicKeyValue) (message : List ℕ) → AreQuestionsWithoutDigest q message v t
    → take s.comment_len (drop 64 message) ≡ t.comments.trusted
comment_after s text t from q v message asked =
    let trusted : List ℕ = t.comments.trusted in
    let signature : List ℕ = t.signature.signature in
    let len : s.comment_len ≡ length trusted = ap (λ (x : SignatureValue). x.comment_len) from.value in
    let many : q.message_len ≡ 64 + length trusted = ap (λ (x : Questions). x.message_len) asked.0 in
    let whole : take (64 + length trusted) message ≡ signature ++ trusted =
    ap (λ (n : ℕ). take n message) (sym many) ∙ asked.1.message in
    let taken : length (take (64 + length trusted) message) ≡ 64 + length trusted =
    length-take-le (64 + length trusted) message (omega (arith, many, asked.1.fits)) in
    let both : length (take (64 + length trusted) message) ≡ length signature + length trusted =
    ap length whole ∙ length-append signature trusted in
    let size : length signature ≡ 64 = omega (arith, taken, both) in
    ap (λ (n : ℕ). take n (drop 64 message)) len
    ∙ sym (drop-take 64 (length trusted) message)
    ∙ ap (drop 64) whole
    ∙ drop_at signature trusted 64 size

-- The same for a signature that was read from any text, or from none.
pub comment_held : (s : SignatureValue) (c message : List ℕ) → length c ≡ s.comment_len
    → 64 + length c ≤ length message → take (64 + length c) message ≡ s.signature ++ c
    → take s.comment_len (drop 64 message) ≡ c
comment_held s c message len fits whole =
    let signature : List ℕ = s.signature in
    let taken : length (take (64 + length c) message) ≡ 64 + length c =
    length-take-le (64 + length c) message fits in
    let both : length (take (64 + length c) message) ≡ length signature + length c =
    ap length whole ∙ length-append signature c in
    let size : length signature ≡ 64 = omega (arith, taken, both) in
    ap (λ (n : ℕ). take n (drop 64 message)) (sym len)
    ∙ sym (drop-take 64 (length c) message)
    ∙ ap (drop 64) whole
    ∙ drop_at signature c 64 size

-- == The verdict ==

one_or_zero : (b : Bool) → ((if b then 1 else 0) == 1) ≡ b
one_or_zero true = refl
one_or_zero false = refl

abbrev named : Bool → Result ⊤ ListFault
named b = if b then Ok tt else Err OtherList

named_as : (b : Bool) (trusted : List ℕ) (l : ListValue)
    → (judged_list (named ((if b then 1 else 0) == 1)) l).0
    ≡ given_list (and_then (named b) (λ _. Ok trusted))
named_as true trusted l = refl
named_as false trusted l = refl

-- The verdict from the results of the checks is that of the definition.
judged_as : (j : Result ⊤ Fault) (name : Option (List ℕ)) (trusted : List ℕ) (l : ListValue)
    → (judged_list (and_then (wrap_library_error j) (λ _. named (named_number name trusted == 1))) l).0
    ≡ given_list (and_then (wrap_library_error (texts.and_then j (λ _. Ok trusted)))
    (λ comment. and_then (check_list_name name comment) (λ _. Ok comment)))
judged_as (Err e) name trusted l = refl
judged_as (Ok t) None trusted l = refl
judged_as (Ok t) (Some n) trusted l = named_as (names_list n trusted) trusted l

-- The results of the two checks decide the verdict on the list.
pub list_decided : (l : ListValue) (v : PublicKeyValue) (sig_text text : List ℕ) (name : Option (List ℕ))
    (accepts : Verifier) (first second : Bool) (r : Result ⊤ (Refusal ListFault)) (new : ListValue)
    → ◌≡◌ {A = Result ⊤ (Refusal ListFault) × ListValue} (r, new) (list_verdict_outcome l first second)
    → HasAskedList l v sig_text name text → Answers accepts v sig_text text first second
    → r ≡ given_list (list_verdict_under accepts v sig_text name text)
list_decided l v sig_text text name accepts first second r new returned has answers =
    let s : SignatureValue = has.signature in
    let t : SignatureTextRecord = has.signed in
    let asked : ListValue = asked_list v s name text t.comments.trusted in
    let whole : (s.whole == 1) ≡ has_whole_signature t.comments =
    ap (λ (x : SignatureValue). x.whole == 1) has.parsed.value
    ∙ one_or_zero (has_whole_signature t.comments) in
    ap (λ p. p.0) returned
    ∙ ap (λ (x : ListValue). (list_verdict_outcome x first second).0) has.list_value
    ∙ judged_as (judge_answers first ((s.whole == 1) && second)) name t.comments.trusted asked
    ∙ ap (λ r. given_list (and_then (wrap_library_error r)
    (λ comment. and_then (check_list_name name comment) (λ _. Ok comment))))
    (sym (decided accepts v sig_text text false t (s.whole == 1) first second has.read whole answers))
