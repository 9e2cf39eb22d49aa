-- Proves that the verdict of the calls for lists is `listed_verdict`, if all texts are UTF-8. The calls and
-- the definition make the same checks in the same order, but nest them differently: the calls make each check
-- after the result of all earlier ones, and the definition makes all later checks inside an earlier one.
use Rattle.std.proofs.Common.{◌≡◌, ◌∙◌, ◌==◌, ℕ, false, List, Option, Some, Result, Ok, Err, refl, ap}
use Rattle.std.specs.Prelude.{⊤, is_ok}
use Rattle.minisign_base.specs.Fault.{Fault}
use Rattle.minisign.specs.Acceptance.{Verifier, accepts_comments, judge, judge_answers, judge_key}
use Rattle.minisign.specs.Acceptance.{signed_bytes}
use Rattle.minisign.specs.Headline.{verdict}
use Rattle.minisign.specs.KeyTexts.{read_public_key}
use Rattle.minisign.specs.Records.{PublicKeyRecord}
use Rattle.minisign.specs.SignatureText.{SignatureTextRecord, box_of, read_signature}
use Rattle.minisign.specs.Texts as texts
use Rattle.minisign_external.specs.PublicKeys.{key_of, read_utf8, value_of}
use Rattle.minisign_external.specs.StrictCalls.{number_with_key, strict}
use Rattle.minisign_external.specs.declared.state.Refusal.{Refusal}
use Rattle.minisign_lists.specs.declared.faults.ListFault.{ListFault}
use Rattle.minisign_lists.specs.declared.lines.LongDigest.{LongDigest}
use Rattle.minisign_lists.specs.Faults.{and_then, wrap_library_error}
use Rattle.minisign_lists.specs.Lines.{Entry}
use Rattle.minisign_lists.specs.Lists.{listed_entry}
use Rattle.minisign_lists.specs.Values.{go_on, of_lists}
use Rattle.minisign_lists.specs.Verdicts.{check_digest, check_list_name, listed_verdict}
use Rattle.minisign_c.specs.ListSequences.{AreUtf8, Lookup, listed_with, strict_listed_number}
use Rattle.minisign_c.proofs.ListVerdicts.{accepted_listed}

-- == The order of the checks ==

-- The calls and the definition have the same result for comparing the digest.
checked_digest : (d : Result ⊤ ListFault) (comment : List ℕ)
    → ◌≡◌ {A = Result (List ℕ) (Refusal ListFault)} (go_on (of_lists d) (λ _. Ok comment))
    (of_lists (and_then d (λ _. Ok comment)))
checked_digest (Ok t) comment = refl
checked_digest (Err e) comment = refl

-- They have the same result for finding the entry and the checks after that.
checked_entry : (e : Result Entry ListFault) (m comment : List ℕ)
    → go_on (of_lists e) (λ entry. go_on (of_lists (check_digest entry.digest m)) (λ _. Ok comment))
    ≡ of_lists (and_then e (λ entry. and_then (check_digest entry.digest m) (λ _. Ok comment)))
checked_entry (Ok e) m comment = checked_digest (check_digest e.digest m) comment
checked_entry (Err f) m comment = refl

-- They have the same result for checking the name of the list and the checks after that.
checked_name : (c : Result ⊤ ListFault) (e : Result Entry ListFault) (m comment : List ℕ)
    → go_on (of_lists (and_then c (λ _. Ok comment))) (λ comment. go_on (of_lists e) (λ entry.
    go_on (of_lists (check_digest entry.digest m)) (λ _. Ok comment)))
    ≡ of_lists (and_then c (λ _. and_then e (λ entry.
    and_then (check_digest entry.digest m) (λ _. Ok comment))))
checked_name (Ok t) e m comment = checked_entry e m comment
checked_name (Err f) e m comment = refl

module _ (name : Option (List ℕ)) (e : Result Entry ListFault) (m : List ℕ) where
  -- The checks after the verdict on the list's signature, as the calls make them.
  abbrev in_calls : Result (List ℕ) Fault → Result (List ℕ) (Refusal ListFault)
  in_calls r = go_on (of_lists (and_then (wrap_library_error r) (λ comment.
      and_then (check_list_name name comment) (λ _. Ok comment)))) (λ comment.
      go_on (of_lists e) (λ entry. go_on (of_lists (check_digest entry.digest m)) (λ _. Ok comment)))

  -- The same checks in the definition.
  abbrev in_definition : Result (List ℕ) Fault → Result (List ℕ) (Refusal ListFault)
  in_definition r = of_lists (and_then (wrap_library_error r) (λ comment.
      and_then (check_list_name name comment) (λ _.
      and_then e (λ entry. and_then (check_digest entry.digest m) (λ _. Ok comment)))))

  same_checks : (r : Result (List ℕ) Fault) → in_calls r ≡ in_definition r
  same_checks (Ok comment) = checked_name (check_list_name name comment) e m comment
  same_checks (Err f) = refl

-- == The verdict on the list's signature ==

-- Chaining with `and_then` is associative: the check of the key ID (j), the scheme's checks (more) and the
-- trusted comment as the result can be grouped in both ways.
and_then_is_associative : (j : Result ⊤ Fault) (t : SignatureTextRecord)
    (more : SignatureTextRecord → Result ⊤ Fault)
    → texts.and_then (texts.and_then j (λ _. Ok t)) (λ (s : SignatureTextRecord).
    texts.and_then (more s) (λ _. Ok s.comments.trusted))
    ≡ texts.and_then (texts.and_then j (λ _. more t)) (λ _. Ok t.comments.trusted)
and_then_is_associative (Ok _) t more = refl
and_then_is_associative (Err e) t more = refl

module _ (accepts : Verifier) (key : PublicKeyRecord) (text : List ℕ) where
  -- The checks after parsing the signature file, as the calls make them.
  abbrev signature_in_calls : Result SignatureTextRecord Fault → Result (List ℕ) Fault
  signature_in_calls r = texts.and_then (texts.and_then r (λ t.
      texts.and_then (judge_key key.keynum t.signature false) (λ _. Ok t))) (λ t.
      texts.and_then (judge_answers (accepts (signed_bytes (box_of t) text) key.key t.signature.signature)
      (accepts_comments accepts (key_of (value_of key)) (box_of t))) (λ _. Ok t.comments.trusted))

  -- The same checks in the definition.
  abbrev signature_in_definition : Result SignatureTextRecord Fault → Result (List ℕ) Fault
  signature_in_definition r = texts.and_then r (λ t.
      texts.and_then (judge accepts key (box_of t) text false) (λ _. Ok t.comments.trusted))

  same_signature : (r : Result SignatureTextRecord Fault) → signature_in_calls r ≡ signature_in_definition r
  same_signature (Ok t) = and_then_is_associative (judge_key key.keynum t.signature false) t
      (λ (s : SignatureTextRecord).
      judge_answers (accepts (signed_bytes (box_of s) text) key.key s.signature.signature)
      (accepts_comments accepts key (box_of s)))
  same_signature (Err e) = refl

-- == All checks ==

module _ (accepts : Verifier) (pk_text sig_text : List ℕ) (x : Lookup) (long : LongDigest) (m : List ℕ) where
  -- The whole verdict as the calls compute it, from the results of parsing the public key and of the lookup.
  abbrev verdict_in_calls : Result PublicKeyRecord Fault → Result Entry ListFault
      → Result (List ℕ) (Refusal ListFault)
  verdict_in_calls key e = go_on (of_lists (wrap_library_error key)) (λ k.
      in_calls (Some x.list_name) e m (signature_in_calls accepts k x.text (read_signature sig_text)))

  -- The whole verdict as the definition computes it.
  abbrev verdict_in_definition : Result PublicKeyRecord Fault → Result Entry ListFault
      → Result (List ℕ) (Refusal ListFault)
  verdict_in_definition key e = in_definition (Some x.list_name) e m (texts.and_then key (λ k.
      signature_in_definition accepts k x.text (read_signature sig_text)))

  same_verdict : (key : Result PublicKeyRecord Fault) (e : Result Entry ListFault)
      → verdict_in_calls key e ≡ verdict_in_definition key e
  same_verdict (Ok k) e = ap (in_calls (Some x.list_name) e m)
      (same_signature accepts k x.text (read_signature sig_text))
      ∙ same_checks (Some x.list_name) e m
      (signature_in_definition accepts k x.text (read_signature sig_text))
  same_verdict (Err f) e = refl

  -- If all texts are UTF-8, the verdict of the calls, `listed_with`, is `listed_verdict`.
  pub calls_agree_with_definition : x.long ≡ Some long → AreUtf8 pk_text sig_text x.text x.name
      → listed_with accepts (read_utf8 read_public_key pk_text) sig_text x m
      ≡ of_lists (listed_verdict accepts pk_text sig_text (Some x.list_name) long x.text x.name m)
  unfolding verdict listed_verdict
  calls_agree_with_definition has_long utf8 =
      rw (has_long, utf8.key, utf8.signature, utf8.text, utf8.file_name)
      (same_verdict (read_public_key pk_text) (listed_entry long x.text x.name))

-- Wrapping an error for programs in other languages keeps success and failure apart.
is_ok_of_lists : (r : Result (List ℕ) ListFault) → is_ok (of_lists r) ≡ is_ok r
is_ok_of_lists (Ok comment) = refl
is_ok_of_lists (Err e) = refl

-- If all texts are UTF-8, the number n that the calls return is 0 exactly if `listed_verdict` is success, for
-- the scheme that also rejects weak public keys and signatures.
pub zero_exactly_if_accepted : (accepts : Verifier) (pk_text sig_text : List ℕ) (x : Lookup) (m : List ℕ)
    (n : ℕ)
    → n ≡ number_with_key (read_utf8 read_public_key pk_text)
    (λ k. strict_listed_number accepts (value_of k) sig_text x m)
    → (long : LongDigest) → x.long ≡ Some long → AreUtf8 pk_text sig_text x.text x.name
    → (n == 0) ≡ is_ok (listed_verdict (strict accepts) pk_text sig_text
    (Some x.list_name) long x.text x.name m)
zero_exactly_if_accepted accepts pk_text sig_text x m n is long has_long utf8 =
    ap (λ (k : ℕ). k == 0) is
    ∙ accepted_listed accepts sig_text x m (read_utf8 read_public_key pk_text)
    ∙ ap is_ok (calls_agree_with_definition (strict accepts) pk_text sig_text x long m has_long utf8)
    ∙ is_ok_of_lists
    (listed_verdict (strict accepts) pk_text sig_text (Some x.list_name) long x.text x.name m)
