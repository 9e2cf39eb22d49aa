-- Lemmas about `check_listed_in_sequence`, which checks a file against a signed list by calling the library
-- for C several times: it verifies the list, finds the entry, and compares the digest. The lemmas show that
-- the error number at which it stops is strict_listed_number, the number of the verdict of the whole check.
--
-- To verify the list, the application first calls `minisign_list_ask`, which returns the inputs of the two
-- Ed25519 checks that it must make (the questions), and passes the two results to `minisign_list_verdict`.
use Rattle.std.proofs.Common.{◌≡◌, ◌∙◌, ◌<◌, ◌≤◌, ◌+◌, ◌==◌, ◌&&◌, ℕ, Bool, true, false, if◌then◌else◌, List}
use Rattle.std.proofs.Common.{[]}
use Rattle.std.proofs.Common.{Option, Some, None, Result, Ok, Err, length, take, ap, sym, refl, arith, subst}
use Rattle.std.proofs.Common.{lit<}
use Rattle.std.proofs.Common.{le-leb, nat_le, bytes_eq}
use Rattle.std.specs.Prelude.{⊤, is_ok}
use Rattle.std.proofs.lemmas.Slice.Eq.{bytes_eq-Decides}
use Rattle.minisign_hash.specs.Blake2b.{blake2b_digest}
use Rattle.minisign_base.specs.Fault.{Fault}
use Rattle.minisign.specs.Acceptance.{Verifier}
use Rattle.minisign.specs.Records.{PublicKeyRecord}
use Rattle.minisign.specs.SignatureText.{SignatureTextRecord, read_signature}
use Rattle.minisign_external.specs.Numbers.{fault_number, is_answer, misuse_number, weak_number}
use Rattle.minisign_external.specs.PublicKeys.{is_public_key, read_utf8, value_of}
use Rattle.minisign_external.specs.Questions.{Answers, HoldsMessage, read_under}
use Rattle.minisign_external.specs.States.{AreQuestions, check_buffer_if_read, questions_for_text}
use Rattle.minisign_external.specs.StrictCalls.{asked_number, asked_strictly, is_strict_text, number_with_key}
use Rattle.minisign_external.specs.StrictCalls.{strict}
use Rattle.minisign_external.specs.StrictCalls.{strict_read}
use Rattle.minisign_external.specs.declared.public_keys.PublicKeyValue.{PublicKeyValue}
use Rattle.minisign_external.specs.declared.state.Misuse.{Misuse}
use Rattle.minisign_external.specs.declared.state.Misuse.TheVariants.{BadAnswer, BadHash, NotAsked}
use Rattle.minisign_external.specs.declared.state.Misuse.TheVariants.{PublicKeyNotRead}
use Rattle.minisign_external.specs.declared.state.Questions.{Questions}
use Rattle.minisign_external.specs.declared.state.Refusal.{Refusal}
use Rattle.minisign_external.specs.declared.state.Refusal.TheVariants.{Refused, WrongUse}
use Rattle.minisign_external.proofs.Laws.{results_of_questions}
use Rattle.minisign_lists.specs.Digests.{has_digest}
use Rattle.minisign_lists.specs.declared.faults.ListFault.{ListFault}
use Rattle.minisign_lists.specs.declared.faults.ListFault.TheVariants.{BadName, DigestMismatch, Library}
use Rattle.minisign_lists.specs.declared.faults.ListFault.TheVariants.{ListedTwice, MalformedLine, NotListed}
use Rattle.minisign_lists.specs.declared.faults.ListFault.TheVariants.{OtherList}
use Rattle.minisign_lists.specs.declared.lines.LongDigest.{LongDigest}
use Rattle.minisign_lists.specs.Faults.{and_then, list_number, wrap_library_error}
use Rattle.minisign_lists.specs.Lines.{Entry}
use Rattle.minisign_lists.specs.Lists.{listed_entry}
use Rattle.minisign_lists.specs.Values.{found_entry, go_on, judged_list, list_verdict_under, of_lists}
use Rattle.minisign_lists.specs.Values.{of_misuse}
use Rattle.minisign_lists.specs.Values.{text_check, entry_outcome, utf8_text, verified_mark}
use Rattle.minisign_lists.specs.Verdicts.{check_digest, check_list_name}
use Rattle.minisign_lists.specs.declared.values.EntryValue.{EntryValue}
use Rattle.minisign_lists.specs.declared.values.ListValue.{ListValue}
use Rattle.minisign_c.specs.ListCalls.{asking_list_number, finding_number, list_refusal, list_verdict_number}
use Rattle.minisign_c.specs.ListCalls.{numbered_list, entry_outcome_number, list_outcome_number}
use Rattle.minisign_c.specs.ListSequences.{Lookup, data_number, listed_number, listed_under, listed_with}
use Rattle.minisign_c.specs.ListSequences.{looked_up, meaning_of, strict_listed_number}
use Rattle.minisign_c.proofs.Positive.{positive}
use Rattle.minisign_c.proofs.StrictVerdicts.{chosen, not_accepted, weak_number_if_positive, opened}
use Rattle.minisign_c.proofs.StrictVerdicts.{room_is_enough, some_number}
use Rattle.minisign_c.proofs.StrictVerdicts.{strict_same}

-- == Error numbers are not 0 ==

misuse_positive : (m : Misuse) → 0 < misuse_number m
misuse_positive NotAsked = lit< tt
misuse_positive _ = lit< tt

pub list_positive : (e : ListFault) → 0 < list_number e
list_positive (Library f) = positive f
list_positive OtherList = lit< tt
list_positive BadName = lit< tt
list_positive (MalformedLine n) = lit< tt
list_positive NotListed = lit< tt
list_positive (ListedTwice n) = lit< tt
list_positive DigestMismatch = lit< tt

pub refusal_positive : (r : Refusal ListFault) → 0 < list_refusal r
refusal_positive (WrongUse m) = misuse_positive m
refusal_positive (Refused e) = list_positive e

-- == Verifying the list ==

module _ (accepts : Verifier) (v : PublicKeyValue) (sig_text text : List ℕ) (name : Option (List ℕ)) where
  abbrev strict_list : Result (List ℕ) ListFault
  strict_list = list_verdict_under (strict accepts) v sig_text name text

  module _ (room : ℕ) (t : SignatureTextRecord) (read : read_utf8 read_signature sig_text ≡ Ok t)
      (fits : 64 + length t.comments.trusted ≤ room) where
    number_of_failed_ask : (r : Result SignatureTextRecord Fault) → read_under v false sig_text ≡ r
        → 0 < asked_number (asked_strictly (is_strict_text v t) (check_buffer_if_read r room))
        → asked_number (asked_strictly (is_strict_text v t) (check_buffer_if_read r room))
        ≡ strict_read v r (list_verdict_number strict_list)
    number_of_failed_ask (Ok u) is some =
        let both = sym read ∙ opened v sig_text u is in
        let same : t ≡ u = cc both in
        let none : asked_number (asked_strictly (is_strict_text v t) (check_buffer_if_read (Ok u) room))
        ≡ (if is_strict_text v u then 0 else weak_number) =
        rw same (room_is_enough (is_strict_text v u) (nat_le (64 + length u.comments.trusted) room)
        (le-leb _ _ (subst (λ (x : SignatureTextRecord). 64 + length x.comments.trusted ≤ room) same fits)))
        in
        none ∙ weak_number_if_positive (is_strict_text v u) _ (subst (λ (k : ℕ). 0 < k) none some)
    number_of_failed_ask (Err e) is some = rw is refl

    -- If `minisign_list_ask_any` fails for a reason other than misuse, the verdict on the list under the
    -- strict scheme (which rejects weak keys and signatures) has the same error number. The scheme is then
    -- not called.
    pub failed_ask_number : (n : ℕ) → is_public_key v ≡ true → n ≡ asking_list_number v sig_text t room
        → 0 < n
        → n ≡ strict_read v (read_under v false sig_text) (list_verdict_number strict_list)
    failed_ask_number n public is some =
        let returned : n ≡ asked_number (asked_strictly (is_strict_text v t)
        (check_buffer_if_read (read_under v false sig_text) room)) =
        is ∙ ap (λ (b : Bool). asked_number (asked_strictly (is_strict_text v t)
        (if b then check_buffer_if_read (read_under v false sig_text) room else Err
        (WrongUse PublicKeyNotRead)))) public in
        returned
        ∙ number_of_failed_ask (read_under v false sig_text) refl (subst (λ (k : ℕ). 0 < k) returned some)

  -- If neither the key nor a signature is weak, the verdict on the list under the strict scheme has the same
  -- number as the verdict under the scheme itself.
  pub strict_list_number : (t : SignatureTextRecord) → read_under v false sig_text ≡ Ok t
      → is_strict_text v t ≡ true
      → list_verdict_number (list_verdict_under accepts v sig_text name text)
      ≡ strict_read v (read_under v false sig_text) (list_verdict_number strict_list)
  strict_list_number t read h = sym (ap (λ r. strict_read v r (list_verdict_number strict_list)) read
      ∙ chosen (is_strict_text v t) (list_verdict_number strict_list) h
      ∙ ap (λ r. list_verdict_number (and_then (wrap_library_error r)
      (λ comment. and_then (check_list_name name comment) (λ _. Ok comment))))
      (strict_same accepts v sig_text text t read h))

-- If `first` and `second` are the scheme's results for the inputs of the two checks that `minisign_list_ask`
-- returned, the verdict on the list depends on them: they are the results of checking the signature of the
-- list's digest, and the comment signature.
pub list_answered : (accepts : Verifier) (v : PublicKeyValue) (sig_text text room : List ℕ)
    (t : SignatureTextRecord) (q : Questions) → read_under v false sig_text ≡ Ok t → AreQuestions q room v t
    → q.digest ≡ blake2b_digest 64 text
    → (first second : Bool) → first ≡ accepts q.digest q.public_key q.signature
    → second ≡ accepts (take q.message_len room) q.public_key q.comment_signature
    → Answers accepts v sig_text text first second
list_answered accepts v sig_text text room t q opens are returned first second to_first to_second =
    let p : Questions = questions_for_text v t in
    let len : q.message_len ≡ p.message_len = ap (λ (x : Questions). x.message_len) are.questions in
    let holds = subst (λ (n : ℕ). HoldsMessage t.signature t.comments.trusted room n) len are.message in
    results_of_questions accepts v sig_text text room q.digest t p opens (refl, holds) returned first second
    (to_first ∙ ap (λ (x : Questions). accepts q.digest x.public_key x.signature) are.questions)
    (to_second ∙ ap (λ (x : Questions). accepts (take x.message_len room) x.public_key x.comment_signature)
    are.questions)

verified_of : (a b : Bool) (r : Result ⊤ ListFault) (l new : ListValue) (n : ℕ)
    → ◌≡◌ {A = ℕ × ListValue} (n, new)
    (if a then numbered_list (if b then judged_list r l else (Err (WrongUse NotAsked), l))
    else (misuse_number BadAnswer, l))
    → n ≡ 0 → new ≡ record l { mark = verified_mark }
verified_of true true (Ok t) l new n returned none = ap (λ p. p.1) returned
verified_of true true (Err e) l new n returned none =
    let is : n ≡ list_number e = ap (λ p. p.0) returned in absurd (omega (arith, is, none, list_positive e))
verified_of true false r l new n returned none = let is : n ≡ 3 = ap (λ p. p.0) returned in absurd
    (omega arith)
verified_of false b r l new n returned none = let is : n ≡ 4 = ap (λ p. p.0) returned in absurd (omega arith)

ok_if_true : (b : Bool) → b ≡ true → ◌≡◌ {A = Result ⊤ Misuse} (if b then Ok tt else Err NotAsked) (Ok tt)
ok_if_true true h = refl
ok_if_true false h = cc h

-- If `minisign_list_verdict` returns 0, the list is marked as verified, and later calls accept `text`, whose
-- digest it has, as its text.
pub verified_text_of : (l new : ListValue) (first second n : ℕ) (text : List ℕ)
    → ◌≡◌ {A = ℕ × ListValue} (n, new) (list_outcome_number l first second) → n ≡ 0
    → l.text_digest ≡ blake2b_digest 64 text → text_check new text ≡ Ok tt
verified_text_of l new first second n text returned none digest =
    let is : new ≡ record l { mark = verified_mark } =
    verified_of (is_answer first && is_answer second) _ _ l new n returned none in
    let same : bytes_eq (blake2b_digest 64 text) l.text_digest ≡ true =
    (bytes_eq-Decides (blake2b_digest 64 text) l.text_digest).1 (sym digest) in
    ap (λ (x : ListValue). text_check x text) is ∙ rw same refl

-- == Checks after the verdict on the list ==

weak_chosen : (s : Bool) (n m : ℕ) → n ≡ (if s then 0 else weak_number) → 0 < n
    → n ≡ (if s then m else weak_number)
weak_chosen true n m is some = absurd (omega (arith, is, some))
weak_chosen false n m is some = is

-- If verifying the list fails, the whole check fails with the same error number.
pub failed_list : (v : PublicKeyValue) (r : Result SignatureTextRecord Fault) (l : Result (List ℕ) ListFault)
    (more : List ℕ → Result (List ℕ) (Refusal ListFault)) (n : ℕ)
    → n ≡ strict_read v r (list_verdict_number l) → 0 < n
    → n ≡ strict_read v r (listed_number (go_on (of_lists l) more))
failed_list v (Ok t) (Ok c) more n is some = weak_chosen (is_strict_text v t) n _ is some
failed_list v (Err e) (Ok c) more n is some = absurd (omega (arith, is, some))
failed_list v (Ok t) (Err e) more n is some = is
failed_list v (Err f) (Err e) more n is some = is

-- The result of comparing the digest of the data with that in the entry.
abbrev matched : Bool → Result ⊤ ListFault
matched b = if b then Ok tt else Err DigestMismatch

digest_of_entry : (b : Bool) (comment : List ℕ)
    → listed_number (go_on (of_lists (matched b)) (λ _. Ok []))
    ≡ listed_number (go_on (of_lists (matched b)) (λ _. Ok comment))
digest_of_entry true comment = refl
digest_of_entry false comment = refl

of_entry : (e : Result Entry (Refusal ListFault)) (m comment : List ℕ)
    → data_number e m ≡ listed_number (go_on e (λ entry.
    go_on (of_lists (check_digest entry.digest m)) (λ _. Ok comment)))
of_entry (Ok e) m comment = digest_of_entry (has_digest e.digest m) comment
of_entry (Err r) m comment = refl

number_if_strict : (s : Bool) (n m : ℕ) → 0 ≡ (if s then n else weak_number)
    → m ≡ (if s then m else weak_number)
number_if_strict true n m none = refl
number_if_strict false n m none = absurd (omega (arith, none))

contradiction_if_positive : (s : Bool) (n m : ℕ) → 0 < n → 0 ≡ (if s then n else weak_number)
    → m ≡ (if s then n else weak_number)
contradiction_if_positive true n m some none = absurd (omega (arith, some, none))
contradiction_if_positive false n m some none = absurd (omega (arith, none))

-- If the list is verified, the error number of the whole check is that of finding the entry and comparing the
-- digest of the data with it.
pub passed_list : (v : PublicKeyValue) (r : Result SignatureTextRecord Fault) (l : Result (List ℕ) ListFault)
    (e : Result Entry (Refusal ListFault)) (m : List ℕ) → 0 ≡ strict_read v r (list_verdict_number l)
    → data_number e m ≡ strict_read v r (listed_number (go_on (of_lists l) (λ comment. go_on e (λ entry.
    go_on (of_lists (check_digest entry.digest m)) (λ _. Ok comment)))))
passed_list v (Ok t) (Ok c) e m none =
    number_if_strict (is_strict_text v t) 0 (data_number e m) none
    ∙ ap (λ (k : ℕ). if is_strict_text v t then k else weak_number) (of_entry e m c)
passed_list v (Err f) (Ok c) e m none = of_entry e m c
passed_list v (Ok t) (Err x) e m none = contradiction_if_positive (is_strict_text v t) _ (data_number e m)
    (list_positive x) none
passed_list v (Err f) (Err x) e m none = absurd (omega (arith, none, list_positive x))

-- == Looking up a name ==

module _ (l : ListValue) (x : Lookup) (verified : text_check l x.text ≡ Ok tt) where
  -- In a verified list, finding an entry is looking up its name in the text.
  pub found_as : (long : LongDigest) → found_entry l x.text long x.name
      ≡ go_on (utf8_text x.text) (λ list. go_on (utf8_text x.name) (λ name.
      of_lists (listed_entry long list name)))
  found_as long = ap (λ r. go_on (go_on (of_misuse r) (λ _. utf8_text x.text)) (λ list.
      go_on (utf8_text x.name) (λ name. of_lists (listed_entry long list name)))) verified

error_of : (r : Result Entry (Refusal ListFault)) (text : List ℕ) (old new : EntryValue) (n line : ℕ)
    (m : List ℕ)
    → ◌≡◌ {A = ℕ × (EntryValue × ℕ)} (n, (new, line)) (entry_outcome_number (entry_outcome r text old))
    → 0 < n
    → n ≡ data_number r m
error_of (Ok e) text old new n line m returned some =
    let none : n ≡ 0 = ap (λ p. p.0) returned in absurd (omega (arith, none, some))
error_of (Err r) text old new n line m returned some = ap (λ p. p.0) returned

-- If finding the entry fails, the check of the data fails with the same error number.
pub not_found_number : (l : ListValue) (x : Lookup) → text_check l x.text ≡ Ok tt → (long : Option LongDigest)
    → x.long ≡ long → (old new : EntryValue) (n line : ℕ) (m : List ℕ)
    → ◌≡◌ {A = ℕ × (EntryValue × ℕ)} (n, (new, line)) (finding_number long l x.text x.name old) → 0 < n
    → n ≡ data_number (looked_up x) m
not_found_number l x verified None is old new n line m returned some =
    ap (λ p. p.0) returned
    ∙ sym (ap (λ (o : Option LongDigest). data_number (go_on (meaning_of o) (λ long. go_on (utf8_text x.text)
    (λ list. go_on (utf8_text x.name) (λ name. of_lists (listed_entry long list name))))) m) is)
not_found_number l x verified (Some long) is old new n line m returned some =
    error_of (found_entry l x.text long x.name) x.text old new n line m returned some
    ∙ ap (λ r. data_number r m) (found_as l x verified long)
    ∙ sym (ap (λ (o : Option LongDigest). data_number (go_on (meaning_of o) (λ long. go_on (utf8_text x.text)
    (λ list. go_on (utf8_text x.name) (λ name. of_lists (listed_entry long list name))))) m) is)

-- The entry that a successful lookup has found.
pub record Found (l : ListValue) (x : Lookup) : Type 0 where
  pub long : LongDigest
  pub has_long : x.long ≡ Some long
  pub entry : Entry
  pub found : found_entry l x.text long x.name ≡ Ok entry

-- If the error number of finding an entry is 0, an entry was found.
entry_found : (r : Result Entry (Refusal ListFault)) (text : List ℕ) (old new : EntryValue) (n line : ℕ)
    → ◌≡◌ {A = ℕ × (EntryValue × ℕ)} (n, (new, line)) (entry_outcome_number (entry_outcome r text old))
    → n ≡ 0
    → (e : Entry) × (r ≡ Ok e)
entry_found (Ok e) text old new n line returned none = (e, refl)
entry_found (Err r) text old new n line returned none =
    let is : n ≡ list_refusal r = ap (λ p. p.0) returned in absurd (omega
    (arith, is, none, refusal_positive r))

-- If `minisign_list_find` returns 0, the lookup has found the entry.
pub found_by_lookup : (l : ListValue) (x : Lookup) (long : Option LongDigest) → x.long ≡ long
    → (old new : EntryValue) (n line : ℕ)
    → ◌≡◌ {A = ℕ × (EntryValue × ℕ)} (n, (new, line)) (finding_number long l x.text x.name old) → n ≡ 0
    → Found l x
found_by_lookup l x None is old new n line returned none =
    let number : n ≡ misuse_number BadHash = ap (λ p. p.0) returned in absurd (omega (arith, number, none))
found_by_lookup l x (Some long) is old new n line returned none =
    let (e, same) = entry_found (found_entry l x.text long x.name) x.text old new n line returned none in
    record { long = long; has_long = is; entry = e; found = same }

number_of_digest : (b : Bool) → (if b then 0 else list_number DigestMismatch)
    ≡ listed_number (go_on (of_lists (matched b)) (λ _. Ok []))
number_of_digest true = refl
number_of_digest false = refl

-- If the entry was found, the error number of the check of the data is 0 or, if its digest is different, that
-- of DigestMismatch.
pub data_of_found : (l : ListValue) (x : Lookup) (m : List ℕ) → text_check l x.text ≡ Ok tt → (f : Found l x)
    → (if has_digest f.entry.digest m then 0 else list_number DigestMismatch) ≡ data_number (looked_up x) m
data_of_found l x m verified f =
    let entry = sym f.found ∙ found_as l x verified f.long in
    number_of_digest (has_digest f.entry.digest m)
    ∙ ap (λ r. data_number r m) entry
    ∙ sym (ap (λ (o : Option LongDigest). data_number (go_on (meaning_of o) (λ long. go_on (utf8_text x.text)
    (λ list. go_on (utf8_text x.name) (λ name. of_lists (listed_entry long list name))))) m) f.has_long)

-- == Success has the number 0 ==

-- The error number of a verdict is 0 exactly if the verdict is success.
pub listed_zero : (r : Result (List ℕ) (Refusal ListFault)) → (listed_number r == 0) ≡ is_ok r
listed_zero (Ok c) = refl
listed_zero (Err r) = some_number (list_refusal r) (refusal_positive r)

-- The same if a weak key or signature, which has an error number of its own, is never accepted.
strict_zero : (s : Bool) (r : Result (List ℕ) (Refusal ListFault)) → (s ≡ false → is_ok r ≡ false)
    → ((if s then listed_number r else weak_number) == 0) ≡ is_ok r
strict_zero true r h = listed_zero r
strict_zero false r h = sym (h refl)

-- If the verdict on the list's signature is an error, the verdict of the whole check is an error.
not_listed : (r : Result (List ℕ) Fault) (more : List ℕ → Result (List ℕ) ListFault)
    (rest : List ℕ → Result (List ℕ) (Refusal ListFault)) → is_ok r ≡ false
    → is_ok (go_on (of_lists (and_then (wrap_library_error r) more)) rest) ≡ false
not_listed (Ok c) more rest h = cc h
not_listed (Err e) more rest h = refl

module _ (accepts : Verifier) (v : PublicKeyValue) (sig_text : List ℕ) (x : Lookup) (m : List ℕ) where
  abbrev whole : Result (List ℕ) (Refusal ListFault)
  whole = listed_under (strict accepts) v sig_text x m

  read_of : (r : Result SignatureTextRecord Fault) → read_under v false sig_text ≡ r
      → (strict_read v r (listed_number whole) == 0) ≡ is_ok whole
  read_of (Ok t) is = strict_zero (is_strict_text v t) whole
      (λ weak. not_listed _ _ _ (not_accepted accepts v sig_text x.text t is weak))
  read_of (Err e) is = listed_zero whole

  pub accepted_list : (strict_listed_number accepts v sig_text x m == 0) ≡ is_ok whole
  accepted_list = read_of (read_under v false sig_text) refl

-- The error number is 0 exactly if the verdict is success under the strict scheme, which also rejects weak
-- keys and signatures.
pub accepted_listed : (accepts : Verifier) (sig_text : List ℕ) (x : Lookup) (m : List ℕ)
    (key : Result PublicKeyRecord Fault)
    → (number_with_key key (λ k. strict_listed_number accepts (value_of k) sig_text x m) == 0)
    ≡ is_ok (listed_with (strict accepts) key sig_text x m)
accepted_listed accepts sig_text x m (Ok k) = accepted_list accepts (value_of k) sig_text x m
accepted_listed accepts sig_text x m (Err e) = some_number (fault_number e) (positive e)
