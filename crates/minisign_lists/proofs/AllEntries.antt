-- Lemmas about the results of reading all entries of a verified list.
use Rattle.std.specs.Prelude.{⊤, Result, Ok, Err}
use Rattle.std.specs.Str.{is_utf8}
use Rattle.std.proofs.Common.{◌≡◌, ℕ, Bool, true, false, List, length, refl, cond, ap, sym}
use Rattle.minisign_external.specs.declared.state.Misuse.{Misuse}
use Rattle.minisign_external.specs.declared.state.Refusal.{Refusal}
use Rattle.minisign_lists.specs.Faults.{ListFault}
use Rattle.minisign_lists.specs.Lines.{Entry, LongDigest}
use Rattle.minisign_lists.specs.Lists.{read_list}
use Rattle.minisign_lists.specs.Values.{all_entries, go_on, mapped, not_utf8, of_lists, of_misuse, text_check}
use Rattle.minisign_lists.specs.declared.values.ListValue.{ListValue}

-- The result is a success with n entries.
pub record Counted (r : Result (List Entry) (Refusal ListFault)) (n : ℕ) : Type 0 where
  pub entries : List Entry
  pub is : r ≡ Ok entries
  pub size : n ≡ length entries

-- The number in a result, or another one if the result is an error.
abbrev number_in : Result ℕ (Refusal ListFault) → ℕ → ℕ
number_in (Ok n) other = n
number_in (Err r) other = other

abbrev error_in : {V : Type 0} → Result V (Refusal ListFault) → Refusal ListFault → Refusal ListFault
error_in (Ok n) other = other
error_in (Err r) other = r

-- If counting the entries returns n, reading the list returns n entries. If counting fails, reading fails
-- with the same error (failed).
pub counted : (r : Result (List Entry) (Refusal ListFault)) (n : ℕ) → Ok n ≡ mapped length r → Counted r n
counted (Ok es) n h = record {
  entries = es;
  is = refl;
  size = ap (λ s. number_in s 0) h;
}
counted (Err r) n h = absurd (cc h)

pub failed : (r : Result (List Entry) (Refusal ListFault)) (e : Refusal ListFault) → Err e ≡ mapped length r
    → r ≡ Err e
failed (Ok es) e h = absurd (cc h)
failed (Err r) e h = ap Err (sym (ap (λ s. error_in s e) h))

abbrev entries_in : {F : Type 0} → Result (List Entry) F → List Entry → List Entry
entries_in (Ok es) other = es
entries_in (Err r) other = other

of_read : (r : Result (List Entry) ListFault) (es : List Entry) → of_lists r ≡ Ok es → r ≡ Ok es
of_read (Ok v) es h = ap Ok (ap (λ s. entries_in s es) h)
of_read (Err f) es h = absurd (cc h)

-- The text of a verified list is read as a list.
read : (c : Result ⊤ Misuse) (b : Bool) (text : List ℕ) (long : LongDigest) (es : List Entry)
    → go_on (go_on (of_misuse c) (λ _. cond b (Ok text) (Err not_utf8))) (λ list. of_lists
    (read_list long list)) ≡ Ok es
    → read_list long text ≡ Ok es
read (Err m) b text long es h = absurd (cc h)
read (Ok t) false text long es h = absurd (cc h)
read (Ok t) true text long es h = of_read (read_list long text) es h

-- The entries of a verified list are those of its text.
pub all_read : (l : ListValue) (text : List ℕ) (long : LongDigest) (es : List Entry)
    → all_entries l text long ≡ Ok es → read_list long text ≡ Ok es
all_read l text long es h = read (text_check l text) (is_utf8 text) text long es h
