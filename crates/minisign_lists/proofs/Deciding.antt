-- Proof that the function listed_entry and the relation IsListed agree.
use Rattle.std.specs.Prelude.{Result, Ok, Err, filter}
use Rattle.std.specs.List.{list_any}
use Rattle.std.proofs.Common.{◌≡◌, ◌∙◌, ℕ, Bool, true, false, List, [], ◌∷◌, ◌++◌, refl, ap, cond}
use Rattle.std.proofs.Common.{inl, inr, get_or, drop}
use Rattle.std.proofs.lemmas.Bool.{cases_Bool}
use Rattle.minisign.specs.Texts.{IsReading}
use Rattle.minisign_lists.specs.Faults.{ListFault, BadName, and_then}
use Rattle.minisign_lists.specs.Lines.{Entry, LongDigest}
use Rattle.minisign_lists.specs.Lists.{IsListed, has_name, listed_entry, read_list, only_entry}
use Rattle.minisign_lists.specs.Names.{is_name, without_dot}

-- The entry e is the only one in es for which p is true. The lists before and after are the entries
-- before and after it.
record Split (p : Entry → Bool) (es : List Entry) (e : Entry) : Type 0 where
  pub before : List Entry
  pub after : List Entry
  pub whole : es ≡ before ++ e ∷ after
  pub passes : p e ≡ true
  pub others : list_any p (before ++ after) ≡ false

none_passes : (p : Entry → Bool) (es : List Entry) → filter p es ≡ [] → list_any p es ≡ false
none_passes p [] h = refl
none_passes p (x ∷ es) h = elim (cases_Bool (p x)) [
  | inl is ↦ absurd (cc (rw is at h))
  | inr is ↦ rw is (none_passes p es (rw is at h))
]

filters_to_nothing : (p : Entry → Bool) (es : List Entry) → list_any p es ≡ false → filter p es ≡ []
filters_to_nothing p [] h = refl
filters_to_nothing p (x ∷ es) h = elim (cases_Bool (p x)) [
  | inl is ↦ absurd (cc (rw is at h))
  | inr is ↦ rw is (filters_to_nothing p es (rw is at h))
]

split_at_first : (p : Entry → Bool) (x : Entry) (es : List Entry) (e : Entry) → p x ≡ true
    → x ∷ filter p es ≡ e ∷ []
    → Split p (x ∷ es) e
split_at_first p x es e is h =
    let same : x ≡ e = ap (λ l. get_or l 0 e) h in
    record {
      before = [];
      after = es;
      whole = ap (λ y. y ∷ es) same;
      passes = rw same at is;
      others = none_passes p es (ap (drop 1) h);
    }

split_later : (p : Entry → Bool) (x : Entry) (es : List Entry) (e : Entry) → p x ≡ false → Split p es e
    → Split p (x ∷ es) e
split_later p x es e is s = record {
  before = x ∷ s.before;
  after = s.after;
  whole = ap (λ l. x ∷ l) s.whole;
  passes = s.passes;
  others = rw is s.others;
}

-- If exactly one entry has a property, the entries before and after it do not have it.
split : (p : Entry → Bool) (es : List Entry) (e : Entry) → filter p es ≡ e ∷ [] → Split p es e
split p [] e h = absurd (cc h)
split p (x ∷ es) e h = elim (cases_Bool (p x)) [
  | inl is ↦ split_at_first p x es e is (rw is at h)
  | inr is ↦ split_later p x es e is (split p es e (rw is at h))
]

-- The other direction.
joined : (p : Entry → Bool) (before : List Entry) (e : Entry) (after : List Entry) → p e ≡ true
    → list_any p (before ++ after) ≡ false → filter p (before ++ e ∷ after) ≡ e ∷ []
joined p [] e after is others = rw is (ap (λ l. e ∷ l) (filters_to_nothing p after others))
joined p (x ∷ before) e after is others = elim (cases_Bool (p x)) [
  | inl passes ↦ absurd (cc (rw passes at others))
  | inr other ↦ rw other (joined p before e after is (rw other at others))
]

-- The entry in a result, or another one if the result is an error.
abbrev got : Result Entry ListFault → Entry → Entry
got (Ok e) _ = e
got (Err f) e = e

listed_if_only : (long : LongDigest) (list name : List ℕ) (e : Entry) (es found : List Entry)
    → is_name name ≡ true
    → read_list long list ≡ Ok es → filter (has_name (without_dot name)) es ≡ found → only_entry found ≡ Ok e
    → IsListed long list name e
listed_if_only long list name e es [] named read is h = absurd (cc h)
listed_if_only long list name e es (x ∷ []) named read is h =
    let same : x ≡ e = ap (λ r. got r e) h in
    let s = split (has_name (without_dot name)) es e (is ∙ ap (λ y. y ∷ []) same) in
    record {
      named = named;
      before = s.before;
      after = s.after;
      entries = read ∙ ap Ok s.whole;
      of_name = s.passes;
      others = s.others;
    }
listed_if_only long list name e es (_ ∷ _ ∷ _) named read is h = absurd (cc h)

-- If listed_entry returns an entry, IsListed holds for it. listed_gives_entry is the other direction.
listed : (long : LongDigest) (list name : List ℕ) (e : Entry) (named : Bool)
    (r : Result (List Entry) ListFault) → is_name name ≡ named → read_list long list ≡ r
    → cond named (and_then r (λ es. only_entry (filter (has_name (without_dot name)) es))) (Err BadName)
    ≡ Ok e
    → IsListed long list name e
listed long list name e false r named read h = absurd (cc h)
listed long list name e true (Err f) named read h = absurd (cc h)
listed long list name e true (Ok es) named read h = listed_if_only long list name e es _ named read refl h

listed_gives_entry : (long : LongDigest) (list name : List ℕ) (e : Entry) → IsListed long list name e
    → listed_entry long list name ≡ Ok e
unfolding listed_entry
listed_gives_entry long list name e l =
    rw (l.named, l.entries)
    (ap only_entry (joined (has_name (without_dot name)) l.before e l.after l.of_name l.others))

-- listed_entry returns an entry exactly if IsListed holds for it.
pub decided : (long : LongDigest) (list name : List ℕ)
    → IsReading (IsListed long list name) (listed_entry long list name)
unfolding listed_entry
decided long list name = record {
  value = λ e. (listed long list name e _ _ refl refl, listed_gives_entry long list name e);
}
