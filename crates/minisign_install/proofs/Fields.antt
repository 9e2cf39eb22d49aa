-- Lemmas for the functions that find the fields of a comment and the values after their labels.
use Rattle.std.specs.Prelude.{is_some, filter_map, MatchOption}
use Rattle.std.proofs.Common.{Bool, true, false, ◌≡◌, ◌≢◌, ◌<◌, ◌==◌, ℕ, List, [], ◌∷◌, ◌++◌, Some, None}
use Rattle.std.proofs.Common.{length, ap, sym, ◌∙◌, refl, cond, arith, drop, Bor, Option, option_map, inl}
use Rattle.std.proofs.Common.{inr}
use Rattle.std.specs.List.{cons_option}
use Rattle.std.specs.Str.Pattern.{FindsTextPrefix, StripsPrefix}
use Rattle.std.proofs.lemmas.Bool.{cases_Bool, eq-eqb, eqb-true, ne_eqb}
use Rattle.minisign_install.specs.Comments.{expiries, expiry_in, fields, folded, strip, values_of}

-- Removing a label from a text that begins with it leaves the rest.
pub strips : (label text : List ℕ) → strip label (label ++ text) ≡ Some text
strips [] text = refl
strips (b ∷ label) text =
    ap (λ t. cond t (strip label (label ++ text)) None) (eq-eqb b b refl) ∙ strips label text

lacks : (label text : List ℕ) → ((rest : List ℕ) → text ≢ label ++ rest) → strip label text ≡ None
lacks [] text other = absurd (other text refl)
lacks (b ∷ label) [] other = refl
lacks (b ∷ label) (c ∷ text) other = elim (cases_Bool (c == b)) [
  | inl same ↦ ap (λ t. cond t (strip label text) None) same
      ∙ lacks label text (λ rest is. other rest (ap (λ d. d ∷ text) (eqb-true c b same) ∙ ap (λ l. b ∷ l) is))
  | inr apart ↦ ap (λ t. cond t (strip label text) None) apart
]

-- If a result satisfies the contract of `strip_prefix`, it is the text after the label.
pub strip_answers : (label text : List ℕ) (r : Option (Bor (List ℕ)))
    → MatchOption r (FindsTextPrefix label text None) (λ v. StripsPrefix (FindsTextPrefix label) text v.now)
    → option_map (λ v. v.now) r ≡ strip label text
strip_answers label text None none = sym (lacks label text none)
strip_answers label text (Some v) (n, (is, begin, boundary), rest, long) =
    ap Some rest ∙ sym (ap (strip label) begin ∙ strips label (drop n text))

-- An empty comment has no field with a label.
pub nothing : (label text : List ℕ) → 0 < length label → length text ≡ 0 → values_of label text ≡ []
nothing [] text some none = absurd (omega arith)
nothing (b ∷ label) [] some none = refl
nothing (b ∷ label) (c ∷ text) some none = absurd (omega arith)

-- If a function finds nothing in an empty field, it finds nothing in an empty comment.
pub none_read : (reads : List ℕ → Option (List ℕ)) → reads [] ≡ None → filter_map reads (fields []) ≡ []
none_read reads none = ap (λ r. cons_option r []) none

-- An empty comment has no expiry time.
pub no_expiry_in : (must : Bool) → expiry_in must [] ≡ None
no_expiry_in true = refl
no_expiry_in false = refl

pub no_expiry : (must : Bool) (text : List ℕ) → length text ≡ 0 → expiries must text ≡ []
no_expiry must [] none = none_read (expiry_in must) (no_expiry_in must)
no_expiry must (b ∷ text) none = absurd (omega arith)

-- If the flag says that there is a value, there is one; otherwise there is none (none_of).
pub some_of : {A : Type 0} (o : Option A) → is_some o ≡ true → (v : A) × (o ≡ Some v)
some_of (Some v) h = (v, refl)
some_of None h = cc h

pub none_of : {A : Type 0} (o : Option A) → is_some o ≡ false → o ≡ None
none_of (Some v) h = cc h
none_of None h = refl

-- == Labels in any case, with white space ==

-- An empty text begins with a label only if the label is empty.
pub ended : (label text : List ℕ) → length text ≡ 0
    → is_some (strip label (folded text)) ≡ (length label == 0)
ended [] [] none = refl
ended (b ∷ label) [] none = sym (ne_eqb (length (b ∷ label)) 0 (λ z. omega arith))
ended label (c ∷ text) none = absurd (omega arith)
