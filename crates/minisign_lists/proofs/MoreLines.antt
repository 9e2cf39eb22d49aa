-- Lemmas about the lines and entries of a list to which a line is appended.
use Rattle.std.specs.Prelude.{Option, Some, None, Result, Ok, Err, option_to_list, slice_index, map}
use Rattle.std.specs.List.{All, list_any, onto_first, slice_split}
use Rattle.std.specs.Str.Lines.{lines, lines_of_parts, strip_carriage_return}
use Rattle.std.proofs.Common.{◌≡◌, ◌==◌, ◌||◌, ◌∙◌, ◌+◌, ◌-◌, ◌<◌, ℕ, zero, suc, Bool, true, false, List, []}
use Rattle.std.proofs.Common.{◌∷◌, ◌++◌, refl}
use Rattle.std.proofs.Common.{ap, sym, length, drop, arith, inl, inr}
use Rattle.std.proofs.lemmas.Bool.{cases_Bool, eqb-true, ne_eqb}
use Rattle.std.proofs.lemmas.List.{append-nil, append_assoc}
use Rattle.std.proofs.lemmas.List.Elements.{All-cons, All-nil}
use Rattle.std.proofs.lemmas.List.Splits.{slice_split_at}
use Rattle.minisign_lists.specs.Faults.{ListFault, and_then, map_ok}
use Rattle.std.specs.Option.{option_or}
use Rattle.minisign_lists.specs.Lines.{Entry, LongDigest, NamedDigest, entry_of, if_escaped, is_comment}
use Rattle.minisign_lists.specs.Lines.{begins_with_backslash}
use Rattle.minisign_lists.specs.Lines.{long_form, plain_form, read_line, tagged_form, written_in}
use Rattle.minisign_lists.specs.declared.digests.Algorithm.TheVariants as algorithm
use Rattle.minisign_lists.specs.declared.lines.LongDigest.TheVariants as long
use Rattle.minisign_lists.specs.Lists.{read_entries}
use Rattle.minisign_lists.specs.Names.{is_control}
use Rattle.minisign_lists.specs.Pieces.{is_feed}
use Rattle.minisign_lists.specs.Writing.{is_ended}

-- == Parts ==

onto-append : (b : ℕ) (front rest : List (List ℕ)) → 0 < length front
    → onto_first b (front ++ rest) ≡ onto_first b front ++ rest
onto-append b [] rest some = absurd (omega (arith, some))
onto-append b (part ∷ parts) rest some = refl

onto-some : (b : ℕ) (parts : List (List ℕ)) → 0 < length (onto_first b parts)
onto-some b [] = omega arith
onto-some b (part ∷ parts) = omega arith

-- The facts about a text that is empty or ends with a line feed: splitting it at line feeds gives
-- the parts `front` and an empty part, and if more text is appended, the parts of the longer text
-- are `front` and those of the appended text.
record Ended (list : List ℕ) : Type 0 where
  pub front : List (List ℕ)
  pub parts : slice_split is_feed list ≡ front ++ [] ∷ []
  pub more : (rest : List ℕ) → slice_split is_feed (list ++ rest) ≡ front ++ slice_split is_feed rest
  pub some : 0 < length list → 0 < length front

-- The last byte of b ∷ rest.
abbrev last_byte : ℕ → List ℕ → ℕ
last_byte b [] = b
last_byte b (c ∷ rest) = last_byte c rest

last_index : (b : ℕ) (rest : List ℕ) → slice_index (b ∷ rest) (length rest) ≡ last_byte b rest
last_index b [] = refl
last_index b (c ∷ rest) = last_index c rest

ended_at : (b : ℕ) (rest : List ℕ) → is_feed (last_byte b rest) ≡ true → Ended (b ∷ rest)
ended_at b [] h = record {
  front = [] ∷ [];
  parts = rw h refl;
  more = λ ys. rw h refl;
  some = λ _. omega arith;
}
ended_at b (c ∷ rest) h =
    let e = ended_at c rest h in
    let some : 0 < length e.front = e.some (omega arith) in
    elim (cases_Bool (is_feed b)) [
      | inl is ↦ record {
        front = [] ∷ e.front;
        parts = rw is (ap (λ l. [] ∷ l) e.parts);
        more = λ ys. rw is (ap (λ l. [] ∷ l) (e.more ys));
        some = λ _. omega arith;
      }
      | inr is ↦ record {
        front = onto_first b e.front;
        parts = rw is (ap (onto_first b) e.parts ∙ onto-append b e.front ([] ∷ []) some);
        more = λ ys. rw is (ap (onto_first b) (e.more ys)
            ∙ onto-append b e.front (slice_split is_feed ys) some);
        some = λ _. onto-some b e.front;
      }
    ]

or_true : (a b : Bool) → a ≡ false → (a || b) ≡ true → b ≡ true
or_true true b is h = absurd (cc is)
or_true false b is h = h

-- A list that is empty or ends with a line feed is split into its lines and an empty rest.
ended : (list : List ℕ) → is_ended list ≡ true → Ended list
ended [] h = record {
  front = [];
  parts = refl;
  more = λ ys. refl;
  some = λ l. absurd (omega (arith, l));
}
ended (b ∷ rest) h =
    let at : length (b ∷ rest) - 1 ≡ length rest = omega arith in
    let some : (length (b ∷ rest) == 0) ≡ false = ne_eqb (length (b ∷ rest)) 0 (λ z. omega (arith, z)) in
    let feed = or_true (length (b ∷ rest) == 0) (is_feed (slice_index (b ∷ rest) (length
    (b ∷ rest) - 1))) some h in
    ended_at b rest (ap is_feed (sym (last_index b rest) ∙ sym (ap (slice_index (b ∷ rest)) at)) ∙ feed)

lines_front : (front : List (List ℕ)) (part : List ℕ) (parts : List (List ℕ))
    → lines_of_parts (front ++ part ∷ parts) ≡ map strip_carriage_return front ++ lines_of_parts
    (part ∷ parts)
lines_front [] part parts = refl
lines_front (x ∷ []) part parts = refl
lines_front (x ∷ y ∷ front) part parts =
    ap (λ l. strip_carriage_return x ∷ l) (lines_front (y ∷ front) part parts)

-- == A line without control characters ==

-- Both sides of a false disjunction are false.
pub or_left : (a b : Bool) → (a || b) ≡ false → a ≡ false
or_left true b h = h
or_left false b h = refl

pub or_right : (a b : Bool) → (a || b) ≡ false → b ≡ false
or_right true b h = absurd (cc h)
or_right false b h = h

-- A text without control characters has none at any index.
pub no_control : (x : List ℕ) (i c : ℕ) → list_any is_control x ≡ false → is_control c ≡ true
    → slice_index x i ≡ c → i < length x → ⊥
no_control [] i c h control at within = absurd (omega (arith, within))
no_control (b ∷ x) zero c h control at within = cc (sym (or_left (is_control b) (list_any is_control x) h)
    ∙ ap is_control at ∙ control)
no_control (b ∷ x) (suc i) c h control at within =
    no_control x i c (or_right (is_control b) (list_any is_control x) h) control at (omega (arith, within))

not_feed : (b : ℕ) → is_control b ≡ false → is_feed b ≡ false
not_feed b h = elim (cases_Bool (is_feed b)) [
  | inl is ↦ absurd (cc (sym h ∙ ap is_control (eqb-true b 10 is)))
  | inr is ↦ is
]

no_feed : (x : List ℕ) → list_any is_control x ≡ false → All (λ b. is_feed b ≡ false) x
no_feed [] h = All-nil _
no_feed (b ∷ x) h = All-cons (λ c. is_feed c ≡ false) b x (not_feed b (or_left (is_control b)
    (list_any is_control x) h))
    (no_feed x (or_right (is_control b) (list_any is_control x) h))

-- No carriage return is removed from a text without control characters.
not_stripped : (x : List ℕ) → 0 < length x → list_any is_control x ≡ false → strip_carriage_return x ≡ x
not_stripped x some h = elim (cases_Bool (slice_index x (length x - 1) == 13)) [
  | inl is ↦ absurd (no_control x (length x - 1) 13 h refl (eqb-true (slice_index x (length x - 1)) 13 is)
      (omega (arith, some)))
  | inr is ↦ rw is refl
]

-- The lines of a list to which a line was appended.
pub lines_more : (list x : List ℕ) → is_ended list ≡ true → 0 < length x → list_any is_control x ≡ false
    → lines (list ++ (x ++ 10 ∷ [])) ≡ lines list ++ x ∷ []
lines_more list x is some clean =
    let e = ended list is in
    let front = map strip_carriage_return e.front in
    let part : slice_split is_feed (x ++ 10 ∷ [])
    ≡ x ∷ [] ∷ [] = slice_split_at is_feed x 10 [] (no_feed x clean) refl in
    let whole : lines (list ++ (x ++ 10 ∷ [])) ≡ front ++ x ∷ [] =
    ap lines_of_parts (e.more (x ++ 10 ∷ []) ∙ ap (λ l. e.front ++ l) part) ∙ lines_front e.front x ([] ∷ [])
    ∙ ap (λ l. front ++ l ∷ []) (not_stripped x some clean) in
    let old : lines list ≡ front = ap lines_of_parts e.parts ∙ lines_front e.front [] [] ∙ append-nil front in
    whole ∙ ap (λ l. l ++ x ∷ []) (sym old)

-- == Entries of a list whose lines all name their hash functions ==

-- This setting rejects 128 digits on lines that do not name their hash function. So a line that is well
-- formed with it is well formed with every setting.
abbrev strict : LongDigest
strict = long.Rejected

options : (a b c d e : Option NamedDigest) (w : NamedDigest)
    → option_or a (option_or b (option_or c (option_or d None))) ≡ Some w
    → option_or a (option_or b (option_or c (option_or d e))) ≡ Some w
options (Some a) b c d e w h = h
options None (Some b) c d e w h = h
options None None (Some c) d e w h = h
options None None None (Some d) e w h = h
options None None None None e w h = absurd (cc h)

-- A line that is well formed if 128 digits are rejected has the same entry for each choice of their hash
-- function.
written_strictly : (l : LongDigest) (line : List ℕ) (w : NamedDigest) → written_in strict line ≡ Some w
    → written_in l line ≡ Some w
written_strictly l line w h =
    options (tagged_form algorithm.Sha256 line) (tagged_form algorithm.Sha512 line)
    (tagged_form algorithm.Blake2b line) (plain_form algorithm.Sha256 line) (long_form l line) w h

-- If the form a gives an entry, and b is the same form as a, then b gives the same entry.
same_entry : (n : ℕ) (escaped : Bool) (before : ℕ) (a b : Option NamedDigest) (o : Option Entry)
    → ((w : NamedDigest) → a ≡ Some w → b ≡ Some w) → entry_of n escaped before a ≡ Ok o
    → entry_of n escaped before b ≡ Ok o
same_entry n escaped before None b o same h = absurd (cc h)
same_entry n escaped before (Some w) b o same h = ap (entry_of n escaped before) (same w refl) ∙ h

same_escaped : (a b : Option NamedDigest) → ((w : NamedDigest) → a ≡ Some w → b ≡ Some w)
    → (w : NamedDigest) → if_escaped a ≡ Some w → if_escaped b ≡ Some w
same_escaped None b same w h = absurd (cc h)
same_escaped (Some v) b same w h = ap if_escaped (same v refl) ∙ h

read_strictly : (l : LongDigest) (n : ℕ) (line : List ℕ) (o : Option Entry) → read_line strict n line ≡ Ok o
    → read_line l n line ≡ Ok o
read_strictly l n line o h = elim (cases_Bool (list_any is_control line)) [
  | inl bad ↦ absurd (cc (rw bad at h))
  | inr good ↦ elim (cases_Bool (is_comment line)) [
    | inl is ↦ rw (good, is) (rw (good, is) at h)
    | inr is ↦ elim (cases_Bool (begins_with_backslash line)) [
      | inl marked ↦ rw (good, is, marked) (same_entry n true 1
          (if_escaped (written_in strict (drop 1 line))) (if_escaped (written_in l (drop 1 line))) o
          (same_escaped (written_in strict (drop 1 line)) (written_in l (drop 1 line)) (written_strictly l
          (drop 1 line)))
          (rw (good, is, marked) at h))
      | inr plain ↦ rw (good, is, plain) (same_entry n false 0 (written_in strict line) (written_in l line) o
          (written_strictly l line) (rw (good, is, plain) at h))
    ]
  ]
]

-- The result r of reading the lines after a line is a success, and es consists of the entry o of
-- the line, if it has one, and the entries in r.
record Rest (r : Result (List Entry) ListFault) (o : Option Entry) (es : List Entry) : Type 0 where
  pub tail : List Entry
  pub is : r ≡ Ok tail
  pub whole : es ≡ option_to_list o ++ tail

abbrev list_in : Result (List Entry) ListFault → List Entry
list_in (Ok es) = es
list_in (Err f) = []

rest : (r : Result (List Entry) ListFault) (o : Option Entry) (es : List Entry)
    → map_ok (λ more. option_to_list o ++ more) r ≡ Ok es → Rest r o es
rest (Ok t) o es h = record {
  tail = t;
  is = refl;
  whole = sym (ap list_in h);
}
rest (Err f) o es h = absurd (cc h)

-- If appending the line x appends the entry e to the entries of the lines after y, it also appends
-- e to the entries of y and these lines.
first_more : (l : LongDigest) (n : ℕ) (y : List ℕ) (ls : List (List ℕ)) (x : List ℕ) (es : List Entry)
    (e : Entry)
    (r : Result (Option Entry) ListFault)
    → ((t : List Entry) → read_entries strict (n + 1) ls ≡ Ok t
    → read_entries l (n + 1) (ls ++ x ∷ []) ≡ Ok (t ++ e ∷ []))
    → read_line strict n y ≡ r
    → and_then r (λ entry. map_ok (λ rest. option_to_list entry ++ rest) (read_entries strict (n + 1) ls))
    ≡ Ok es
    → read_entries l n (y ∷ (ls ++ x ∷ [])) ≡ Ok (es ++ e ∷ [])
first_more l n y ls x es e (Err f) behind is h = absurd (cc h)
first_more l n y ls x es e (Ok o) behind is h =
    let t = rest (read_entries strict (n + 1) ls) o es h in
    rw (read_strictly l n y o is, behind t.tail t.is)
    (ap Ok (sym (append_assoc (option_to_list o) t.tail (e ∷ [])) ∙ ap (λ z. z ++ e ∷ []) (sym t.whole)))

-- The entries of some lines and one more, for each choice of the hash function of 128 digits.
pub entries_more : (l : LongDigest) (n : ℕ) (ls : List (List ℕ)) (x : List ℕ) (es : List Entry) (e : Entry)
    → read_entries strict n ls ≡ Ok es → read_line l (n + length ls) x ≡ Ok (Some e)
    → read_entries l n (ls ++ x ∷ []) ≡ Ok (es ++ e ∷ [])
entries_more l n [] x es e h line =
    let none : es ≡ [] = sym (ap list_in h) in
    let at : n ≡ n + 0 = omega arith in
    let here : read_line l n x ≡ Ok (Some e) = ap (λ k. read_line l k x) at ∙ line in
    rw (none, here) refl
entries_more l n (y ∷ ls) x es e h line =
    let at : n + length (y ∷ ls) ≡ n + 1 + length ls = omega arith in
    first_more l n y ls x es e (read_line strict n y)
    (λ t is. entries_more l (n + 1) ls x t e is (ap (λ k. read_line l k x) (sym at) ∙ line)) refl h
