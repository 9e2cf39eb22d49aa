-- Proof that a list to which an entry was appended parses to its old entries and the new one.
use Rattle.std.specs.Prelude.{⊤, Option, Some, None, Result, Ok, Err, filter, nat_le}
use Rattle.std.specs.List.{list_any}
use Rattle.std.specs.Str.{is_utf8}
use Rattle.std.specs.Str.Lines.{lines}
use Rattle.std.proofs.Common.{◌≡◌, ◌&&◌, ◌||◌, ◌∙◌, ◌+◌, ◌<◌, ◌≤◌, ℕ, Bool, true, false, not, List}
use Rattle.std.proofs.Common.{[], ◌∷◌, ◌++◌}
use Rattle.std.proofs.Common.{refl, ap, sym, cond, length, take, drop, arith, inl, inr, bytes_eq}
use Rattle.std.proofs.lemmas.Bool.{and_parts, cases_Bool, eq-eqb, leb-true}
use Rattle.std.proofs.lemmas.List.{append_assoc, length-append, length-take-le, take_at}
use Rattle.std.proofs.lemmas.List.Elements.{filter-append}
use Rattle.hex.specs.Hex.{IsBytes}
use Rattle.minisign_external.specs.declared.state.Misuse.TheVariants.{NoRoom}
use Rattle.minisign_external.specs.declared.state.Refusal.{Refusal}
use Rattle.minisign_external.specs.declared.state.Refusal.TheVariants.{WrongUse}
use Rattle.minisign_lists.specs.Digests.{ListedDigest}
use Rattle.minisign_lists.specs.Faults.{ListFault, BadName, DigestMismatch, Library, ListedTwice}
use Rattle.minisign_lists.specs.Faults.{MalformedLine}
use Rattle.minisign_lists.specs.Faults.{NotListed, OtherList, and_then, map_ok}
use Rattle.minisign_lists.specs.Lines.{Entry, LongDigest, read_line, entry_of, if_escaped, is_comment}
use Rattle.minisign_lists.specs.Lines.{begins_with_backslash, written_in, NamedDigest}
use Rattle.minisign_lists.specs.declared.lines.LongDigest.TheVariants as long
use Rattle.minisign_lists.specs.Lists.{has_name, listed_entry, read_entries, read_list, only_entry}
use Rattle.minisign_lists.specs.Names.{is_backslash, is_control, is_name, is_path, without_dot}
use Rattle.minisign_lists.specs.Values.{go_on, not_utf8, of_lists}
use Rattle.minisign_lists.specs.Writing.{IsReadBack, append_check, appended, appended_line, bytes_of}
use Rattle.minisign_lists.specs.Writing.{digest_size}
use Rattle.minisign_lists.specs.Writing.{free_name, is_ended, written_entry, written_line}
use Rattle.minisign_lists.proofs.MoreLines.{entries_more, lines_more, or_right}
use Rattle.minisign_lists.proofs.WrittenLine.{line_clean, line_read, line_some, line_text, line_whole}

-- == Names ==

without_two : (p : ℕ → Bool) (xs : List ℕ) → list_any p xs ≡ false → list_any p (drop 2 xs) ≡ false
without_two p [] h = refl
without_two p (a ∷ []) h = refl
without_two p (a ∷ b ∷ xs) h = or_right (p b) (list_any p xs) (or_right (p a) (p b || list_any p xs) h)

dot_clean : (p : ℕ → Bool) (name : List ℕ) → list_any p name ≡ false → list_any p (without_dot name) ≡ false
dot_clean p name h = elim (cases_Bool (bytes_eq (take 2 name) (46 ∷ 47 ∷ []))) [
  | inl is ↦ rw is (without_two p name h)
  | inr is ↦ rw is h
]

equals_itself : (xs : List ℕ) → bytes_eq xs xs ≡ true
equals_itself [] = refl
equals_itself (x ∷ xs) = rw (eq-eqb x x refl, equals_itself xs) refl

not_false : (b : Bool) → not b ≡ true → b ≡ false
not_false true h = absurd (cc h)
not_false false h = refl

-- == Facts that follow from the checks ==

-- The name can be looked up, every line of the list is well formed, and no entry has the name.
record IsFree (list name : List ℕ) : Type 0 where
  pub named : is_name name ≡ true
  pub entries : List Entry
  pub read : read_list long.Rejected list ≡ Ok entries
  pub none : filter (has_name (without_dot name)) entries ≡ []

-- The result is the error NotListed.
abbrev is_missing : {V : Type 0} → Result V ListFault → Bool
is_missing (Ok v) = false
is_missing (Err NotListed) = true
is_missing (Err (Library f)) = false
is_missing (Err OtherList) = false
is_missing (Err BadName) = false
is_missing (Err (MalformedLine n)) = false
is_missing (Err (ListedTwice n)) = false
is_missing (Err DigestMismatch) = false

entry_found : (n : ℕ) (escaped : Bool) (before : ℕ) (w : Option NamedDigest)
    → is_missing (entry_of n escaped before w) ≡ false
entry_found n escaped before None = refl
entry_found n escaped before (Some w) = elim (cases_Bool (is_path (without_dot w.name))) [
  | inl is ↦ rw is refl
  | inr is ↦ rw is refl
]

line_found : (l : LongDigest) (n : ℕ) (line : List ℕ) → is_missing (read_line l n line) ≡ false
line_found l n line = elim (cases_Bool (list_any is_control line)) [
  | inl bad ↦ rw bad refl
  | inr good ↦ elim (cases_Bool (is_comment line)) [
    | inl is ↦ rw (good, is) refl
    | inr is ↦ elim (cases_Bool (begins_with_backslash line)) [
      | inl marked ↦ rw (good, is, marked) (entry_found n true 1 (if_escaped (written_in l (drop 1 line))))
      | inr plain ↦ rw (good, is, plain) (entry_found n false 0 (written_in l line))
    ]
  ]
]

map_found : {V W : Type 0} (f : V → W) (r : Result V ListFault) → is_missing r ≡ false
    → is_missing (map_ok f r) ≡ false
map_found f (Ok v) h = refl
map_found f (Err e) h = h

then_not_missing : {V W : Type 0} (r : Result V ListFault) (more : V → Result W ListFault)
    → is_missing r ≡ false
    → ((v : V) → is_missing (more v) ≡ false) → is_missing (and_then r more) ≡ false
then_not_missing (Ok v) more h all = all v
then_not_missing (Err e) more h all = h

-- Reading the entries never has the error NotListed, so only the lookup of the name has it.
entries_found : (l : LongDigest) (n : ℕ) (ls : List (List ℕ)) → is_missing (read_entries l n ls) ≡ false
entries_found l n [] = refl
entries_found l n (x ∷ ls) = then_not_missing (read_line l n x) _ (line_found l n x)
    (λ o. map_found _ (read_entries l (n + 1) ls) (entries_found l (n + 1) ls))

not_listed_is_empty : (es : List Entry) → only_entry es ≡ Err NotListed → es ≡ []
not_listed_is_empty [] h = refl
not_listed_is_empty (e ∷ []) h = absurd (cc h)
not_listed_is_empty (e ∷ second ∷ es) h = absurd (cc (ap is_missing h))

-- If looking up the name returns NotListed, the list is well formed, and no entry has the name.
free_if_not_listed : (list name : List ℕ) (named : Bool) (r : Result (List Entry) ListFault)
    → is_name name ≡ named
    → read_list long.Rejected list ≡ r → is_missing r ≡ false
    → cond named (and_then r (λ es. only_entry (filter (has_name (without_dot name)) es))) (Err BadName)
    ≡ Err NotListed
    → IsFree list name
free_if_not_listed list name false r named read found h = absurd (cc (ap is_missing h))
free_if_not_listed list name true (Err f) named read found h = absurd (cc (sym found ∙ ap is_missing h))
free_if_not_listed list name true (Ok es) named read found h = record {
  named = named;
  entries = es;
  read = read;
  none = not_listed_is_empty (filter (has_name (without_dot name)) es) h;
}

-- The facts that follow from a successful check of appending.
record Checked (buffer : List ℕ) (len : ℕ) (name : List ℕ) : Type 0 where
  pub fits : nat_le len (length buffer) ≡ true
  pub ended : is_ended (take len buffer) ≡ true
  pub free : IsFree (take len buffer) name

abbrev ok_in : {V F : Type 0} → Result V F → Bool
ok_in (Ok v) = true
ok_in (Err e) = false

-- The name is not listed, and the list is empty or ends with a line feed.
record Free (r : Result Entry ListFault) (list : List ℕ) : Type 0 where
  pub missing : r ≡ Err NotListed
  pub ended : is_ended list ≡ true

abbrev end_check : Bool → Result ⊤ ListFault
end_check b = cond b (Ok tt) (Err (MalformedLine 0))

ends : (b : Bool) → ok_in (end_check b) ≡ true → b ≡ true
ends true h = refl
ends false h = absurd (cc h)

free_of : (r : Result Entry ListFault) (list : List ℕ) → ok_in (free_name r list) ≡ true → Free r list
free_of (Ok e) list h = absurd (cc h)
free_of (Err NotListed) list h = record { missing = refl; ended = ends (is_ended list) h }
free_of (Err (Library f)) list h = absurd (cc h)
free_of (Err OtherList) list h = absurd (cc h)
free_of (Err BadName) list h = absurd (cc h)
free_of (Err (MalformedLine n)) list h = absurd (cc h)
free_of (Err (ListedTwice n)) list h = absurd (cc h)
free_of (Err DigestMismatch) list h = absurd (cc h)

ok_lists : {V : Type 0} (r : Result V ListFault) → ok_in (of_lists r) ≡ true → ok_in r ≡ true
ok_lists (Ok v) h = refl
ok_lists (Err e) h = absurd (cc h)

checks : (fits first second : Bool) (list name : List ℕ) → ok_in (cond fits
    (go_on (cond first (Ok list) (Err not_utf8)) (λ l.
    go_on (cond second (Ok name) (Err not_utf8)) (λ n.
    of_lists (free_name (listed_entry long.Rejected l n) l))))
    (Err (WrongUse NoRoom))) ≡ true → (fits ≡ true) × Free (listed_entry long.Rejected list name) list
checks false first second list name h = absurd (cc h)
checks true false second list name h = absurd (cc h)
checks true true false list name h = absurd (cc h)
checks true true true list name h = (
  refl,
  free_of (listed_entry long.Rejected list name) list (ok_lists (free_name
      (listed_entry long.Rejected list name) list) h),
)

checked : (buffer : List ℕ) (len : ℕ) (name : List ℕ) → ok_in (append_check buffer len name) ≡ true
    → Checked buffer len name
unfolding listed_entry
checked buffer len name h =
    let list = take len buffer in
    let (fits, is) = checks (nat_le len (length buffer)) (is_utf8 list) (is_utf8 name) list name h in
    record {
      fits = fits;
      ended = is.ended;
      free = free_if_not_listed list name (is_name name) (read_list long.Rejected list) refl refl
          (entries_found long.Rejected 1 (lines list)) is.missing;
    }

-- == The list after appending ==

module _ (l : LongDigest) (list name : List ℕ) (d : ListedDigest) (are : IsBytes (bytes_of d))
    (size : length (bytes_of d) ≡ digest_size d) where
  read_back : is_ended list ≡ true → IsFree list name
      → IsReadBack l list (list ++ written_line d (without_dot name)) d name
  unfolding listed_entry
  read_back ended given =
      let m = without_dot name in
      let x = line_text d m in
      let n = 1 + length (lines list) in
      let e = written_entry n d m in
      let parts = and_parts (is_path m && not (list_any is_control name)) (not
      (list_any is_backslash name)) given.named in
      let both = and_parts (is_path m) (not (list_any is_control name)) parts.0 in
      let path : is_path m ≡ true = both.0 in
      let no_controls : list_any is_control name ≡ false = not_false (list_any is_control name) both.1 in
      let m_clean : list_any is_control m ≡ false = dot_clean is_control name no_controls in
      let line = line_read l n d m are size m_clean path in
      let some : 0 < length x = line_some d m in
      let new_lines : lines (list ++ written_line d m) ≡ lines list ++ x ∷ [] =
      ap (λ t. lines (list ++ t)) (line_whole d m)
      ∙ lines_more list x ended some (line_clean d m are m_clean) in
      let new : read_list l (list ++ written_line d m) ≡ Ok (given.entries ++ e ∷ []) =
      ap (read_entries l 1) new_lines ∙ entries_more l 1 (lines list) x given.entries e given.read line in
      let only : filter (has_name m) (given.entries ++ e ∷ []) ≡ e ∷ [] =
      filter-append (has_name m) given.entries (e ∷ []) ∙ rw (given.none, equals_itself m) refl in
      record {
        before = given.entries;
        list_read = given.read;
        free = given.none;
        longer_read = new;
        found = rw (given.named, new) (ap only_entry only);
      }

-- The length in a successful result of appending.
abbrev number_in : Result ℕ (Refusal ListFault) → ℕ
number_in (Ok n) = n
number_in (Err r) = 0

record IsAppended (c : Result ⊤ (Refusal ListFault)) (buffer : List ℕ) (len : ℕ) (line : List ℕ) (n : ℕ)
    (new : List ℕ)
    : Type 0 where
  pub checked : ok_in c ≡ true
  pub room : nat_le (len + length line) (length buffer) ≡ true
  pub number : n ≡ len + length line
  pub whole : new ≡ take len buffer ++ (line ++ drop (len + length line) buffer)

module _ (buffer : List ℕ) (len : ℕ) (line : List ℕ) (n : ℕ) (new : List ℕ) where
  abbrev room_result : Bool → Result ℕ (Refusal ListFault) × List ℕ
  room_result true = (Ok (len + length line), take len buffer ++ (line ++ drop (len + length line) buffer))
  room_result false = (Err (WrongUse NoRoom), buffer)

  of_room : (b : Bool) → cond b (room_result true) (room_result false) ≡ room_result b
  of_room true = refl
  of_room false = refl

  with_room : (b : Bool) → nat_le (len + length line) (length buffer) ≡ b
      → room_result b ≡ (Ok n, new) → IsAppended (Ok tt) buffer len line n new
  with_room false is h = absurd (cc (ap (λ p. ok_in p.0) h))
  with_room true is h = record {
    checked = refl;
    room = is;
    number = sym (ap (λ p. number_in p.0) h);
    whole = sym (ap (λ p. p.1) h);
  }

  -- If appending succeeds, the line is accepted, the buffer has room, and the line follows the old list.
  returned : (c : Result ⊤ (Refusal ListFault)) → appended_line c buffer len line ≡ (Ok n, new)
      → IsAppended c buffer len line n new
  returned (Err r) h = absurd (cc (ap (λ p. ok_in p.0) h))
  returned (Ok t) h =
      let room = nat_le (len + length line) (length buffer) in
      with_room room refl (sym (of_room room) ∙ h)

-- If appending an entry succeeds, the longer list has its old entries and the new one.
pub appended_is_read_back : (l : LongDigest) (buffer : List ℕ) (len n : ℕ) (d : ListedDigest)
    (name new : List ℕ)
    → IsBytes (bytes_of d) → length (bytes_of d) ≡ digest_size d → appended buffer len d name ≡ (Ok n, new)
    → IsReadBack l (take len buffer) (take n new) d name
appended_is_read_back l buffer len n d name new are size h =
    let line = written_line d (without_dot name) in
    let list = take len buffer in
    let t = returned buffer len line n new (append_check buffer len name) h in
    let c = checked buffer len name t.checked in
    let within : len + length line ≤ length buffer = leb-true (len + length line) (length buffer) t.room in
    let short : length list ≡ len = length-take-le len buffer (omega (arith, within)) in
    let long : length (list ++ line) ≡ n = length-append list line ∙ omega (arith, short, t.number) in
    let is : take n new ≡ list ++ line =
    ap (take n) (t.whole ∙ sym (append_assoc list line (drop (len + length line) buffer)))
    ∙ take_at (list ++ line) (drop (len + length line) buffer) n long in
    rw is (read_back l list name d are size c.ended c.free)
