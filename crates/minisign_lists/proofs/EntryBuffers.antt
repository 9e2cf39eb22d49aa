-- Lemmas about writing the entries of a list to a buffer.
use Rattle.std.specs.Prelude.{Option, Some, None, Result, Ok, Err, map, slice_set, option_to_list}
use Rattle.std.specs.List.{list_any}
use Rattle.std.specs.Str.Lines.{lines}
use Rattle.std.proofs.Common.{◌≡◌, ◌∙◌, ◌+◌, ◌-◌, ◌<◌, ◌≤◌, ◌%◌, ◌^◌, ℕ, zero, suc, Bool, true, false, List}
use Rattle.std.proofs.Common.{[], ◌∷◌, ◌++◌, refl, ap, sym, cond}
use Rattle.std.proofs.Common.{length, drop, arith, inl, inr, get_or}
use Rattle.std.proofs.lemmas.Bool.{cases_Bool, lt-ltb}
use Rattle.std.proofs.lemmas.List.{drop_more, append_assoc, append-nil, length-append, length-map, map-append}
use Rattle.std.proofs.Math.Seq.{set-append_seam}
use Rattle.minisign_lists.specs.Faults.{ListFault, and_then, map_ok}
use Rattle.minisign_lists.specs.Lines.{Entry, LongDigest, NamedDigest, entry_of, if_escaped, is_comment}
use Rattle.minisign_lists.specs.Lines.{begins_with_backslash, read_line, written_in}
use Rattle.minisign_lists.specs.Lists.{read_entries, read_list}
use Rattle.minisign_lists.specs.Names.{is_control, is_path, without_dot}
use Rattle.minisign_lists.specs.Positions.{after_line, line_start, without_lines}
use Rattle.minisign_lists.specs.Values.{entry_value, value_in, put_entry}
use Rattle.minisign_lists.specs.declared.values.EntryValue.{EntryValue}

-- The line number of the entry in a result, or n if there is no entry.
abbrev line_in : Result (Option Entry) ListFault → ℕ → ℕ
line_in (Ok (Some e)) n = e.line
line_in (Ok None) n = n
line_in (Err f) n = n

entry_line : (n : ℕ) (escaped : Bool) (before : ℕ) (w : Option NamedDigest)
    → line_in (entry_of n escaped before w) n ≡ n
entry_line n escaped before None = refl
entry_line n escaped before (Some w) = elim (cases_Bool (is_path (without_dot w.name))) [
  | inl is ↦ rw is refl
  | inr is ↦ rw is refl
]

-- An entry has the number of its line.
line_of : (long : LongDigest) (n : ℕ) (line : List ℕ) → line_in (read_line long n line) n ≡ n
line_of long n line = elim (cases_Bool (list_any is_control line)) [
  | inl bad ↦ rw bad refl
  | inr good ↦ elim (cases_Bool (is_comment line)) [
    | inl is ↦ rw (good, is) refl
    | inr is ↦ elim (cases_Bool (begins_with_backslash line)) [
      | inl marked ↦ rw (good, is, marked) (entry_line n true 1 (if_escaped (written_in long (drop 1 line))))
      | inr plain ↦ rw (good, is, plain) (entry_line n false 0 (written_in long line))
    ]
  ]
]

-- Leaving out n + 1 lines is leaving out n lines, and then one more.
pub one_more : (n : ℕ) (text : List ℕ) → without_lines (suc n) text ≡ after_line (without_lines n text)
one_more zero text = refl
one_more (suc n) text = one_more n (after_line text)

-- The first n lines of a text were read, and the entries on them were written to the buffer.
pub record IsWritten (long : LongDigest) (text : List ℕ) (old new : List EntryValue) (n count : ℕ)
    (rest : List ℕ) (es : List Entry) : Type 0 where
  pub done : List Entry
  pub more : List Entry
  pub all : es ≡ done ++ more
  pub unread_entries : read_entries long (n + 1) (lines rest) ≡ Ok more
  pub counted : count ≡ length done
  pub written : new ≡ map (value_in text) done ++ drop (length done) old

-- The entries in a result, or none if it is an error.
abbrev entries_or_none : Result (List Entry) ListFault → List Entry
entries_or_none (Ok es) = es
entries_or_none (Err f) = []

-- If a line has no entry, all entries are on the lines after it.
line_skipped : (r : Result (List Entry) ListFault) (more : List Entry) → map_ok (λ es. [] ++ es) r ≡ Ok more
    → r ≡ Ok more
line_skipped (Ok es) more h = h
line_skipped (Err f) more h = absurd (cc h)

-- The result r is a success, and `more` consists of the entry e and the entries in r.
record Behind (r : Result (List Entry) ListFault) (e : Entry) (more : List Entry) : Type 0 where
  pub tail : List Entry
  pub is : r ≡ Ok tail
  pub whole : more ≡ e ∷ tail

entry_is_first : (r : Result (List Entry) ListFault) (e : Entry) (more : List Entry)
    → map_ok (λ es. (e ∷ []) ++ es) r ≡ Ok more
    → Behind r e more
entry_is_first (Ok es) e more h = record {
  tail = es;
  is = refl;
  whole = sym (ap entries_or_none h);
}
entry_is_first (Err f) e more h = absurd (cc h)

-- If a buffer begins with the list xs, writing an element after xs gives a buffer that begins with
-- xs and this element.
set_next : (xs old : List EntryValue) (v : EntryValue) → length xs < length old
    → slice_set (xs ++ drop (length xs) old) (length xs) v ≡ (xs ++ v ∷ []) ++ drop (length xs + 1) old
set_next xs old v fits =
    let some = drop_more old (length xs) v fits in
    ap (λ l. slice_set (xs ++ l) (length xs) v) some
    ∙ set-append_seam xs (get_or old (length xs) v) (drop (length xs + 1) old) v
    ∙ sym (append_assoc xs (v ∷ []) (drop (length xs + 1) old))

module _ (long : LongDigest) (text : List ℕ) (old new : List EntryValue) (n count : ℕ) (rest more : List ℕ)
    (es : List Entry) where
  -- Reading one more line keeps what IsWritten says.
  step : (r : Result (Option Entry) ListFault) (next : ℕ) (to : List EntryValue)
      → (w : IsWritten long text old new n count rest es) → line_in r (n + 1) ≡ n + 1
      → and_then r (λ entry. map_ok (λ more. option_to_list entry ++ more) (read_entries long (n + 1 + 1)
      (lines more)))
      ≡ Ok w.more
      → rest ≡ without_lines n text → length es ≤ length old → length new ≡ length old
      → (next, to) ≡ put_entry r (length text - length rest) new count
      → IsWritten long text old to (n + 1) next more es
  step (Err f) next to w line read at room len put = absurd (cc read)
  step (Ok None) next to w line read at room len put = record {
    done = w.done;
    more = w.more;
    all = w.all;
    unread_entries = line_skipped (read_entries long (n + 1 + 1) (lines more)) w.more read;
    counted = ap (λ p. p.0) put ∙ w.counted;
    written = ap (λ p. p.1) put ∙ w.written;
  }
  step (Ok (Some e)) next to w line read at room len put =
      let behind = entry_is_first (read_entries long (n + 1 + 1) (lines more)) e w.more read in
      let f = value_in text in
      let xs = map f w.done in
      let size : length xs ≡ length w.done = length-map w.done f in
      let whole : es ≡ (w.done ++ e ∷ []) ++ behind.tail =
      w.all ∙ ap (λ l. w.done ++ l) behind.whole ∙ sym (append_assoc w.done (e ∷ []) behind.tail) in
      let longer : length (w.done ++ e ∷ []) ≡ length w.done + 1 = length-append w.done (e ∷ []) in
      let total : length es ≡ length (w.done ++ e ∷ []) + length behind.tail =
      ap length whole ∙ length-append (w.done ++ e ∷ []) behind.tail in
      let fits : length xs < length old = omega (arith, size, longer, total, room) in
      let below : count < length new = omega (arith, w.counted, size, len, fits) in
      let start = length text - length rest in
      let v = entry_value e ((start + e.start) % 2 ^ 64) in
      let is : e.line ≡ n + 1 = line in
      let number : n ≡ e.line - 1 = omega (arith, is) in
      let begins : start ≡ line_start e.line text =
      ap (λ l. length text - length l) (at ∙ ap (λ k. without_lines k text) number) in
      let same : v ≡ f e = ap (λ k. entry_value e ((k + e.start) % 2 ^ 64)) begins in
      let returned : (next, to) ≡ (count + 1, slice_set new count v) = put
      ∙ ap (λ b. cond b (count + 1, slice_set new count v) (count, new)) (lt-ltb count (length new) below) in
      let more_done : count + 1 ≡ length (w.done ++ e ∷ []) = omega (arith, w.counted, longer) in
      let after_done : length xs + 1 ≡ length (w.done ++ e ∷ []) = omega (arith, size, longer) in
      record {
        done = w.done ++ e ∷ [];
        more = behind.tail;
        all = whole;
        unread_entries = behind.is;
        counted = ap (λ p. p.0) returned ∙ more_done;
        written = ap (λ p. p.1) returned
            ∙ ap (λ k. slice_set new k v) (w.counted ∙ sym size)
            ∙ ap (λ l. slice_set l (length xs) v) (w.written ∙ ap (λ k. xs ++ drop k old) (sym size))
            ∙ set_next xs old v fits
            ∙ ap (λ l. l ++ drop (length xs + 1) old) (ap (λ y. xs ++ y ∷ []) same
            ∙ sym (map-append f w.done (e ∷ [])))
            ∙ ap (λ k. map f (w.done ++ e ∷ []) ++ drop k old) after_done;
      }

  -- The same for a line of the text.
  pub line_written : (line : List ℕ) (next : ℕ) (to : List EntryValue)
      → IsWritten long text old new n count rest es → lines rest ≡ line ∷ lines more
      → rest ≡ without_lines n text → length es ≤ length old → length new ≡ length old
      → (next, to) ≡ put_entry (read_line long (n + 1) line) (length text - length rest) new count
      → IsWritten long text old to (n + 1) next more es
  line_written line next to w first at room len put =
      step (read_line long (n + 1) line) next to w (line_of long (n + 1) line)
      (ap (read_entries long (n + 1)) (sym first) ∙ w.unread_entries) at room len put

  -- After the last line, all entries are in the buffer.
  pub all_written : IsWritten long text old new n count rest es → lines rest ≡ []
      → new ≡ map (value_in text) es ++ drop (length es) old
  all_written w end =
      let none : w.more ≡ [] = ap entries_or_none (sym w.unread_entries
      ∙ ap (read_entries long (n + 1)) end) in
      let whole : es ≡ w.done = w.all ∙ ap (λ l. w.done ++ l) none ∙ append-nil w.done in
      w.written ∙ ap (λ l. map (value_in text) l ++ drop (length l) old) (sym whole)

-- Before the first line is read, no entry is written.
pub none_written : (long : LongDigest) (text : List ℕ) (old : List EntryValue) (es : List Entry)
    → read_list long text ≡ Ok es → IsWritten long text old old 0 0 text es
none_written long text old es read = record {
  done = [];
  more = es;
  all = refl;
  unread_entries = read;
  counted = refl;
  written = refl;
}
