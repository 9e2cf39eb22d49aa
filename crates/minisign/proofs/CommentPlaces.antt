-- Lemmas about the lines of a text, and about the positions of their contents in the text.
use Rattle.std.proofs.Common.{◌≡◌, ◌∙◌, ℕ, ◌+◌, ◌-◌, ◌<◌, ◌≤◌, ◌==◌, Bool, true, false, List, [], ◌∷◌, ◌++◌}
use Rattle.std.proofs.Common.{length, take, drop, slice_index, ap, sym, subst, arith, eqb, cond, ⊎_elim}
use Rattle.std.proofs.Common.{take-take, length-take-le, take_all, length-drop, drop-drop}
use Rattle.std.specs.Prelude.{slice_index_or}
use Rattle.minisign.proofs.Common.{drop-append_seam, trim_end, cases_lt, lines, lines_of_parts, slice_split}
use Rattle.minisign.proofs.Common.{strip_carriage_return, trim, trim_start}
use Rattle.std.proofs.lemmas.List.{drop-take, drop_all}
use Rattle.std.proofs.lemmas.List.Sums.{fails_before_first}
use Rattle.std.proofs.lemmas.List.Splits.{length-slice_split, slice_split_first, slice_split_none}
use Rattle.std.specs.List.{position_or_len, before_first}
use Rattle.minisign.proofs.WrittenLines.{lines_of_parts-cons}
use Rattle.minisign.specs.SignatureText.{IsAtOffset, after_first_line, comment_offset, comment_start}
use Rattle.minisign.specs.SignatureText.{SignatureText}
use Rattle.minisign.specs.SignatureText.{SignatureTextRecord, trusted_comment_label}

abbrev is_feed : ℕ → Bool
is_feed b = eqb b 10

-- == The first line and the text after it ==

-- A line without its carriage return is a prefix of the line.
strip_front : (l : List ℕ) → (take (length (strip_carriage_return l)) l ≡ strip_carriage_return l)
    × (length (strip_carriage_return l) ≤ length l)
strip_front l = by_cases (slice_index l (length l - 1) == 13)
  where
    by_cases : (b : Bool) → (take (length (cond b (take (length l - 1) l) l)) l
        ≡ cond b (take (length l - 1) l) l)
        × (length (cond b (take (length l - 1) l) l) ≤ length l)
    by_cases true =
        let n : length (take (length l - 1) l) ≡ length l - 1 = length-take-le (length l - 1) l
        (omega arith) in
        (ap (λ k. take k l) n, omega (arith, n))
    by_cases false = (take_all (length l) l (omega arith), omega arith)

-- If a text without a line feed has a first line, this line is the whole text and the only line.
only : (w x : List ℕ) (more : List (List ℕ)) (b : Bool) → cond b [] (w ∷ []) ≡ x ∷ more
    → (w ≡ x) × (lines [] ≡ more)
only w x more true h = cc h
only w x more false h = let none : ◌≡◌ {A = List (List ℕ)} [] more = cc h in (cc h, none)

-- The first line is a prefix of the text, and the other lines are those of the text after its line
-- feed.
pub front_line : (w x : List ℕ) (more : List (List ℕ)) → lines w ≡ x ∷ more → (take (length x) w ≡ x)
    × (lines (after_first_line w) ≡ more)
front_line w x more cut = ⊎_elim some none (cases_lt (position_or_len is_feed w) (length w))
  where
    some : position_or_len is_feed w < length w
        → (take (length x) w ≡ x) × (lines (after_first_line w) ≡ more)
    some l =
        let before = before_first is_feed w in
        let parts = slice_split_first is_feed w 0 l in
        let these : strip_carriage_return before ∷ lines (after_first_line w) ≡ x ∷ more =
        sym (ap lines_of_parts parts ∙ lines_of_parts-cons before (slice_split is_feed (after_first_line w))
        (omega (arith, length-slice_split is_feed (after_first_line w)))) ∙ cut in
        let same : strip_carriage_return before ≡ x = cc these in
        let rest : lines (after_first_line w) ≡ more = cc these in
        let front = strip_front before in
        let n : length before ≡ position_or_len is_feed w = length-take-le (position_or_len is_feed w) w
        (omega (arith, l)) in
        let at = sym (take-take _ (position_or_len is_feed w) w (omega (arith, n, front.1))) ∙ front.0 in
        (subst (λ (y : List ℕ). take (length y) w ≡ y) same at, rest)

    none : length w ≤ position_or_len is_feed w
        → (take (length x) w ≡ x) × (lines (after_first_line w) ≡ more)
    none l =
        let one = ap lines_of_parts (slice_split_none is_feed w
        (λ k d m. fails_before_first is_feed w k d (omega (arith, l, m)))) in
        let behind = drop_all (position_or_len is_feed w + 1) w (omega (arith, l)) in
        let these = only w x more (eqb (length w) 0) (sym one ∙ cut) in (
          subst (λ (y : List ℕ). take (length y) w ≡ y) these.0 (take_all (length w) w (omega arith)),
          ap lines behind ∙ these.1,
        )

-- == Positions ==

-- If s is a list after one of its prefixes, it begins at the length of the list minus the length of s.
pub behind_front : (n : ℕ) (xs s : List ℕ) → s ≡ drop n xs → drop (length xs - length s) xs ≡ s
behind_front n xs s is = ⊎_elim
    (λ l. ap (λ k. drop k xs) (omega (arith, l, ap length is, length-drop n xs)) ∙ sym is)
    (λ l. let empty = is ∙ drop_all n xs l in drop_all (length xs - length s) xs
    (omega (arith, ap length empty)) ∙ sym empty) (cases_lt n (length xs))

-- Bytes at an offset in the first line of a part, which reaches to the end of the text, are in the text at
-- this offset after the beginning of the part.
pub placed : (bytes line part text : List ℕ) (at n : ℕ) → IsAtOffset bytes line at → take (length line) part
    ≡ line → length line ≤ length part → part ≡ drop n text
    → IsAtOffset bytes text (length text - length part + at)
placed bytes line part text at n h front fits is =
    let many = h.within in
    let l = ap length is ∙ length-drop n text in
    record {
      within = omega (arith, many, fits, l);
      bytes_at_offset =
          ap (take (length bytes)) (drop-behind text part at n is)
          ∙ sym (drop-take at _ _)
          ∙ ap (drop at) (sym (take-take _ _ _ many)
          ∙ ap (take (at + length bytes)) front)
          ∙ drop-take at _ _
          ∙ h.bytes_at_offset;
    }
  where
    drop-behind : (text part : List ℕ) (at n : ℕ) → part ≡ drop n text
        → drop (length text - length part + at) text ≡ drop at part
    drop-behind text part at n is = sym (drop-drop at _ _)
        ∙ ap (drop at) (behind_front n _ _ is)

-- == The trusted comment ==

-- The position of the trimmed comment in a line with the label.
pub in_line : (line comment own rest trimmed : List ℕ) (n : ℕ) → line ≡ trusted_comment_label ++ comment
    → line ≡ trusted_comment_label ++ own
    → rest ≡ trim_start own → rest ≡ drop n own → trimmed ≡ trim_end rest
    → trimmed ≡ take (length trimmed) rest → length trimmed ≤ length rest
    → (length line - length rest ≡ comment_start line) × (length trimmed ≡ length (trim comment))
    × IsAtOffset (trim comment) line (length line - length rest)
in_line line comment own rest trimmed n labelled also begun at ended front fits =
    let label = length trusted_comment_label in
    let own_is = ap (drop label) also ∙ drop-append_seam trusted_comment_label _ in
    let comment_is = ap (drop label) labelled
    ∙ drop-append_seam trusted_comment_label _ in
    let same = ended ∙ ap trim_end begun ∙ ap trim (sym own_is ∙ comment_is) in
    let behind = at ∙ ap (drop n) (sym own_is) ∙ drop-drop n label line in
    let stands : IsAtOffset trimmed line (length line - length rest) = record {
      within = omega (arith, fits, ap length behind, length-drop (label + n) line);
      bytes_at_offset = ap (take (length trimmed)) (behind_front _ _ _ behind) ∙ sym front;
    } in (
      ap (λ l. length line - length l) (begun ∙ ap trim_start (sym own_is)),
      ap length same,
      rw same at stands,
    )

-- The offset and length of the trusted comment in a signature text, from its place in the third
-- line.
pub in_text : (text third line : List ℕ) (t : SignatureTextRecord) (start len : ℕ) → SignatureText text t
    → third ≡ after_first_line (after_first_line text)
    → line ≡ slice_index_or (lines third) 0 [] → length line ≤ length third
    → ((comment : List ℕ) → line ≡ trusted_comment_label ++ comment
    → (start ≡ comment_start line) × (len ≡ length (trim comment)) × IsAtOffset (trim comment) line start)
    → (length text - length third + start ≡ comment_offset text) × (len ≡ length t.comments.trusted)
    × IsAtOffset t.comments.trusted text (length text - length third + start)
unfolding comment_offset
in_text text third line t start _ h third_is line_is fits place =
    let second_on = (front_line text _ _ h.cut).1 in
    let third_on = (front_line (after_first_line text) _ _ second_on).1 in
    let cut = ap lines third_is ∙ third_on in
    let same = line_is ∙ ap (λ l. slice_index_or l 0 []) cut in
    let front =
    subst (λ (l : List ℕ). take (length l) third ≡ l) (sym same)
    (front_line third h.third (h.fourth ∷ h.later) cut).0 in
    let (comment, labelled, trimmed) = h.trusted_comment in
    let p = place comment (same ∙ labelled) in
    let one = position_or_len is_feed text + 1 in
    let two = position_or_len is_feed (after_first_line text) + 1 in
    let at = third_is ∙ drop-drop two one text in (
      ap (λ n. length text - length third + n) p.0
          ∙ ap (λ l. length text - length third + comment_start l) line_is
          ∙ ap (λ w. length text - length w + comment_start (slice_index_or (lines w) 0 [])) third_is,
      p.1 ∙ ap length trimmed,
      rw trimmed at (placed (trim comment) line third text start (one + two) p.2 front fits at),
    )
