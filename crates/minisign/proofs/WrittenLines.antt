-- Lemmas about texts that are written as lines and split into lines again: first lines, graphic characters,
-- and lines with labels. The numbers are codes of ASCII: 10 is a line feed, 13 a carriage return, 32 a space,
-- 48 the digit 0, and 61 the sign = that pads base64.
use Rattle.std.proofs.Common.{◌≡◌, ◌≢◌, ◌==◌, subst, ℕ, zero, suc, ◌+◌, ◌-◌, ◌<◌, ◌≤◌, Bool, true, false}
use Rattle.std.proofs.Common.{◌&&◌, List, [], ◌∷◌, ◌++◌, length, take, slice_index, refl, sym, ap, ◌∙◌}
use Rattle.std.proofs.Common.{arith, eqb, leb, ⊎_elim, ◌^◌, ◌*◌, ◌/◌, ◌%◌, replicate, nat_lt, get_or}
use Rattle.std.proofs.Common.{inl, inr, lit<, cond, ne_eqb, leb-true, length-append, get_or-append-add}
use Rattle.std.proofs.Common.{take_all, take-append-drop, length-drop, encode_utf8, encode_utf8_all, IsAscii}
use Rattle.std.proofs.Common.{All, w64, eq-eqb, eqb-true, append-nil, append_assoc}
use Rattle.minisign.proofs.Common.{and_parts, cases_lt, get_or-append_right, take-append-add, get_or_default}
use Rattle.minisign.proofs.Common.{nil_from_length, chars, drop_trailing_whitespace, trim, trim_end}
use Rattle.minisign.proofs.Common.{trim_start, chars_after, skip_leading_whitespace, NoCharPasses, LacksByte}
use Rattle.minisign.proofs.Common.{AllByRecursion, slice_split, lines, strip_carriage_return, lines_of_parts}
use Rattle.minisign.proofs.Common.{StripsCarriageReturn, IsFirstLine, standard, encode_symbols, IsInRange}
use Rattle.minisign.proofs.Common.{from_le_bytes, digit_glyph, digits, digits_onto, format_spec}
use Rattle.minisign.proofs.Common.{padded_integral, common_steps, IsBytes, key_id_text}
use Rattle.std.proofs.Math.ListN.{get_or-append}
use Rattle.std.proofs.lemmas.Str.{inside_one, len_utf8_bounds, length-encode, length-le-encodes}
use Rattle.std.proofs.lemmas.Str.{encodes-IsAscii, encode_ascii}
use Rattle.std.specs.Char.{is_whitespace, is_newline}
use Rattle.base64.proofs.Tables.{all_below_at}
use Rattle.std.proofs.lemmas.List.Splits.{slice_split_at, length-slice_split, slice_split_none}
use Rattle.std.proofs.lemmas.Str.Pattern.{NoCharPasses-char}
use borrow.Author.Tests.{tests}
use Rattle.minisign.specs.Texts.{line, base64_of}

-- If no character of a text is a line feed, no byte is.
no_newline : (bs : List ℕ) → NoCharPasses is_newline bs → All (λ b. eqb b 10 ≡ false) bs
no_newline bs h k d l = ne_eqb _ 10
    (λ z. NoCharPasses-char 10 bs k h (lit< tt) l (get_or_default bs k 0 d l ∙ z))

-- The function strip_carriage_return meets its specification, the relation StripsCarriageReturn.
stripped : (l x : List ℕ) → StripsCarriageReturn l x → strip_carriage_return l ≡ x
stripped [] x (inl h) = sym h.0
stripped (b ∷ l) x (inl h) = ap (λ t. cond t (take (length (b ∷ l) - 1) (b ∷ l)) (b ∷ l))
    (ne_eqb _ 13 (h.1 (omega arith))) ∙ sym h.0
stripped l x (inr e) =
    let last : get_or l (length l - 1) 0 ≡ 13 = grind (arith, common_steps) in
    let front : take (length l - 1) l ≡ x = grind (arith, common_steps) in
    ap (λ t. cond t (take (length l - 1) l) l) (eq-eqb _ 13 last) ∙ front

-- The first part gives the first line, without a carriage return at its end.
pub lines_of_parts-cons : (x : List ℕ) (parts : List (List ℕ)) → 0 < length parts → lines_of_parts (x ∷ parts)
    ≡ strip_carriage_return x ∷ lines_of_parts parts
lines_of_parts-cons x [] l = absurd (omega arith)
lines_of_parts-cons x (y ∷ _) l = refl

-- The lines of a text are its first line followed by the lines of the rest.
pub lines_first : (w x rest : List ℕ) → 0 < length w → IsFirstLine w x rest → lines w ≡ x ∷ lines rest
lines_first w x rest some h =
    let n = h.0 in
    let p = λ (b : ℕ). eqb b 10 in
    let front = no_newline (take n w) h.1 in
    ⊎_elim
    (λ l. let o = h.2 (omega (arith, length-drop n w)) in
    let after = o.2 ∙ ap (λ d. encode_utf8 d ++ rest) (eqb-true o.0 10 o.1)
    ∙ ap (λ v. v ++ rest) (encode_ascii 10 (lit< tt)) in
    ap lines (sym (take-append-drop n w) ∙ ap (λ v. take n w ++ v) after)
    ∙ ap lines_of_parts (slice_split_at p (take n w) 10 rest front refl)
    ∙ lines_of_parts-cons (take n w) (slice_split p rest) (omega (arith, length-slice_split p rest))
    ∙ ap (λ v. v ∷ lines rest) (stripped (take n w) x (h.5 l)))
    (λ l. let fits : n + length rest ≤ length w = h.3 in
    ap lines_of_parts (slice_split_none p w (subst (All (λ b. eqb b 10 ≡ false)) (take_all n w l) front))
    ∙ ap (λ t. cond t [] (w ∷ [])) (ne_eqb (length w) 0 (λ z. omega arith))
    ∙ (λ i. sym (h.4 (omega arith)) i ∷ lines (sym (nil_from_length rest (omega arith)) i)))
    (cases_lt n (length w))

-- A text is split after its first line feed.
pub lines-cut : (x rest : List ℕ) → All (λ b. eqb b 10 ≡ false) x → lines (x ++ (10 ∷ rest))
    ≡ strip_carriage_return x ∷ lines rest
lines-cut x rest front =
    ap lines_of_parts (slice_split_at (λ b. eqb b 10) x 10 rest front refl) ∙ lines_of_parts-cons x
    _ (omega (arith, length-slice_split (λ b. eqb b 10) rest))

-- A graphic ASCII character, from ! (33) to ~ (126). It is neither a line feed nor white space.
abbrev pub IsGraphic : ℕ → Type 0
IsGraphic c = IsInRange 33 126 c

abbrev pub AllGraphic : List ℕ → Type 0
AllGraphic xs = AllByRecursion IsGraphic xs

-- If each character of two texts has a property, each character of their concatenation has it too.
pub each_append : (P : ℕ → Type 0) (xs ys : List ℕ) → AllByRecursion P xs → AllByRecursion P ys
    → AllByRecursion P (xs ++ ys)
each_append P [] _ h k = k
each_append P (x ∷ xs) ys h k = (h.0, each_append P xs ys h.1 k)

-- All characters of a text pass a test.
abbrev pub all_pass : (ℕ → Bool) → List ℕ → Bool
all_pass _ [] = true
all_pass test (c ∷ cs) = test c && all_pass test cs

-- If each character of a text passes a test that implies P, P holds for each character.
pub each_passes : (test : ℕ → Bool) (P : ℕ → Type 0) → ((c : ℕ) → test c ≡ true → P c) → (xs : List ℕ)
    → all_pass test xs ≡ true → AllByRecursion P xs
each_passes _ P _ [] h = tt
each_passes _ P holds (x ∷ xs) h =
    let (first, others) = and_parts _ _ h in
    (holds x first, each_passes _ P holds xs others)

-- The 64 characters of base64, without the padding character =.
abbrev base64_symbols : List ℕ
base64_symbols = standard.encode_table

abbrev is_graphic : ℕ → Bool
is_graphic c = leb 33 c && leb c 126

graphic_from : (c : ℕ) → is_graphic c ≡ true → IsGraphic c
graphic_from c h = grind (arith, common_steps)

-- If `is_graphic` is true for all characters of a text, AllGraphic holds. If the text is a literal, `refl`
-- proves this premise.
pub graphic_codes : (xs : List ℕ) → all_pass is_graphic xs ≡ true → AllGraphic xs
graphic_codes = each_passes _ _ graphic_from

graphic_symbol_at : (i : ℕ) → i < 64 → IsGraphic (slice_index base64_symbols i)
graphic_symbol_at i l =
    graphic_from _ (all_below_at (λ i. is_graphic (slice_index base64_symbols i)) 64 i refl l)

graphic_symbols : (m : List ℕ) → IsBytes m → AllGraphic (encode_symbols base64_symbols m)
unfolding encode_symbols
graphic_symbols [] h = tt
graphic_symbols (a ∷ []) h =
    let la : a < 256 = h 0 in
    (graphic_symbol_at (a / 4) (omega arith), (graphic_symbol_at (a % 4 * 16) (omega arith), tt))
graphic_symbols (a ∷ b ∷ []) h =
    let la : a < 256 = h 0 in
    let lb : b < 256 = h 1 in (
      graphic_symbol_at (a / 4) (omega arith),
      (
        graphic_symbol_at (a % 4 * 16 + b / 16) (omega arith),
        (graphic_symbol_at (b % 16 * 4) (omega arith), tt),
      ),
    )
graphic_symbols (a ∷ b ∷ c ∷ rest) h =
    let la : a < 256 = h 0 in
    let lb : b < 256 = h 1 in
    let lc : c < 256 = h 2 in (
      graphic_symbol_at (a / 4) (omega arith),
      (
        graphic_symbol_at (a % 4 * 16 + b / 16) (omega arith),
        (
          graphic_symbol_at (b % 16 * 4 + c / 64) (omega arith),
          (
            graphic_symbol_at (c % 64) (omega arith),
            graphic_symbols rest (λ i. h (suc (suc (suc i)))),
          ),
        ),
      ),
    )

graphic_replicate : (n c : ℕ) → IsGraphic c → AllGraphic (replicate n c)
graphic_replicate zero c h = tt
graphic_replicate (suc n) c h = (h, graphic_replicate n c h)

-- No character of base64 is a line feed or white space.
pub graphic_base64 : (m : List ℕ) → IsBytes m → AllGraphic (base64_of m)
unfolding base64_of
graphic_base64 m h = each_append _ _ _ (graphic_symbols m h)
    (graphic_replicate _ 61 (omega arith, omega arith))

-- The hexadecimal digits of a key ID are graphic too.
graphic_digit : (d : ℕ) → d < 16 → IsGraphic (digit_glyph true d)
graphic_digit d l = grind (arith, common_steps)

graphic_digits : (k n : ℕ) (acc : List ℕ) → AllGraphic acc → AllGraphic (digits_onto k 16 true n acc)
graphic_digits zero n _ h = h
graphic_digits (suc k) n acc h =
    let digit = graphic_digit _ (omega arith) in
    elim (n / 16 == 0) as (λ b. AllGraphic (cond b (digit_glyph true (n % 16) ∷ acc)
    (digits_onto k 16 true (n / 16) (digit_glyph true (n % 16) ∷ acc)))) [
      | true ↦ (digit, h)
      | false ↦ graphic_digits k _ _ (digit, h)
    ]

-- A number that is padded to 16 digits consists of graphic characters. The arguments of format_spec stand for
-- the format {:016X}: the fill character (a space), no alignment, the flag 0, the width, and no precision.
graphic_padded : (numeral : List ℕ) → AllGraphic numeral
    → AllGraphic (padded_integral (format_spec 32 0 4 16 (2 ^ 64 - 1)) false [] numeral)
unfolding padded_integral
graphic_padded numeral h =
    let sixteen = format_spec 32 0 4 16 (2 ^ 64 - 1) in
    each_append _ _ _ (graphic_replicate _ 48 (omega arith, omega arith)) (each_append _ _ [] h tt)

pub graphic_key_id : (id : List ℕ) → AllGraphic (key_id_text id)
unfolding key_id_text digits
graphic_key_id id = graphic_padded _ (graphic_digits 64 (from_le_bytes w64 id) [] tt)

-- A graphic character is not white space, so trimming does not change a text of graphic characters. The
-- lemmas up to `trim_graphic` prove this for each function that trimming calls.
not_white_space : (c : ℕ) → IsGraphic c → is_whitespace c ≡ false
not_white_space c h = grind (arith, common_steps, tests)

ascii_graphic : (xs : List ℕ) → AllGraphic xs → IsAscii xs
ascii_graphic [] h i = omega arith
ascii_graphic (x ∷ xs) h zero = omega (arith, h.0.1)
ascii_graphic (x ∷ xs) h (suc i) = ascii_graphic xs h.1 i

chars_after_graphic : (c : ℕ) (xs : List ℕ) → AllGraphic xs → chars_after 0 c xs ≡ c ∷ xs
chars_after_graphic c [] h = refl
chars_after_graphic c (x ∷ xs) h =
    let low : nat_lt x 128 ≡ true = grind (arith, common_steps, tests) in
    ap (λ l. c ∷ l) (rw low (chars_after_graphic x xs h.1))

chars_graphic : (xs : List ℕ) → AllGraphic xs → chars xs ≡ xs
unfolding chars
chars_graphic [] h = refl
chars_graphic (x ∷ xs) h =
    let low : nat_lt x 128 ≡ true = grind (arith, common_steps, tests) in
    rw low (chars_after_graphic x xs h.1)

skip_leading_whitespace_graphic : (xs : List ℕ) → AllGraphic xs → skip_leading_whitespace xs ≡ xs
skip_leading_whitespace_graphic [] h = refl
skip_leading_whitespace_graphic (x ∷ _) h = rw (not_white_space x h.0) refl

drop_trailing_whitespace_graphic : (xs : List ℕ) → AllGraphic xs → drop_trailing_whitespace xs ≡ xs
drop_trailing_whitespace_graphic [] h = refl
drop_trailing_whitespace_graphic (x ∷ xs) h =
    rw (not_white_space x h.0) (ap (λ l. x ∷ l) (drop_trailing_whitespace_graphic xs h.1))

pub trim_graphic : (xs : List ℕ) → AllGraphic xs → trim xs ≡ xs
unfolding trim_start trim_end
trim_graphic xs h =
    let written = encodes-IsAscii xs (ascii_graphic xs h) in
    rw (
      chars_graphic xs h,
      skip_leading_whitespace_graphic xs h,
      written,
      chars_graphic xs h,
      drop_trailing_whitespace_graphic xs h,
      written,
    ) refl

-- A text that can be a line: it has no line feed, and no carriage return at its end.
pub record IsOneLine (x : List ℕ) : Type 0 where
  pub no_feed : (k : ℕ) → k < length x → slice_index x k ≢ 10
  pub no_return : slice_index x (length x - 1) ≢ 13

no_feeds : (x : List ℕ) → ((k : ℕ) → k < length x → slice_index x k ≢ 10) → All (λ b. eqb b 10 ≡ false) x
no_feeds x h k d l = ne_eqb _ 10 (λ z. h k l (get_or_default x k 0 d l ∙ z))

-- Splitting x, a line feed and a text into lines gives x and then the lines of the text, if x can be a line.
-- (`line x` is x with a line feed.)
pub lines_line : (x rest : List ℕ) → IsOneLine x → lines (line x ++ rest) ≡ x ∷ lines rest
lines_line x rest h = ap lines (append_assoc x (10 ∷ []) rest) ∙ lines-cut x _ (no_feeds x h.no_feed)
    ∙ ap (λ b. b ∷ lines rest) (ap (λ t. cond t (take (length x - 1) x) x) (ne_eqb _ 13 h.no_return))

-- Splitting x and a line feed gives only the line x, if x can be a line.
pub lines_last : (x : List ℕ) → IsOneLine x → lines (line x) ≡ x ∷ []
lines_last x h = ap lines (sym (append-nil (line x))) ∙ lines_line x [] h

-- No character has a code below 32, the code of the space, so there is no line feed and no carriage return.
-- The character DEL (127) is allowed.
abbrev pub LacksControls : List ℕ → Type 0
LacksControls xs = AllByRecursion (λ c. 32 ≤ c) xs

-- Graphic characters are not control characters.
pub lacks_controls_graphic : (xs : List ℕ) → AllGraphic xs → LacksControls xs
lacks_controls_graphic [] h = tt
lacks_controls_graphic (x ∷ xs) h = (omega (arith, h.0.0), lacks_controls_graphic xs h.1)

lacks_controls_at : (xs : List ℕ) (k : ℕ) → LacksControls xs → k < length xs → 32 ≤ slice_index xs k
lacks_controls_at [] k h l = absurd (omega arith)
lacks_controls_at (x ∷ _) zero h l = h.0
lacks_controls_at (x ∷ xs) (suc k) h l = lacks_controls_at xs k h.1 (omega arith)

-- A text without control characters can be a line.
pub one_line_without_controls : (x : List ℕ) → LacksControls x → IsOneLine x
one_line_without_controls [] h =
    record { no_feed = λ k l. absurd (omega arith); no_return = λ e. absurd (omega arith) }
one_line_without_controls (x ∷ xs) h = record {
  no_feed = λ k l e. absurd (omega (arith, e, lacks_controls_at (x ∷ xs) k h l));
  no_return =
      λ e. absurd (omega (arith, e, lacks_controls_at (x ∷ xs) (length (x ∷ xs) - 1) h (omega arith)));
}

-- If `leb 32` is true for all characters of a text, LacksControls holds. If the text is a literal, `refl`
-- proves this premise.
pub lacks_controls_codes : (xs : List ℕ) → all_pass (leb 32) xs ≡ true → LacksControls xs
lacks_controls_codes = each_passes _ _ (leb-true 32)

-- The line of a label and a text, followed by a rest, is the label followed by the text, a line feed and
-- the rest.
pub labelled : (label x rest : List ℕ) → line (label ++ x) ++ rest ≡ label ++ (x ++ (10 ∷ rest))
labelled label x rest = append_assoc (label ++ x) (10 ∷ []) rest ∙ append_assoc label x (10 ∷ rest)

last_append : (xs ys : List ℕ) → 0 < length ys → slice_index (xs ++ ys) (length (xs ++ ys) - 1)
    ≡ slice_index ys (length ys - 1)
last_append xs ys some =
    let at : length (xs ++ ys) - 1 ≡ length xs + (length ys - 1) = omega (arith, length-append xs ys) in
    ap (λ n. slice_index (xs ++ ys) n) at ∙ get_or-append-add xs _ _ _

-- A line with a label has no line feed.
labelled_no_feed : (label x : List ℕ) → LacksControls label → LacksByte 10 x → (k : ℕ)
    → k < length (label ++ x)
    → slice_index (label ++ x) k ≢ 10
labelled_no_feed label x no_controls lacks k l e = ⊎_elim
    (λ before. absurd
    (omega (arith, lacks_controls_at label k no_controls before, get_or-append label x 0 k before, e)))
    (λ behind. lacks (k - length label) (omega (arith, l, length-append label x))
    (sym (get_or-append_right _ x k 0 behind) ∙ e)) (cases_lt k (length label))

-- A label and a text that has no line feed and no carriage return at its end are together one line.
pub labelled_one_line : (label x : List ℕ) → LacksControls label → 0 < length label → LacksByte 10 x
    → slice_index x (length x - 1) ≢ 13 → IsOneLine (label ++ x)
labelled_one_line label x no_controls some lacks end = record {
  no_feed = labelled_no_feed label x no_controls lacks;
  no_return = last_is_not_cr x lacks end;
}
  where
    last_is_not_cr : (x : List ℕ) → LacksByte 10 x → slice_index x (length x - 1) ≢ 13
        → slice_index (label ++ x) (length (label ++ x) - 1) ≢ 13
    last_is_not_cr [] lacks end e =
        let at = subst (λ (t : List ℕ). slice_index t (length t - 1) ≡ 13) (append-nil label) e in
        absurd (omega (arith, at, lacks_controls_at label (length label - 1) no_controls (omega arith)))
    last_is_not_cr (y ∷ ys) lacks end e = end (sym (last_append label (y ∷ ys) (omega arith)) ∙ e)

-- A label does not end in a carriage return.
label_end_is_not_cr : (label : List ℕ) → LacksControls label → 0 < length label
    → slice_index (label ++ []) (length (label ++ []) - 1) ≢ 13
label_end_is_not_cr label no_controls some =
    (labelled_one_line _ [] no_controls some (λ k l. absurd (omega arith))
    (λ e. absurd (omega arith))).no_return

-- Removing a carriage return at the end of a label and a text gives the label and the text without a
-- carriage return at its end.
pub strip_labelled : (label x : List ℕ) → LacksControls label → 0 < length label
    → strip_carriage_return (label ++ x) ≡ label ++ strip_carriage_return x
strip_labelled label [] no_controls some =
    ap (λ t. cond t (take (length (label ++ []) - 1) (label ++ [])) (label ++ []))
    (ne_eqb _ 13 (label_end_is_not_cr _ no_controls some))
strip_labelled label (y ∷ ys) no_controls some =
    ap (λ n. cond (eqb n 13) (take (length (label ++ y ∷ ys) - 1) (label ++ y ∷ ys)) (label ++ y ∷ ys))
    (last_append label _ (omega arith))
    ∙ step (eqb (slice_index (y ∷ ys) (length (y ∷ ys) - 1)) 13)
  where
    shorter : length (label ++ y ∷ ys) - 1 ≡ length label + (length (y ∷ ys) - 1)
    shorter = omega (arith, length-append label (y ∷ ys))

    step : (b : Bool) → cond b (take (length (label ++ y ∷ ys) - 1) (label ++ y ∷ ys)) (label ++ y ∷ ys)
        ≡ label ++ cond b (take (length (y ∷ ys) - 1) (y ∷ ys)) (y ∷ ys)
    step true = ap (λ n. take n (label ++ y ∷ ys)) shorter ∙ take-append-add label (y ∷ ys)
        (length (y ∷ ys) - 1)
    step false = refl

-- If a text begins with a label, a text x without a line feed, and a line feed, its first line is the label
-- followed by x, without the carriage return at the end of x if there is one. Its other lines are those of
-- the rest.
pub lines_labelled : (label x rest : List ℕ) → LacksControls label → 0 < length label → LacksByte 10 x
    → lines (line (label ++ x) ++ rest) ≡ (label ++ strip_carriage_return x) ∷ lines rest
lines_labelled label x rest no_controls some lacks =
    ap lines (append_assoc (label ++ x) (10 ∷ []) rest) ∙ lines-cut _ _
    (no_feeds _ (labelled_no_feed _ x no_controls lacks))
    ∙ ap (λ b. b ∷ lines rest) (strip_labelled _ x no_controls some)

-- Removing a carriage return at the end does not change a text that does not end in one.
pub strip_none : (x : List ℕ) → slice_index x (length x - 1) ≢ 13 → strip_carriage_return x ≡ x
strip_none x other = ap (λ t. cond t (take (length x - 1) x) x) (ne_eqb _ 13 other)

-- The encoding of a character that is not white space does not end in a carriage return.
last_byte_of_char : (c : ℕ) → is_whitespace c ≡ false
    → slice_index (encode_utf8 c) (length (encode_utf8 c) - 1) ≢ 13
last_byte_of_char c not_white_space e =
    let some : 0 < length (encode_utf8 c) = omega (arith, length-encode c, (len_utf8_bounds c).0) in
    let same : c ≡ slice_index (encode_utf8 c) (length (encode_utf8 c) - 1) = inside_one c []
    (encode_utf8 c) _ (sym (append-nil _)) (omega arith) (omega (arith, e)) in
    let no = sym not_white_space ∙ ap is_whitespace (same ∙ e) in
    cc no

-- A text without white space at its end does not end in a carriage return.
last_not_white_space : (cs : List ℕ) → slice_index (encode_utf8_all (drop_trailing_whitespace cs))
    (length (encode_utf8_all (drop_trailing_whitespace cs)) - 1) ≢ 13
last_not_white_space [] = λ e. absurd (omega arith)
last_not_white_space (c ∷ cs) =
    step (drop_trailing_whitespace cs) (is_whitespace c) refl (last_not_white_space cs)
  where
    step : (ds : List ℕ) (white : Bool) → is_whitespace c ≡ white
        → slice_index (encode_utf8_all ds) (length (encode_utf8_all ds) - 1) ≢ 13
        → slice_index (encode_utf8_all (cond (white && length ds == 0) [] (c ∷ ds)))
        (length (encode_utf8_all (cond (white && length ds == 0) [] (c ∷ ds))) - 1) ≢ 13
    step [] true is others = λ e. absurd (omega arith)
    step [] false is others = (rw (sym (append-nil (encode_utf8 c))) at (last_byte_of_char c is))
    step (d ∷ ds) true is others =
        let more : length (d ∷ ds) == 0 ≡ false = ne_eqb _ 0 (λ z. absurd (omega arith)) in
        rw more (λ e. others (sym (last_append (encode_utf8 c) (encode_utf8_all (d ∷ ds))
        (omega (arith, length-le-encodes (d ∷ ds)))) ∙ e))
    step (d ∷ ds) false is others = λ e. others (sym (last_append (encode_utf8 c) (encode_utf8_all (d ∷ ds))
        (omega (arith, length-le-encodes (d ∷ ds)))) ∙ e)

-- A trimmed text does not end in a carriage return.
pub trimmed_end : (t : List ℕ) → trim t ≡ t → slice_index t (length t - 1) ≢ 13
unfolding trim_end
trimmed_end t same = rw same at (last_not_white_space (chars (trim_start t)))
