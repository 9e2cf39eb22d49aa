-- Proof that the line which is written for an entry parses to this entry.
use Rattle.std.specs.Prelude.{Option, Some, None, Ok, bytes_eq, codes, nat_le}
use Rattle.std.specs.Prelude.{slice_index}
use Rattle.std.specs.List.{list_any}
use Rattle.std.proofs.Common.{◌≡◌, ◌==◌, ◌&&◌, ◌∙◌, ◌+◌, ◌-◌, ◌*◌, ◌/◌, ◌%◌, ◌<◌, ℕ, zero, suc, Bool}
use Rattle.std.proofs.Common.{true, false, List, [], ◌∷◌, ◌++◌}
use Rattle.std.proofs.Common.{refl, ap, sym, cond, length, take, drop, arith, inl, inr}
use Rattle.std.proofs.lemmas.Bool.{cases_Bool, eqb-true, le-leb}
use Rattle.std.proofs.lemmas.List.Folds.{list_any-append}
use Rattle.std.proofs.lemmas.List.{append_assoc, drop_at, take_at, length-append}
use Rattle.hex.specs.Hex.{IsBytes, encode_lower, encode_with, lower_digits}
use Rattle.hex.proofs.HexLemmas.{decode_sized-encode_lower, length-encode_with}
use Rattle.minisign_lists.specs.Digests.{Algorithm, ListedDigest}
use Rattle.minisign_lists.specs.declared.digests.Algorithm.TheVariants as algorithm
use Rattle.minisign_lists.specs.declared.digests.ListedDigest.TheVariants as listed
use Rattle.minisign_lists.specs.Lines.{LongDigest, NamedDigest, digit_count, label, named}
use Rattle.minisign_lists.specs.Lines.{read_line}
use Rattle.minisign_lists.specs.Lines.{is_comment, begins_with_backslash, tagged_form, written_in}
use Rattle.minisign_lists.specs.Names.{is_control, is_path, without_dot}
use Rattle.minisign_lists.specs.Values.{algorithm_of}
use Rattle.minisign_lists.specs.Writing.{bytes_of, digest_size, line_end, written_entry, written_line}
use Rattle.minisign_lists.proofs.MoreLines.{or_left, or_right}

-- == Names ==

-- A path does not begin with ./
dot : (m : List ℕ) → is_path (46 ∷ 47 ∷ m) ≡ true → ⊥
dot m h = cc h

-- A path does not begin with `./`, so `without_dot` does not change it.
pub path_kept : (m : List ℕ) → is_path m ≡ true → without_dot m ≡ m
path_kept [] h = refl
path_kept (a ∷ []) h = elim (cases_Bool (a == 46)) [
  | inl is ↦ rw is refl
  | inr is ↦ rw is refl
]
path_kept (a ∷ b ∷ m) h = elim (cases_Bool (a == 46)) [
  | inl first ↦ elim (cases_Bool (b == 47)) [
    | inl second ↦ absurd (dot m (rw (eqb-true a 46 first, eqb-true b 47 second) at h))
    | inr second ↦ rw (first, second) refl
  ]
  | inr first ↦ rw first refl
]

-- == Control characters ==

-- No byte of a text without control characters is a control character.
clean_at : (x : List ℕ) (i : ℕ) → list_any is_control x ≡ false → i < length x
    → is_control (slice_index x i) ≡ false
clean_at [] i h within = absurd (omega (arith, within))
clean_at (b ∷ x) zero h within = or_left (is_control b) (list_any is_control x) h
clean_at (b ∷ x) (suc i) h within = clean_at x i (or_right (is_control b) (list_any is_control x) h) (omega
    (arith, within))

digits_clean : (bs : List ℕ) → IsBytes bs → list_any is_control (encode_with lower_digits bs) ≡ false
unfolding encode_with
digits_clean [] h = refl
digits_clean (b ∷ bs) h =
    let byte : b < 256 = h 0 in
    let high = clean_at lower_digits (b / 16) refl (omega (arith, byte)) in
    let low = clean_at lower_digits (b % 16) refl (omega (arith, byte)) in
    rw (high, low) (digits_clean bs (λ i. h (suc i)))

-- == The line ==

-- The line of an entry without its line feed.
abbrev pub line_text : ListedDigest → List ℕ → List ℕ
line_text d m = label (algorithm_of d) ++ (m ++ (codes ") = " ++ encode_lower (bytes_of d)))

label_clean : (a : Algorithm) → list_any is_control (label a) ≡ false
label_clean algorithm.Sha256 = refl
label_clean algorithm.Sha512 = refl
label_clean algorithm.Blake2b = refl

-- The line contains no control characters and is not empty (line_some).
pub line_clean : (d : ListedDigest) (m : List ℕ) → IsBytes (bytes_of d) → list_any is_control m ≡ false
    → list_any is_control (line_text d m) ≡ false
line_clean d m bytes name =
    let digits = digits_clean (bytes_of d) bytes in
    let end : list_any is_control (codes ") = " ++ encode_lower (bytes_of d)) ≡ false =
    list_any-append is_control (codes ") = ") (encode_lower (bytes_of d)) ∙ digits in
    let behind : list_any is_control (m ++ (codes ") = " ++ encode_lower (bytes_of d))) ≡ false =
    list_any-append is_control m (codes ") = " ++ encode_lower (bytes_of d)) ∙ rw (name, end) refl in
    list_any-append is_control (label (algorithm_of d)) (m ++ (codes ") = " ++ encode_lower (bytes_of d)))
    ∙ rw (label_clean (algorithm_of d), behind) refl

-- The written line is the line's text, followed by a line feed.
pub line_whole : (d : ListedDigest) (m : List ℕ) → written_line d m ≡ line_text d m ++ 10 ∷ []
line_whole d m =
    let l = label (algorithm_of d) in
    let hex = encode_lower (bytes_of d) in
    let end : line_end d ≡ (codes ") = " ++ hex) ++ 10 ∷ [] = sym (append_assoc (codes ") = ") hex
    (10 ∷ [])) in
    ap (λ t. l ++ (m ++ t)) end
    ∙ ap (λ t. l ++ t) (sym (append_assoc m (codes ") = " ++ hex) (10 ∷ [])))
    ∙ sym (append_assoc l (m ++ (codes ") = " ++ hex)) (10 ∷ []))

-- The length of the line.
pub line_length : (d : ListedDigest) (m : List ℕ) → length (written_line d m)
    ≡ length (label (algorithm_of d)) + 5 + 2 * length (bytes_of d) + length m
line_length d m =
    let hex = encode_lower (bytes_of d) in
    let digits : length hex ≡ 2 * length (bytes_of d) = length-encode_with lower_digits (bytes_of d) in
    let feed : length (hex ++ 10 ∷ []) ≡ length hex + 1 = length-append hex (10 ∷ []) in
    let end : length (line_end d) ≡ 4 + length (hex ++ 10 ∷ []) = length-append (codes ") = ") (hex
    ++ 10 ∷ []) in
    let behind = length-append m (line_end d) in
    let whole = length-append (label (algorithm_of d)) (m ++ line_end d) in
    omega (arith, digits, feed, end, behind, whole)

pub line_some : (d : ListedDigest) (m : List ℕ) → 0 < length (line_text d m)
line_some (listed.Sha256 bytes) m = omega arith
line_some (listed.Sha512 bytes) m = omega arith
line_some (listed.Blake2b bytes) m = omega arith

-- == Forms ==

same_label : (a : Algorithm) → bytes_eq (label a) (label a) ≡ true
same_label algorithm.Sha256 = refl
same_label algorithm.Sha512 = refl
same_label algorithm.Blake2b = refl

none_if : (p q r : Bool) (w : Option NamedDigest) → q ≡ false → cond (p && (q && r)) w None ≡ None
none_if true q r w h = rw h refl
none_if false q r w h = refl

-- A line that does not begin with the label of a hash function does not have the tagged form of
-- this hash function.
other_tag : (a : Algorithm) (line : List ℕ) → bytes_eq (take (length (label a)) line) (label a) ≡ false
    → tagged_form a line ≡ None
other_tag a line h = none_if _ _ _ _ h

-- A line of the tagged form parses to its name and its digits.
tagged : (a : Algorithm) (m digits : List ℕ) → length digits ≡ digit_count a
    → tagged_form a (label a ++ (m ++ (codes ") = " ++ digits))) ≡ named a digits m (length (label a))
tagged a m digits size =
    let begin = length (label a) in
    let end = codes ") = " ++ digits in
    let line = label a ++ (m ++ end) in
    let after : drop begin line ≡ m ++ end = drop_at (label a) (m ++ end) begin refl in
    let ends : length end ≡ 4 + digit_count a = omega (arith, size) in
    let longer : length (m ++ end) ≡ length m + length end = length-append m end in
    let whole : length line ≡ begin + length (m ++ end) = length-append (label a) (m ++ end) in
    let name : length (m ++ end) - (digit_count a + 4) ≡ length m = omega (arith, ends, longer) in
    let fits : nat_le (begin + 4 + digit_count a) (length line) ≡ true =
    le-leb (begin + 4 + digit_count a) (length line) (omega (arith, ends, longer, whole)) in
    rw (
      after,
      name,
      drop_at m end (length m) refl,
      take_at m end (length m) refl,
      take_at (label a) (m ++ end) begin refl,
      fits,
      same_label a,
    ) refl

-- The digest and the name on the line.
abbrev on_line : ListedDigest → List ℕ → NamedDigest
on_line d m = record { digest = d; name = m; start = length (label (algorithm_of d)) }

module _ (l : LongDigest) (m bytes : List ℕ) (are : IsBytes bytes) where
  long_digits : (n : ℕ) → length bytes ≡ n → length (encode_lower bytes) ≡ n + n
  long_digits n size = length-encode_with lower_digits bytes ∙ omega (arith, size)

  of_sha256 : length bytes ≡ 32 → written_in l (line_text (listed.Sha256 bytes) m)
      ≡ Some (on_line (listed.Sha256 bytes) m)
  of_sha256 size =
      let read = decode_sized-encode_lower bytes 32 size are in
      let first : tagged_form algorithm.Sha256 (line_text (listed.Sha256 bytes) m)
      ≡ Some (on_line (listed.Sha256 bytes) m) =
      tagged algorithm.Sha256 m (encode_lower bytes) (long_digits 32 size) ∙ rw read refl in
      rw first refl

  of_sha512 : length bytes ≡ 64 → written_in l (line_text (listed.Sha512 bytes) m)
      ≡ Some (on_line (listed.Sha512 bytes) m)
  of_sha512 size =
      let line = line_text (listed.Sha512 bytes) m in
      let read = decode_sized-encode_lower bytes 64 size are in
      let first : tagged_form algorithm.Sha256 line ≡ None = other_tag algorithm.Sha256 line refl in
      let second : tagged_form algorithm.Sha512 line ≡ Some (on_line (listed.Sha512 bytes) m) =
      tagged algorithm.Sha512 m (encode_lower bytes) (long_digits 64 size) ∙ rw read refl in
      rw (first, second) refl

  of_blake2b : length bytes ≡ 64 → written_in l (line_text (listed.Blake2b bytes) m)
      ≡ Some (on_line (listed.Blake2b bytes) m)
  of_blake2b size =
      let line = line_text (listed.Blake2b bytes) m in
      let read = decode_sized-encode_lower bytes 64 size are in
      let first : tagged_form algorithm.Sha256 line ≡ None = other_tag algorithm.Sha256 line refl in
      let second : tagged_form algorithm.Sha512 line ≡ None = other_tag algorithm.Sha512 line refl in
      let third : tagged_form algorithm.Blake2b line ≡ Some (on_line (listed.Blake2b bytes) m) =
      tagged algorithm.Blake2b m (encode_lower bytes) (long_digits 64 size) ∙ rw read refl in
      rw (first, second, third) refl

-- The line has one of the forms, with this digest and this name.
written : (l : LongDigest) (d : ListedDigest) (m : List ℕ) → IsBytes (bytes_of d)
    → length (bytes_of d) ≡ digest_size d
    → written_in l (line_text d m) ≡ Some (on_line d m)
written l (listed.Sha256 bytes) m are size = of_sha256 l m bytes are size
written l (listed.Sha512 bytes) m are size = of_sha512 l m bytes are size
written l (listed.Blake2b bytes) m are size = of_blake2b l m bytes are size

-- The line is not a comment, and does not begin with a backslash.
not_comment : (d : ListedDigest) (m : List ℕ) → is_comment (line_text d m) ≡ false
not_comment (listed.Sha256 bytes) m = refl
not_comment (listed.Sha512 bytes) m = refl
not_comment (listed.Blake2b bytes) m = refl

-- The line does not begin with a backslash.
not_marked : (d : ListedDigest) (m : List ℕ) → begins_with_backslash (line_text d m) ≡ false
not_marked (listed.Sha256 bytes) m = refl
not_marked (listed.Sha512 bytes) m = refl
not_marked (listed.Blake2b bytes) m = refl

-- The line parses to its entry.
pub line_read : (l : LongDigest) (n : ℕ) (d : ListedDigest) (m : List ℕ) → IsBytes (bytes_of d)
    → length (bytes_of d) ≡ digest_size d → list_any is_control m ≡ false → is_path m ≡ true
    → read_line l n (line_text d m) ≡ Ok (Some (written_entry n d m))
line_read l n d m are size clean path =
    let same_path = path_kept m path in
    let begin = length (label (algorithm_of d)) in
    let at : 0 + begin + (length m - length m) ≡ begin = omega arith in
    rw (line_clean d m are clean, not_comment d m, not_marked d m, written l d m are size)
    (rw (same_path, path) (ap (λ k. Ok (Some (record {
      line = n;
      digest = d;
      name = m;
      start = k;
      escaped =
          false;
    }))) at))
