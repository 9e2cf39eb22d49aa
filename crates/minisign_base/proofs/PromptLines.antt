-- Lemmas about lines, byte by byte.
use Rattle.std.proofs.Common.{true≢false, ◌≡◌, ℕ, ◌+◌, ◌<◌, ◌≤◌, ◌≢◌, List, [], ◌∷◌, ◌++◌, length, take, None}
use Rattle.std.proofs.Common.{Some, Option, IfSome, Ok, Err, not, ◌==◌, cond, nat_lt, if◌then◌else◌, true}
use Rattle.std.proofs.Common.{false, IsUtf8, refl, sym, ap, ◌∙◌, subst, arith, append_assoc, append-nil}
use Rattle.std.proofs.Common.{length-append, eq-eqb}
use Rattle.std.proofs.lemmas.Bool.{le-ltb, lt-ltb, ne_eqb}
use Rattle.std.proofs.lemmas.List.{drop_all, drop_at, take_all, take_at}
use Rattle.std.proofs.lemmas.List.Folds.{prefix_len-append}
use Rattle.std.proofs.lemmas.Str.{IsUtf8-from_is_utf8, is_utf8-from_IsUtf8}
use Rattle.std.specs.Io.KnownBytes.{Consumes, IsAtEnd}
use Rattle.std.specs.Str.{is_utf8}
use Rattle.std.specs.Str.Lines.{strip_carriage_return}
use Rattle.minisign_base.specs.Fault.{Named}
use Rattle.minisign_base.specs.declared.faults.NamedFault.TheVariants.{EndOfInput, NotUtf8, PasswordTooLong}
use Rattle.minisign_base.specs.DeviceCalls.{SourceCall}
use Rattle.minisign_base.specs.Prompts.{HasReadLine}
use Rattle.minisign_base.specs.Passwords.{accepted_line, first_line, line_length, password_of, read_count}

-- The bytes of a reader, if they are known, are those that were read followed by those that are
-- left.
pub consumed_front : (a b : Option (List ℕ)) (done : List ℕ) → Consumes a b done
    → (rest : List ℕ) × IfSome a (λ xs. xs ≡ done ++ rest) × IfSome a (λ _. b ≡ Some rest)
consumed_front None b done c = ([], tt, tt)
consumed_front (Some xs) None done c = absurd c
consumed_front (Some xs) (Some ys) done c = (ys, c, refl)

-- At the end of the input, no bytes are left: the bytes of the reader are those that were read.
pub consumed_all : (a b : Option (List ℕ)) (done : List ℕ) → Consumes a b done → IsAtEnd b
    → IfSome a (λ xs. xs ≡ done) × IfSome a (λ _. b ≡ Some [])
consumed_all None b done c e = (tt, tt)
consumed_all (Some xs) None done c e = absurd c
consumed_all (Some xs) (Some ys) done c e = (c ∙ ap (λ l. done ++ l) e ∙ append-nil done, ap Some e)

-- If the first bytes contain no line feed, the length of the first line is their length plus the
-- length of the first line of the other bytes.
pub line_length-append : (done more : List ℕ) → line_length done ≡ length done → line_length (done ++ more)
    ≡ length done + line_length more
line_length-append done more e =
    prefix_len-append (λ b. not (b == 10)) done more
    ∙ ap (λ t. cond t (length done + line_length more) (line_length done))
    (eq-eqb (line_length done) (length done) e)

-- A byte other than a line feed makes the first line one byte longer.
pub line_length-push : (done : List ℕ) (b : ℕ) → line_length done ≡ length done → b ≢ 10
    → line_length (done ++ b ∷ []) ≡ length done + 1
line_length-push done b e other =
    line_length-append done (b ∷ []) e ∙ ap (λ t. length done + cond (not t) (1 + 0) 0) (ne_eqb b 10 other)

-- If a line feed follows bytes without one, the first line has the length of these bytes.
pub line_length-feed : (done rest : List ℕ) → line_length done ≡ length done
    → line_length ((done ++ 10 ∷ []) ++ rest) ≡ length done
line_length-feed done rest e =
    ap line_length (append_assoc done (10 ∷ []) rest) ∙ line_length-append done (10 ∷ rest) e ∙ omega arith

-- If a line feed ends fewer than 1026 bytes, the password is the line before it, without a carriage return.
pub password_of-feed : (done rest : List ℕ) → line_length done ≡ length done → length done < 1026
    → password_of ((done ++ 10 ∷ []) ++ rest) ≡ accepted_line (strip_carriage_return done)
unfolding password_of first_line
password_of-feed done rest e short =
    let bytes : List ℕ = (done ++ 10 ∷ []) ++ rest in
    let line : line_length bytes ≡ length done = line_length-feed done rest e in
    let whole : length bytes ≡ length done + 1 + length rest = length-append (done ++ 10 ∷ []) rest
    ∙ ap (λ n. n + length rest) (length-append done (10 ∷ [])) in
    let front : take (length done) bytes ≡ done = ap (take (length done)) (append_assoc done (10 ∷ []) rest)
    ∙ take_at done (10 ∷ rest) (length done) refl in
    rw (
      line,
      ne_eqb (length bytes) 0 (λ z. omega (arith, whole)),
      le-ltb 1025 (length done)
          (omega (arith, short)),
      lt-ltb (length done) (length bytes) (omega (arith, whole)),
      front,
    ) refl

-- If the input ends after fewer than 1026 bytes without a line feed, the password is all of them.
pub password_of-end : (done : List ℕ) → line_length done ≡ length done → 0 < length done → length done < 1026
    → password_of done ≡ accepted_line done
unfolding password_of first_line
password_of-end done e some short =
    rw (
      e,
      ne_eqb (length done) 0 (λ z. omega arith),
      le-ltb 1025 (length done) (omega (arith, short)),
      le-ltb
          (length done) (length done) (omega arith),
      take_all (length done) done (omega arith),
    ) refl

-- If 1026 bytes contain no line feed, the password is too long.
pub password_of-long : (done rest : List ℕ) → line_length done ≡ length done → length done ≡ 1026
    → password_of (done ++ rest) ≡ Err (Named PasswordTooLong)
unfolding password_of
password_of-long done rest e long =
    let bytes : List ℕ = done ++ rest in
    let line : line_length bytes ≡ length done + line_length rest = line_length-append done rest e in
    let whole : length bytes ≡ length done + length rest = length-append done rest in
    rw (
      ne_eqb (length bytes) 0 (λ z. omega (arith, whole)),
      lt-ltb 1025 (line_length bytes)
          (omega (arith, line)),
    ) refl

-- The reader has read a line if it read as many bytes as a line takes.
pub read_front : {R : Type 0} (r : SourceCall R) (done rest : List ℕ)
    → IfSome (r.source.ahead r.old) (λ xs. xs ≡ done ++ rest)
    → IfSome (r.source.ahead r.old) (λ _. r.source.ahead r.new ≡ Some rest)
    → length done ≡ read_count (done ++ rest) → r.source.left r.new + length done ≡ r.source.left r.old
    → r.source.faults r.new ≡ r.source.faults r.old
    → HasReadLine r (done ++ rest)
read_front r done rest ahead unread count left no_new_fault = record {
  ahead = ahead;
  unread = subst (λ (l : List ℕ). IfSome (r.source.ahead r.old) (λ _. r.source.ahead r.new ≡ Some l))
      (sym (drop_at done rest (read_count (done ++ rest)) count)) unread;
  left = ap (λ (l : List ℕ). r.source.left r.new + length l)
      (take_at done rest (read_count (done ++ rest)) count) ∙ left;
  no_new_fault = no_new_fault;
}

-- The reader has read a line if it read the whole input and no more bytes than a line takes.
pub read_whole : {R : Type 0} (r : SourceCall R) (done : List ℕ)
    → IfSome (r.source.ahead r.old) (λ xs. xs ≡ done)
    → IfSome (r.source.ahead r.old) (λ _. r.source.ahead r.new ≡ Some [])
    → length done ≤ read_count done → r.source.left r.new + length done ≡ r.source.left r.old
    → r.source.faults r.new ≡ r.source.faults r.old
    → HasReadLine r done
read_whole r done ahead unread count left no_new_fault = record {
  ahead = ahead;
  unread = subst (λ (l : List ℕ). IfSome (r.source.ahead r.old) (λ _. r.source.ahead r.new ≡ Some l))
      (sym (drop_all (read_count done) done count)) unread;
  left = ap (λ (l : List ℕ). r.source.left r.new + length l) (take_all (read_count done) done count) ∙ left;
  no_new_fault = no_new_fault;
}

-- If there is no input at all, there is no password.
pub password_of-nothing : password_of [] ≡ Err (Named EndOfInput)
unfolding password_of
password_of-nothing = refl

-- A line that is not UTF-8 is rejected.
pub accepted_line-other : (line : List ℕ) → (IsUtf8 line → false ≡ true)
    → accepted_line line ≡ Err (Named NotUtf8)
unfolding accepted_line
accepted_line-other line other =
    elim (is_utf8 line) as (λ b. is_utf8 line ≡ b
    → (if not b then Err (Named NotUtf8) else
    (if nat_lt 1024 (length line) then Err (Named PasswordTooLong) else Ok line)) ≡ Err (Named NotUtf8)) [
      | true ↦ λ e. absurd (true≢false (sym (other (IsUtf8-from_is_utf8 line e))))
      | false ↦ λ e. refl
    ] refl

-- A line of more than 1024 bytes is rejected.
pub accepted_line-long : (line : List ℕ) → IsUtf8 line → 1024 < length line
    → accepted_line line ≡ Err (Named PasswordTooLong)
unfolding accepted_line
accepted_line-long line text long = rw (is_utf8-from_IsUtf8 line text, lt-ltb 1024 (length line) long) refl

-- A line of UTF-8 with at most 1024 bytes is accepted.
pub accepted_line-text : (line : List ℕ) → IsUtf8 line → length line ≤ 1024 → accepted_line line ≡ Ok line
unfolding accepted_line
accepted_line-text line text short = rw (is_utf8-from_IsUtf8 line text, le-ltb 1024 (length line) short) refl
