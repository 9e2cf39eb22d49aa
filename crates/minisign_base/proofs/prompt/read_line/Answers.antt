-- Proves the goals of `read_line` that the prover leaves open. The buffer for a line has 1026 bytes: a
-- password of at most 1024 bytes, a carriage return and a line feed.
use Rattle.std.proofs.Common.{◌≡◌, ℕ, ◌+◌, ◌<◌, ◌≤◌, List, [], ◌∷◌, ◌++◌, append-nil, length, take, Err, inr}
use Rattle.std.proofs.Common.{sym, ap, ◌∙◌, subst, arith, length-append}
use Rattle.std.specs.Io.KnownBytes.{Consumes}
use Rattle.std.proofs.lemmas.List.{length-take-le, take-take}
use Rattle.std.proofs.KnownBytes.{Consumes-trans}
use Rattle.minisign_base.specs.DeviceCalls.{source_call}
use Rattle.minisign_base.specs.Passwords.{accepted_line, line_length, read_count}
use Rattle.minisign_base.proofs.PromptLines.{line_length-append, line_length-feed, password_of-end}
use Rattle.minisign_base.proofs.PromptLines.{password_of-feed, password_of-long, password_of-nothing}
use Rattle.minisign_base.proofs.PromptLines.{read_front, read_whole, consumed_front, consumed_all}
use Rattle.minisign_base.proofs.prompt.read_line.Goals as goal

-- A line feed was read.
pub returns-in-Some-eq10-clause-read : goal.returns-in-Some-eq10-clause-read
returns-in-Some-eq10-clause-read g c =
    let used = c.bytes.used in
    let line = c.bytes.line in
    let n = c.without_carriage_return.result in
    let done : List ℕ = take used line in
    let size : length done ≡ used = length-take-le used line (omega arith) in
    let short : used < 1026 = omega arith in
    let unfinished : line_length done ≡ length done = c.bytes.invariant.unfinished ∙ sym size in
    let byte = rw c.in-Some-eq10.is at c.in_ok-next_byte.ensures.byte in
    let feed_read = subst (λ (b : ℕ). Consumes (g.R.Source.ahead c.bytes.source)
    (g.R.Source.ahead c.next_byte.new.source) (b ∷ [])) c.in-Some-eq10.field-0-test byte.0 in
    let (rest, ahead, unread) = consumed_front _ _ _
    (Consumes-trans _ _ _ _ _ c.bytes.invariant.bytes_read feed_read) in
    let bytes_read : length (done ++ 10 ∷ []) ≡ used + 1 = length-append done (10 ∷ [])
    ∙ ap (λ (k : ℕ). k + 1) size in
    let ended_length : line_length ((done ++ 10 ∷ []) ++ rest)
    ≡ length done = line_length-feed done rest unfinished in
    let bound : n ≤ used = omega (arith, c.without_carriage_return.ensures.bound, size) in
    let front : take n done ≡ take n line = take-take n used line bound in (
      (done ++ 10 ∷ []) ++ rest,
      read_front (source_call g.R.Source c.args.source.now c.next_byte.new.source)
          (done ++ 10 ∷ []) rest ahead unread
          (omega (arith, bytes_read, ended_length, size, short))
          (omega (arith, bytes_read, byte.1, c.bytes.invariant.left))
          (c.in_ok-next_byte.ensures.no_new_fault ∙ c.bytes.invariant.no_new_fault),
      omega (arith, bound),
      password_of-feed done rest unfinished (omega (arith, size, short))
          ∙ ap accepted_line (sym c.without_carriage_return.ensures.line ∙ front),
    )

-- The input ended before any byte was read.
pub returns-in-None-clause-refused : goal.returns-in-None-clause-refused
returns-in-None-clause-refused g c =
    let byte = rw c.in-None.is at c.in_ok-next_byte.ensures.byte in
    let none : take c.bytes.used c.bytes.line ≡ [] = ap (λ (k : ℕ). take k c.bytes.line) c.if-used-eq0.true in
    let bytes_read = subst (λ (done : List ℕ). Consumes (g.R.Source.ahead c.args.source.now)
    (g.R.Source.ahead c.bytes.source) done) none c.bytes.invariant.bytes_read in
    let (ahead, unread) = consumed_all _ _ _ (Consumes-trans _ _ _ _ _ bytes_read byte.0) byte.1 in
    inr (
      [],
      read_whole (source_call g.R.Source c.args.source.now c.next_byte.new.source) [] ahead unread
          (omega arith)
          (omega (arith, byte.2, c.bytes.invariant.left, c.if-used-eq0.true))
          (c.in_ok-next_byte.ensures.no_new_fault ∙ c.bytes.invariant.no_new_fault),
      password_of-nothing ∙ sym (ap Err c.into.ensures),
    )

-- The input ended after a line without a line feed.
pub returns-in-None-2-clause-read : goal.returns-in-None-2-clause-read
returns-in-None-2-clause-read g c =
    let used = c.bytes.used in
    let line = c.bytes.line in
    let done : List ℕ = take used line in
    let size : length done ≡ used = length-take-le used line (omega arith) in
    let unfinished : line_length done ≡ length done = c.bytes.invariant.unfinished ∙ sym size in
    let not_empty : 0 < used = omega (arith, c.if-used-eq0.false) in
    let byte = rw c.in-None.is at c.in_ok-next_byte.ensures.byte in
    let (ahead, unread) = consumed_all _ _ _
    (Consumes-trans _ _ _ _ _ c.bytes.invariant.bytes_read byte.0) byte.1 in
    let no_more : done ++ [] ≡ done = append-nil done in (
      done,
      read_whole (source_call g.R.Source c.args.source.now c.next_byte.new.source) done
          (rw no_more at ahead) unread
          (omega (arith, size, unfinished))
          (omega (arith, size, byte.2, c.bytes.invariant.left))
          (c.in_ok-next_byte.ensures.no_new_fault ∙ c.bytes.invariant.no_new_fault),
      omega arith,
      password_of-end done unfinished (omega (arith, size, not_empty)) (omega arith),
    )

-- 1026 bytes were read, and none of them is a line feed.
pub returns-clause-refused : goal.returns-clause-refused
returns-clause-refused g c =
    let used = c.bytes.used in
    let line = c.bytes.line in
    let full : used ≡ 1026 = omega arith in
    let done : List ℕ = take used line in
    let size : length done ≡ used = length-take-le used line (omega arith) in
    let unfinished : line_length done ≡ length done = c.bytes.invariant.unfinished ∙ sym size in
    let (rest, ahead, unread) = consumed_front _ _ _ c.bytes.invariant.bytes_read in
    let count : length done ≡ read_count (done ++ rest) = omega
    (arith, size, full, line_length-append done rest unfinished) in
    inr (
      done ++ rest,
      read_front (source_call g.R.Source c.args.source.now c.bytes.source) done rest ahead unread count
          (omega (arith, size, c.bytes.invariant.left)) c.bytes.invariant.no_new_fault,
      password_of-long done rest unfinished (size ∙ full) ∙ sym (ap Err c.into-2.ensures),
    )
