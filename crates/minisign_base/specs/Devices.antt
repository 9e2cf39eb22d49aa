-- The effects of a call on a device: on its bytes, as far as they are known, and on its error count.
-- The record for each kind of call takes the members of the device's trait, the device before the
-- call (old) and after it (new), and the answer.
use Rattle.std.specs.Prelude.{◌≡◌, ℕ, ◌+◌, ◌-◌, ◌^◌, ◌<◌, ◌≤◌, min, Bool, true, false, List, [], ◌++◌, length}
use Rattle.std.specs.Prelude.{take, Option, Some, IfSome, Result, IsErr, IfOk, OnOk, OnErr}
use Rattle.std.specs.Io.KnownBytes.{append_known, Appends, Consumes, IsAtEnd, Keeps}

-- The error count is greater than before, or was at its greatest value, 2 ^ 64 - 1.
abbrev pub ErrorCountRises : ℕ → ℕ → Type 0
ErrorCountRises old new = min (old + 1) (2 ^ 64 - 1) ≤ new

-- If the second list is known, the first one is known too, and they are equal.
abbrev pub EqualIfSecondKnown : Option (List ℕ) → Option (List ℕ) → Type 0
EqualIfSecondKnown whole known = IfSome known (λ ys. whole ≡ Some ys)

-- The bytes, if they are known, are the empty list.
abbrev pub IsEmptyIfKnown : Option (List ℕ) → Type 0
IsEmptyIfKnown new = IfSome new (λ ys. ys ≡ [])

-- A prefix of the bytes was removed, as far as the bytes are known before and after.
abbrev pub PrefixIsRemoved : Option (List ℕ) → Option (List ℕ) → Type 0
PrefixIsRemoved old new = IfSome new (λ ys. IfSome old (λ xs. (front : List ℕ) × (xs ≡ front ++ ys)))

-- A prefix of bs was appended to the bytes, if they are known.
abbrev pub AppendsPrefix : Option (List ℕ) → Option (List ℕ) → List ℕ → Type 0
AppendsPrefix old new bs = (n : ℕ) × IfSome old (λ xs. new ≡ Some (xs ++ take n bs))

-- A read: the next n bytes were moved to the start of the buffer, or it failed. n is 0 only if the
-- buffer is empty or no bytes are left. A place is marked afterwards exactly if one was marked
-- before.
pub record HasRead {S E : Type 0} (ahead_of behind_of since_of : S → Option (List ℕ))
    (is_marked_of : S → Bool) (left_of faults_of : S → ℕ)
    (old new : S) (buffer : List ℕ) (answer : Result ℕ E) : Type 0 where
  pub bound : IfOk answer (λ n. n ≤ length buffer)
  pub bytes : IfOk answer (λ n. Consumes (ahead_of old) (ahead_of new) (take n buffer))
  pub end : IfOk answer (λ n. n ≡ 0 → 0 < length buffer → IsAtEnd (ahead_of new))
  pub left : IfOk answer (λ n. left_of new + n ≡ left_of old)
  pub no_new_fault : OnOk answer (faults_of new ≡ faults_of old)
  pub mark : OnOk answer (behind_of new ≡ behind_of old)
  pub fault : OnErr answer (ErrorCountRises (faults_of old) (faults_of new))
  pub unchanged : OnErr answer (EqualIfSecondKnown (ahead_of old) (ahead_of new))
  pub err_left : OnErr answer (left_of new ≤ left_of old)
  pub marked : is_marked_of new ≡ is_marked_of old
  pub since : IfOk answer (λ n. since_of new ≡ append_known (since_of old) (take n buffer))
  pub since_kept : OnErr answer (EqualIfSecondKnown (since_of old) (since_of new))

-- Marking a place: the unread bytes are unchanged, and a steady source remembers them. After an
-- error no place is marked.
pub record HasMarked {S A E : Type 0} (steady_of : S → Type 0)
    (ahead_of behind_of since_of : S → Option (List ℕ))
    (is_marked_of : S → Bool) (faults_of : S → ℕ)
    (old new : S) (answer : Result A E) : Type 0 where
  pub bytes : OnOk answer (ahead_of new ≡ ahead_of old)
  pub mark : steady_of old → OnOk answer (behind_of new ≡ ahead_of old)
  pub no_new_fault : OnOk answer (faults_of new ≡ faults_of old)
  pub fault : OnErr answer (ErrorCountRises (faults_of old) (faults_of new))
  pub unchanged : OnErr answer (EqualIfSecondKnown (ahead_of old) (ahead_of new))
  pub marked : OnOk answer (is_marked_of new ≡ true)
  pub unmarked : OnErr answer (is_marked_of new ≡ false)
  pub since : OnOk answer (IsEmptyIfKnown (since_of new))

-- Going back: the remembered bytes are unread again. This fails if no place is marked. The place
-- remains marked, so that going back again restores the same bytes. After an error no place is
-- marked.
pub record HasGoneBack {S A E : Type 0} (ahead_of behind_of since_of : S → Option (List ℕ))
    (is_marked_of : S → Bool) (faults_of : S → ℕ)
    (old new : S) (answer : Result A E) : Type 0 where
  pub needs_mark : is_marked_of old ≡ false → IsErr answer
  pub bytes : OnOk answer (EqualIfSecondKnown (ahead_of new) (behind_of old))
  pub mark : OnOk answer (behind_of new ≡ behind_of old)
  pub no_new_fault : OnOk answer (faults_of new ≡ faults_of old)
  pub fault : OnErr answer (ErrorCountRises (faults_of old) (faults_of new))
  pub marked : OnOk answer (is_marked_of new ≡ true)
  pub unmarked : OnErr answer (is_marked_of new ≡ false)
  pub since : OnOk answer (IsEmptyIfKnown (since_of new))

-- Filling a buffer: on success, it holds the next bytes of the source. After an error, a prefix of the unread
-- bytes may be lost.
pub record HasFilled {S A E : Type 0} (ahead_of : S → Option (List ℕ)) (faults_of : S → ℕ)
    (old new : S) (buffer : List ℕ) (answer : Result A E) : Type 0 where
  pub bytes : OnOk answer (Consumes (ahead_of old) (ahead_of new) buffer)
  pub no_new_fault : OnOk answer (faults_of new ≡ faults_of old)
  pub fault : OnErr answer (ErrorCountRises (faults_of old) (faults_of new))
  pub prefix_removed : OnErr answer (PrefixIsRemoved (ahead_of old) (ahead_of new))

-- A write: the sink received the first n of the bytes, at least one unless there are none; after an
-- error it received none. Nothing was flushed.
pub record HasWritten {S E : Type 0} (taken_of flushed_of : S → Option (List ℕ)) (faults_of : S → ℕ)
    (old new : S) (due : List ℕ) (answer : Result ℕ E) : Type 0 where
  pub bound : IfOk answer (λ n. n ≤ length due)
  pub at_least_one : IfOk answer (λ n. 0 < length due → 0 < n)
  pub bytes : IfOk answer (λ n. Appends (taken_of old) (taken_of new) (take n due))
  pub no_new_fault : OnOk answer (faults_of new ≡ faults_of old)
  pub fault : OnErr answer (ErrorCountRises (faults_of old) (faults_of new))
  pub unchanged : OnErr answer (Keeps (taken_of old) (taken_of new))
  pub unflushed : flushed_of new ≡ flushed_of old

-- A flush: the sink received nothing, and all that it received before is flushed. After an error,
-- what was flushed is unchanged or no longer known.
pub record HasFlushed {S A E : Type 0} (taken_of flushed_of : S → Option (List ℕ)) (faults_of : S → ℕ)
    (old new : S) (answer : Result A E) : Type 0 where
  pub bytes : Keeps (taken_of old) (taken_of new)
  pub all_flushed : OnOk answer (EqualIfSecondKnown (taken_of new) (flushed_of new))
  pub err_flushed : OnErr answer (EqualIfSecondKnown (flushed_of old) (flushed_of new))
  pub no_new_fault : OnOk answer (faults_of new ≡ faults_of old)
  pub fault : OnErr answer (ErrorCountRises (faults_of old) (faults_of new))
