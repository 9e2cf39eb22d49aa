-- Lemmas about the bytes that were read from a list and those that are left.
use Rattle.std.proofs.Common.{◌≡◌, ℕ, ◌+◌, List, ◌++◌, take, drop, ap, sym, ◌∙◌}
use Rattle.std.proofs.lemmas.List.{drop-drop, take-append-drop}
use Rattle.std.proofs.Math.Seq.{take-add}

-- The unread bytes are the bytes that are read next, followed by the rest.
pub unread_bytes_split : (at n : ℕ) (xs : List ℕ) → drop at xs ≡ take n (drop at xs) ++ drop (at + n) xs
unread_bytes_split at n xs = sym (take-append-drop n (drop at xs)) ∙ ap (λ l. take n (drop at xs) ++ l)
    (drop-drop n at xs)

-- The bytes read so far are those that were read before, followed by those that were read last.
pub read_bytes_append : (at n : ℕ) (xs : List ℕ) → take (at + n) xs ≡ take at xs ++ take n (drop at xs)
read_bytes_append at n xs = take-add at n xs
