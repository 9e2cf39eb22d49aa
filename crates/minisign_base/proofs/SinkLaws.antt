-- Laws about a sink that is written to several times, for callers that write a text in parts.
use Rattle.std.proofs.Common.{ℕ, ◌+◌, min, Option, None, Some, List, ◌++◌, length, take, ap, sym, ◌∙◌}
use Rattle.std.proofs.Common.{append_assoc}
use Rattle.std.proofs.Common.{append-nil, arith}
use Rattle.std.proofs.lemmas.List.{take-append-le, take_all, take_min}
use Rattle.std.proofs.Math.Seq.{take-append-add}
use Rattle.std.specs.Io.KnownBytes.{Appends, Keeps}
use Rattle.minisign_base.specs.Devices.{AppendsPrefix}

-- A sink that received nothing received a prefix of any text.
pub AppendsPrefix-keeps : (a b : Option (List ℕ)) (bs : List ℕ) → Keeps a b → AppendsPrefix a b bs
AppendsPrefix-keeps None b bs k = (0, tt)
AppendsPrefix-keeps (Some x) None bs k = absurd k
AppendsPrefix-keeps (Some x) (Some y) bs k = (0, ap Some (k ∙ sym (append-nil x)))

-- A sink that received a whole part and then a prefix of the next received a prefix of both joined.
pub AppendsPrefix-after : (a b c : Option (List ℕ)) (bs cs : List ℕ) → Appends a b bs → AppendsPrefix b c cs
    → AppendsPrefix a c (bs ++ cs)
AppendsPrefix-after None b c bs cs p q = (0, tt)
AppendsPrefix-after (Some x) None c bs cs p q = absurd p
AppendsPrefix-after (Some x) (Some y) c bs cs p (n, q) = (
  length bs + n,
  q ∙ ap Some (ap (λ l. l ++ take n cs) p ∙
      append_assoc x bs (take n cs) ∙ ap (λ l. x ++ l) (sym (take-append-add bs cs n))),
)

-- A prefix of a part is a prefix of the whole text.
pub AppendsPrefix-more : (a b : Option (List ℕ)) (bs cs : List ℕ) → AppendsPrefix a b bs
    → AppendsPrefix a b (bs ++ cs)
AppendsPrefix-more None b bs cs p = (0, tt)
AppendsPrefix-more (Some x) b bs cs (n, p) = (
  min n (length bs),
  p ∙ ap (λ l. Some (x ++ l)) (sym (take-append-le (min n (length bs)) bs cs (omega arith) ∙ take_min n bs)),
)

-- A whole text is a prefix of itself.
pub AppendsPrefix-whole : (a b c : Option (List ℕ)) (bs : List ℕ) → Appends a b bs → Keeps b c
    → AppendsPrefix a c bs
AppendsPrefix-whole None b c bs p k = (0, tt)
AppendsPrefix-whole (Some x) None c bs p k = absurd p
AppendsPrefix-whole (Some x) (Some y) None bs p k = absurd k
AppendsPrefix-whole (Some x) (Some y) (Some z) bs p k =
    (length bs, ap Some (k ∙ p ∙ ap (λ l. x ++ l) (sym (take_all (length bs) bs (omega arith)))))
