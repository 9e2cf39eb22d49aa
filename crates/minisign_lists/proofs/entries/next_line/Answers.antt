-- Proves the goals of `next_line` that the prover leaves open.
use Rattle.std.proofs.Common.{◌≡◌, ◌∙◌, ◌∷◌, ◌<◌, ℕ, List, [], ap, arith, length, cond, refl}
use Rattle.std.proofs.Common.{rules}
use Rattle.std.proofs.lemmas.Bool.{ne_eqb}
use Rattle.std.proofs.lemmas.List.Splits.{length-slice_split}
use Rattle.std.specs.List.{slice_split}
use Rattle.std.specs.Str.Lines.{lines_of_parts, strip_carriage_return}
use Rattle.minisign_lists.specs.Pieces.{is_feed}
use Rattle.minisign_lists.proofs.entries.next_line.Goals as goal

-- If other parts follow the part x, then x is a line, without its carriage return.
first_part_is_line : (x : List ℕ) (parts : List (List ℕ)) → 0 < length parts
    → lines_of_parts (x ∷ parts) ≡ strip_carriage_return x ∷ lines_of_parts parts
first_part_is_line x [] l = absurd (omega arith)
first_part_is_line x (y ∷ _) l = refl

pub returns-in-Some-clause-some : goal.returns-in-Some-clause-some
returns-in-Some-clause-some c =
    let more = c.in-Some.more.now in
    rw c.without_return.ensures (ap lines_of_parts c.in-Some.ensures.some
    ∙ first_part_is_line c.in-Some.line.now (slice_split is_feed more) (omega
    (arith, length-slice_split is_feed more)))

pub returns-in-None-clause-some : goal.returns-in-None-clause-some
returns-in-None-clause-some c =
    let text = c.args.text.now in
    let some : 0 < length text = search rules in
    ap lines_of_parts c.in-None.ensures.none
    ∙ ap (λ t. cond t [] (text ∷ [])) (ne_eqb (length text) 0 (λ z. omega (arith, z, some)))
