-- Proves the goals of `read_public_key` that the prover leaves open.
use Rattle.std.proofs.Common.{◌∷◌, ap, sym, ◌∙◌}
use Rattle.minisign.proofs.Common.{lines}
use Rattle.minisign.proofs.PublicKeyTexts.{of_lines}
use Rattle.minisign.proofs.in_place.read_public_key.Goals as goal

pub returns-in_default : goal.returns-in_default
returns-in_default c =
    rw c.into.ensures (sym (of_lines _ _
    (ap lines (sym c.lines-lines.ensures.rest) ∙ c.in_default.ensures.none)))

pub returns-in_default-next_line : goal.returns-in_default-next_line
returns-in_default-next_line c = rw c.into-in_default-next_line.ensures (sym (of_lines _ _
    (ap lines (sym c.lines-lines.ensures.rest) ∙ c.in-Some.ensures.some
    ∙ ap (λ l. c.in-Some._comment.now ∷ l) c.in_default-next_line.ensures.none)))

pub returns : goal.returns
returns c = c.read_key_line.ensures ∙ sym (of_lines _ _
    (ap lines (sym c.lines-lines.ensures.rest) ∙ c.in-Some.ensures.some
    ∙ ap (λ l. c.in-Some._comment.now ∷ l) c.in-Some-next_line.ensures.some))
