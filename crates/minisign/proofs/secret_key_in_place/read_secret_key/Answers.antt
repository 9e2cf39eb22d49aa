-- Proves the goals of `read_secret_key` that the prover leaves open.
use Rattle.std.proofs.Common.{◌∷◌, ap, sym, ◌∙◌}
use Rattle.minisign.proofs.Common.{lines}
use Rattle.minisign.proofs.SecretKeyTexts.{of_lines}
use Rattle.minisign.proofs.secret_key_in_place.read_secret_key.Goals as goal

pub returns-in_default : goal.returns-in_default
returns-in_default c =
    rw c.into.ensures (of_lines _ _ (ap lines (sym c.lines-lines.ensures.rest) ∙ c.in_default.ensures.none))

pub returns-in_default-next_line : goal.returns-in_default-next_line
returns-in_default-next_line c = rw c.into-in_default-next_line.ensures (of_lines _ _
    (ap lines (sym c.lines-lines.ensures.rest) ∙ c.in-Some.ensures.some
    ∙ ap (λ l. c.in-Some._comment.now ∷ l) c.in_default-next_line.ensures.none))

pub returns : goal.returns
returns c = of_lines _ _ (ap lines (sym c.lines-lines.ensures.rest) ∙ c.in-Some.ensures.some
    ∙ ap (λ l. c.in-Some._comment.now ∷ l) c.in-Some-next_line.ensures.some)
    ∙ c.decode_record.ensures
