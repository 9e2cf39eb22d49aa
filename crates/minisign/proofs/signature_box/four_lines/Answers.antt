-- Proves the goals of `four_lines` that the prover leaves open.
use Rattle.std.proofs.Common.{◌∷◌, length, arith, ap, sym, ◌∙◌}
use Rattle.minisign.proofs.Common.{lines}
use Rattle.minisign.proofs.SignatureTexts.{of_lines}
use Rattle.minisign.proofs.signature_box.four_lines.Goals as goal

pub returns-in_default : goal.returns-in_default
returns-in_default c =
    let start = ap lines (sym c.lines-lines.ensures.rest) in
    rw c.into.ensures (of_lines _ _ (start ∙ c.in_default.ensures.none))

pub returns-in_default-next_line : goal.returns-in_default-next_line
returns-in_default-next_line c =
    let start = ap lines (sym c.lines-lines.ensures.rest) in
    let a = c.in-Some.untrusted_comment.now in
    rw c.into-in_default-next_line.ensures
    (of_lines _ _ (start ∙ c.in-Some.ensures.some ∙ ap (λ l. a ∷ l) c.in_default-next_line.ensures.none))

pub returns-in_default-next_line-2 : goal.returns-in_default-next_line-2
returns-in_default-next_line-2 c =
    let start = ap lines (sym c.lines-lines.ensures.rest) in
    let a = c.in-Some.untrusted_comment.now in
    let b = c.in-Some-next_line.signature.now in
    rw c.into-in_default-next_line-2.ensures (of_lines _ _
    (start ∙ c.in-Some.ensures.some ∙ ap (λ l. a ∷ l) c.in-Some-next_line.ensures.some
    ∙ ap (λ l. a ∷ b ∷ l) c.in_default-next_line-2.ensures.none))

pub returns-in_default-next_line-3 : goal.returns-in_default-next_line-3
returns-in_default-next_line-3 c =
    let start = ap lines (sym c.lines-lines.ensures.rest) in
    let a = c.in-Some.untrusted_comment.now in
    let b = c.in-Some-next_line.signature.now in
    let d = c.in-Some-next_line-2.trusted_comment.now in
    rw c.into-in_default-next_line-3.ensures (of_lines _ _
    (start ∙ c.in-Some.ensures.some ∙ ap (λ l. a ∷ l) c.in-Some-next_line.ensures.some
    ∙ ap (λ l. a ∷ b ∷ l) c.in-Some-next_line-2.ensures.some
    ∙ ap (λ l. a ∷ b ∷ d ∷ l) c.in_default-next_line-3.ensures.none))

pub returns : goal.returns
returns c =
    let start = ap lines (sym c.lines-lines.ensures.rest) in
    let a = c.in-Some.untrusted_comment.now in
    let b = c.in-Some-next_line.signature.now in
    let d = c.in-Some-next_line-2.trusted_comment.now in (
      of_lines _ _ (start ∙ c.in-Some.ensures.some ∙ ap (λ l. a ∷ l) c.in-Some-next_line.ensures.some
          ∙ ap (λ l. a ∷ b ∷ l) c.in-Some-next_line-2.ensures.some
          ∙ ap (λ l. a ∷ b ∷ d ∷ l) c.in-Some-next_line-3.ensures.some),
      omega (
        arith,
        ap length c.lines-lines.ensures.rest,
        c.in-Some.ensures.size,
        c.in-Some-next_line.ensures.size,
        c.in-Some-next_line-2.ensures.size,
      ),
    )
