-- Proves the goals of `line_start` that the prover leaves open.
use Rattle.std.proofs.Common.{◌≡◌, ◌∙◌, ◌+◌, ◌-◌, ◌<◌, ◌≤◌, suc, ap, arith, length, rules}
use Rattle.std.specs.List.{position_or_len}
use Rattle.std.proofs.lemmas.List.{length-drop}
use Rattle.minisign_lists.specs.Pieces.{is_feed}
use Rattle.minisign_lists.specs.Positions.{without_lines}
use Rattle.minisign_lists.proofs.values.line_start.Goals as goal

pub lines-preserved : goal.lines-preserved
lines-preserved c =
    let (same, fits, some) = c.lines.invariant in
    let rest = c.lines.rest.now in
    let at = c.lines.line_number in
    let number = c.args.number in
    let more : at < number = search rules in
    let next : suc (number - (at + 1)) ≡ number - at = omega (arith, more) in (
      ap (without_lines (number - (at + 1))) c.after_line-rest.ensures
          ∙ ap (λ n. without_lines n rest) next ∙ same,
      rw c.after_line-rest.ensures
          (omega (arith, fits, length-drop (position_or_len is_feed rest + 1) rest)),
      omega (arith, some),
    )

pub returns : goal.returns
returns c =
    let (same, fits, some) = c.lines.invariant in
    let at = c.lines.line_number in
    let number = c.args.number in
    let none : number ≤ at = search rules in
    let last : 0 ≡ number - at = omega (arith, none) in
    ap (λ l. length c.args.text.now - length l) (ap (λ n. without_lines n c.lines.rest.now) last ∙ same)
