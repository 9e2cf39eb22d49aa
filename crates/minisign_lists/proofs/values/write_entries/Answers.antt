-- Proves the goals of `write_entries` that the prover leaves open.
use Rattle.std.proofs.Common.{◌≡◌, ◌+◌, ◌-◌, ◌∙◌, ap, arith, length, refl, rules, sym, suc}
use Rattle.minisign_lists.specs.Positions.{after_line, without_lines}
use Rattle.minisign_lists.specs.Values.{put_entry}
use Rattle.minisign_lists.proofs.EntryBuffers.{all_written, line_written, none_written, one_more}
use Rattle.minisign_lists.proofs.values.write_entries.Goals as goal

pub lines-init : goal.lines-init
lines-init c = (
  omega arith,
  refl,
  refl,
  λ es read fits. none_written c.args.long c.args.text.now c.args.to.now es read,
)

pub lines-preserved : goal.lines-preserved
lines-preserved c =
    let (numbered, at, len, written) = c.lines.invariant in
    let text = c.args.text.now in
    let n = c.lines.line_number in
    let shorter = c.in-Some.ensures.shorter in
    let next : suc n ≡ n + 1 = omega arith in
    let put = c.put_entry-count.ensures
    ∙ ap (λ r. put_entry r (length text - length c.lines.rest.now) c.lines.to c.lines.count)
    c.read_line.ensures in (
      omega (arith, numbered, shorter),
      c.in-Some.ensures.text_after_line ∙ ap after_line at ∙ sym (one_more n text)
          ∙ ap (λ k. without_lines k text) next,
      search rules,
      λ es read fits. line_written c.args.long text c.args.to.now c.lines.to n c.lines.count c.lines.rest.now
          c.in-Some.more.now es c.in-Some.line.now c.put_entry-count.result c.put_entry-count.new.to
          (written es read fits) c.in-Some.ensures.some at fits len put,
    )

pub returns : goal.returns
returns c =
    let (numbered, at, len, written) = c.lines.invariant in
    λ es read fits. all_written c.args.long c.args.text.now c.args.to.now c.lines.to c.lines.line_number
    c.lines.count c.lines.rest.now c.lines.rest.now es (written es read fits) c.in_default.ensures.none
