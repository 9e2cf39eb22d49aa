-- Proves the goal of `escaped_entry` that the prover leaves open.
use Rattle.std.proofs.Common.{ap, true, ◌∙◌}
use Rattle.minisign_lists.specs.Lines.{entry_of, if_escaped, written_in}
use Rattle.minisign_lists.proofs.lines.escaped_entry.Goals as goal

pub returns : goal.returns
returns c = c.entry_of.ensures ∙ ap (entry_of c.args.number true 1) (c.if_escaped-found.ensures
    ∙ ap if_escaped (c.written_in.ensures.value ∙ ap (written_in c.args.long) c.split_at.ensures.back))
