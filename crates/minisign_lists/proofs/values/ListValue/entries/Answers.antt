-- Proves the goal of `ListValue::entries` that the prover leaves open.
use Rattle.std.proofs.Common.{refl}
use Rattle.minisign_lists.specs.Values.{all_entries}
use Rattle.minisign_lists.proofs.AllEntries.{failed}
use Rattle.minisign_lists.proofs.values.ListValue.entries.Goals as goal

pub returns-in-Err : goal.returns-in-Err
returns-in-Err c =
    rw (failed (all_entries c.args.self.now c.args.text.now c.args.long) c.in-Err.refusal c.in-Err.ensures)
    refl
