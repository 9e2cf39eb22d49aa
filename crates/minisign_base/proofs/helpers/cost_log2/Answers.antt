-- Proves the goals of `cost_log2` that the prover leaves open.
use Rattle.std.proofs.Common.{◌+◌}
use Rattle.minisign_base.proofs.LeastCost.{cost_log2_next, cost_log2_unique}
use Rattle.minisign_base.proofs.helpers.cost_log2.Goals as goal

pub returns-clause-least : goal.returns-clause-least
returns-clause-least c =
    cost_log2_next c.args.greatest c.ilog2.result c.requires
    (rw (← c.max-half.ensures) c.ilog2.ensures.power_le)
    (rw (← c.max-half.ensures) c.ilog2.ensures.next_power_gt)

pub returns-clause-value : goal.returns-clause-value
returns-clause-value c = cost_log2_unique c.args.greatest (c.ilog2.result + 1) (returns-clause-least c)
