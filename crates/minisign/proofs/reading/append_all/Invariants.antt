-- The loop invariant and termination measure of `append_all`.
use Rattle.std.proofs.Common.{◌≡◌, ℕ, List, ◌++◌}
use Rattle.minisign.proofs.Common.{Consumes}
use Rattle.minisign.proofs.reading.append_all.Given as goal

abbrev pub invariant-pieces : goal.invariant-pieces
invariant-pieces g l = record {
  no_new_fault : g.S.Source.faults l.source ≡ g.S.Source.faults l.fn.source;
  marked : g.S.Source.is_marked l.source ≡ g.S.Source.is_marked l.fn.source;
  mark : g.S.Source.behind l.source ≡ g.S.Source.behind l.fn.source;
  bytes_read : (done : List ℕ) × Consumes (g.S.Source.ahead l.fn.source) (g.S.Source.ahead l.source) done
      × (l.received.items ≡ l.fn.received.items ++ done);
}

abbrev pub decreases-pieces : goal.decreases-pieces
decreases-pieces g l = g.S.Source.left l.source
