-- The loop invariant and termination measure of `feed`.
use Rattle.std.proofs.Common.{◌≡◌, ℕ, List, ◌++◌, false}
use Rattle.minisign.proofs.Common.{Consumes, IsFed, has_finalized, output_length}
use Rattle.minisign.proofs.reading.feed.Given as goal

abbrev pub invariant-pieces : goal.invariant-pieces
invariant-pieces g l = record {
  no_new_fault : g.S.Source.faults l.source ≡ g.S.Source.faults l.fn.source;
  marked : g.S.Source.is_marked l.source ≡ g.S.Source.is_marked l.fn.source;
  mark : g.S.Source.behind l.source ≡ g.S.Source.behind l.fn.source;
  unfinished : has_finalized l.hasher ≡ false;
  size : output_length l.hasher ≡ output_length l.fn.hasher;
  bytes_read : (done : List ℕ) × Consumes (g.S.Source.ahead l.fn.source) (g.S.Source.ahead l.source) done
      × ((m : List ℕ) → IsFed l.fn.hasher m → IsFed l.hasher (m ++ done));
}

abbrev pub decreases-pieces : goal.decreases-pieces
decreases-pieces g l = g.S.Source.left l.source
