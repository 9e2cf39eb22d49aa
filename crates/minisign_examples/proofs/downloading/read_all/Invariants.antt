-- The loop invariant and termination measure of `read_all`.
use Rattle.std.proofs.Common.{◌≡◌, ℕ, List, ◌++◌, Result}
use Rattle.std.specs.Io.KnownBytes.{Consumes}
use Rattle.minisign_lists.specs.declared.faults.ListFault.{ListFault}
use Rattle.minisign_lists.specs.Pieces.{IsFedFile, IsOpen}
use Rattle.minisign_examples.proofs.downloading.read_all.Given as goal

abbrev pub invariant-pieces : goal.invariant-pieces
invariant-pieces g l = record {
  no_new_fault : g.R.Source.faults l.source ≡ g.R.Source.faults l.fn.source;
  mark : g.R.Source.behind l.source ≡ g.R.Source.behind l.fn.source;
  usable : IsOpen l.file;
  bytes_read : (done : List ℕ) × Consumes (g.R.Source.ahead l.fn.source) (g.R.Source.ahead l.source) done
      × ((verdict : List ℕ → Result (List ℕ) ListFault) (m : List ℕ) → IsFedFile l.fn.file verdict m
      → IsFedFile l.file verdict (m ++ done));
}

abbrev pub decreases-pieces : goal.decreases-pieces
decreases-pieces g l = g.R.Source.left l.source
