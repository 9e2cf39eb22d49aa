-- The loop invariant and termination measure of `copy_pieces`.
use Rattle.std.proofs.Common.{◌≡◌, ℕ, List, ◌++◌, false}
use Rattle.minisign.proofs.Common.{Appends, Consumes, IsFed, has_finalized, output_length}
use Rattle.minisign.specs.Reading.{KnownBytesAre}
use Rattle.minisign.proofs.copying.copy_pieces.Given as goal

abbrev pub invariant-pieces : goal.invariant-pieces
invariant-pieces g l = record {
  no_new_fault : g.R.Source.faults l.data_reader ≡ g.R.Source.faults l.fn.data_reader;
  out_no_new_fault : g.O.Sink.sink_faults l.out ≡ g.O.Sink.sink_faults l.fn.out;
  unflushed : g.O.Sink.flushed l.out ≡ g.O.Sink.flushed l.fn.out;
  marked : g.R.Source.is_marked l.data_reader ≡ g.R.Source.is_marked l.fn.data_reader;
  mark : g.R.Source.behind l.data_reader ≡ g.R.Source.behind l.fn.data_reader;
  unfinished : has_finalized l.hasher ≡ false;
  size : output_length l.hasher ≡ output_length l.fn.hasher;
  bytes_read : (done : List ℕ)
      × Consumes (g.R.Source.ahead l.fn.data_reader) (g.R.Source.ahead l.data_reader) done
      × Appends (g.O.Sink.taken l.fn.out) (g.O.Sink.taken l.out) done
      × ((m : List ℕ) → IsFed l.fn.hasher m → IsFed l.hasher (m ++ done))
      × KnownBytesAre (g.R.Source.since l.data_reader) done;
}

abbrev pub decreases-pieces : goal.decreases-pieces
decreases-pieces g l = g.R.Source.left l.data_reader
