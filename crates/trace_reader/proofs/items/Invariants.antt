-- The termination measure of `items`: each iteration of its loop reads at least one word.
use Rattle.std.proofs.Common.{length, ◌-◌}
use Rattle.trace_reader.proofs.items.Given as goal

abbrev pub decreases-loop-at : goal.decreases-loop-at
decreases-loop-at l = length l.words.words.now - l.at
