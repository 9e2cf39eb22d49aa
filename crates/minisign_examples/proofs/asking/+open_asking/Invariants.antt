-- The termination measure of `open_asking`.
use Rattle.minisign_examples.proofs.asking.+open_asking.Given as goal

abbrev pub decreases-open_asking : goal.decreases-open_asking
decreases-open_asking g l = l.more
