-- The loop invariant and termination measure of `begins_loosely`.
use Rattle.std.specs.Prelude.{is_some}
use Rattle.std.proofs.Common.{◌≡◌, length}
use Rattle.minisign_install.specs.Comments.{strip, folded}
use Rattle.minisign_install.proofs.comments.begins_loosely.Given as goal

abbrev pub invariant-letters : goal.invariant-letters
invariant-letters l = is_some (strip l.label (folded l.rest)) ≡ is_some (strip l.fn.label (folded l.fn.text))

abbrev pub decreases-letters : goal.decreases-letters
decreases-letters l = length l.rest
