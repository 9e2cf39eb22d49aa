-- The loop invariant and termination measure of `first_value`.
use Rattle.std.proofs.Common.{◌≡◌, length}
use Rattle.minisign_install.specs.Comments.{values_of}
use denote.Text.{Utf8}
use denote.Shadow.{shadow}
use Rattle.minisign_install.proofs.comments.first_value.Given as goal

abbrev pub invariant-fields : goal.invariant-fields
invariant-fields l = shadow (Utf8 l.rest) × (values_of l.fn.label l.fn.comment ≡ values_of l.fn.label l.rest)

abbrev pub decreases-fields : goal.decreases-fields
decreases-fields l = length l.rest
