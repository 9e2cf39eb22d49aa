-- The loop invariant and termination measure of `first_expiry`.
use Rattle.std.proofs.Common.{◌≡◌, length}
use Rattle.minisign_install.specs.Comments.{expiries}
use denote.Text.{Utf8}
use denote.Shadow.{shadow}
use Rattle.minisign_install.proofs.comments.first_expiry.Given as goal

abbrev pub invariant-fields : goal.invariant-fields
invariant-fields l =
    shadow (Utf8 l.rest) × (expiries l.fn.must_expire l.fn.comment ≡ expiries l.fn.must_expire l.rest)

abbrev pub decreases-fields : goal.decreases-fields
decreases-fields l = length l.rest
