-- The loop invariant and termination measure of `is_base64`.
use Rattle.std.proofs.Common.{◌≡◌, length}
use Rattle.minisign.specs.Texts.{is_base64}
use Rattle.minisign.proofs.base64_front.is_base64.Given as goal

abbrev pub invariant-pieces : goal.invariant-pieces
invariant-pieces l = is_base64 l.fn.text ≡ is_base64 l.rest

abbrev pub decreases-pieces : goal.decreases-pieces
decreases-pieces l = length l.rest
