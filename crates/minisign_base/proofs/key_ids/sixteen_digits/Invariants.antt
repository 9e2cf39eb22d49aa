-- The loop invariant and termination measure of `sixteen_digits`.
use Rattle.std.proofs.Common.{◌≡◌, ◌≤◌, [], length, drop}
use Rattle.minisign_base.specs.KeyIds.{last_digits}
use Rattle.minisign_base.proofs.key_ids.sixteen_digits.Given as goal

abbrev pub invariant-places : goal.invariant-places
invariant-places l = (l.place ≤ 16) × (length l.digits ≡ 16)
    × (last_digits l.place l.left (drop l.place l.digits) ≡ last_digits 16 l.fn.number [])

abbrev pub decreases-places : goal.decreases-places
decreases-places l = l.place
