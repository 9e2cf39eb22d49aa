-- The loop invariant and termination measure of `is_path`.
use Rattle.std.proofs.Common.{◌≡◌, length}
use Rattle.minisign_lists.specs.Names.{is_path}
use Rattle.minisign_lists.proofs.names.is_path.Given as goal

abbrev pub invariant-parts : goal.invariant-parts
invariant-parts l = is_path l.rest ≡ is_path l.fn.name

abbrev pub decreases-parts : goal.decreases-parts
decreases-parts l = length l.rest
