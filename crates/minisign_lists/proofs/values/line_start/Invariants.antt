-- The loop invariant and termination measure of `line_start`.
use Rattle.std.proofs.Common.{◌≡◌, ◌≤◌, ◌-◌, length}
use Rattle.minisign_lists.specs.Positions.{without_lines}
use Rattle.minisign_lists.proofs.values.line_start.Given as goal

abbrev pub invariant-lines : goal.invariant-lines
invariant-lines l = (without_lines (l.number - l.line_number) l.rest ≡ without_lines (l.number - 1) l.fn.text)
    × (length l.rest ≤ length l.fn.text) × (1 ≤ l.line_number)

abbrev pub decreases-lines : goal.decreases-lines
decreases-lines l = l.number - l.line_number
