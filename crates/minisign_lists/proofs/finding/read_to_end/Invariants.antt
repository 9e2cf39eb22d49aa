-- The loop invariant and termination measure of `read_to_end`.
use Rattle.std.proofs.Common.{◌≡◌}
use Rattle.minisign_lists.specs.Faults.{checked}
use Rattle.minisign_lists.specs.Pieces.{IsNumbered, unread_entries_named, unread_len}
use Rattle.minisign_lists.proofs.finding.read_to_end.Given as goal

abbrev pub invariant-entries : goal.invariant-entries
invariant-entries l = IsNumbered l.entries
    × (checked (unread_entries_named l.name l.entries) ≡ checked (unread_entries_named l.name l.fn.entries))

abbrev pub decreases-entries : goal.decreases-entries
decreases-entries l = unread_len l.entries
