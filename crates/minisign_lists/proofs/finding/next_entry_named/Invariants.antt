-- The loop invariant and termination measure of `next_entry_named`.
use Rattle.std.proofs.Common.{◌≡◌, ◌≤◌}
use Rattle.minisign_lists.specs.Pieces.{IsNumbered, unread_entries_named, unread_len}
use Rattle.minisign_lists.proofs.finding.next_entry_named.Given as goal

abbrev pub invariant-entries : goal.invariant-entries
invariant-entries l = (unread_entries_named l.name l.entries ≡ unread_entries_named l.name l.fn.entries)
    × IsNumbered l.entries
    × (unread_len l.entries ≤ unread_len l.fn.entries)

abbrev pub decreases-entries : goal.decreases-entries
decreases-entries l = unread_len l.entries
