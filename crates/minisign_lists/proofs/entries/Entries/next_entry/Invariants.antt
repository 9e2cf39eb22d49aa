-- The loop invariant and termination measure of `Entries::next_entry`.
use Rattle.std.proofs.Common.{◌≡◌, ◌≤◌}
use Rattle.minisign_lists.specs.Pieces.{IsNumbered, unread_entries, unread_len}
use Rattle.minisign_lists.proofs.entries.Entries.next_entry.Given as goal

abbrev pub invariant-lines : goal.invariant-lines
invariant-lines l = (unread_entries l.self ≡ unread_entries l.fn.self) × IsNumbered l.self
    × (unread_len l.self ≤ unread_len l.fn.self)

abbrev pub decreases-lines : goal.decreases-lines
decreases-lines l = unread_len l.self
