-- The loop invariant and termination measure of `count_entries`.
use Rattle.std.proofs.Common.{◌≡◌, ◌≤◌, ◌+◌, ◌-◌, ◌^◌, length}
use Rattle.minisign_lists.specs.Faults.{map_ok}
use Rattle.minisign_lists.specs.Lists.{read_list}
use Rattle.minisign_lists.specs.Pieces.{IsNumbered, unread_entries, unread_len}
use Rattle.minisign_lists.proofs.values.count_entries.Given as goal

abbrev pub invariant-entries : goal.invariant-entries
invariant-entries l = IsNumbered l.entries × (l.count + unread_len l.entries ≤ 2 ^ 64 - 1)
    × (map_ok (λ es. l.count + length es) (unread_entries l.entries)
    ≡ map_ok length (read_list l.fn.long l.list))

abbrev pub decreases-entries : goal.decreases-entries
decreases-entries l = unread_len l.entries
