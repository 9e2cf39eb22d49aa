-- The loop invariant and termination measure of `write_entries`.
use Rattle.std.specs.Prelude.{Ok}
use Rattle.std.proofs.Common.{◌≡◌, ◌≤◌, ◌+◌, List, length}
use Rattle.minisign_lists.specs.Lines.{Entry}
use Rattle.minisign_lists.specs.Lists.{read_list}
use Rattle.minisign_lists.specs.Positions.{without_lines}
use Rattle.minisign_lists.proofs.EntryBuffers.{IsWritten}
use Rattle.minisign_lists.proofs.values.write_entries.Given as goal

abbrev pub invariant-lines : goal.invariant-lines
invariant-lines l = (l.line_number + length l.rest ≤ length l.text)
    × (l.rest ≡ without_lines l.line_number l.text)
    × (length l.to ≡ length l.fn.to)
    × ((es : List Entry) → read_list l.fn.long l.text ≡ Ok es → length es ≤ length l.fn.to
    → IsWritten l.fn.long l.text l.fn.to l.to l.line_number l.count l.rest es)

abbrev pub decreases-lines : goal.decreases-lines
decreases-lines l = length l.rest
