-- The loop invariant and termination measure of `file_field`.
use Rattle.std.specs.Prelude.{find}
use Rattle.std.specs.List.{slice_split}
use Rattle.std.proofs.Common.{◌≡◌, length}
use Rattle.minisign_lists.specs.Comments.{has_label, is_tab}
use Rattle.minisign_lists.proofs.comments.file_field.Given as goal

abbrev pub invariant-fields : goal.invariant-fields
invariant-fields l =
    find has_label (slice_split is_tab l.rest) ≡ find has_label (slice_split is_tab l.fn.comment)

abbrev pub decreases-fields : goal.decreases-fields
decreases-fields l = length l.rest
