-- Proves the goal of `trusted_comment_place` that the prover leaves open.
use Rattle.std.proofs.Common.{ap, ◌∙◌}
use Rattle.minisign.proofs.CommentPlaces.{in_text}
use Rattle.minisign.proofs.SignatureTexts.{read_as}
use Rattle.minisign.specs.SignatureText.{after_first_line}
use Rattle.minisign.proofs.comment_place.trusted_comment_place.Goals as goal

pub returns : goal.returns
returns c = λ t read. in_text _ _ _ t _ _ (((read_as _).value t).0 read)
    (c.after_first_line-third.ensures.value
    ∙ ap after_first_line c.after_first_line.ensures.value) c.first_line.ensures.value
    c.first_line.ensures.size c.comment_in_line-start.ensures.place
