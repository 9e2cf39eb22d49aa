-- Proves the goal of `comment_in_line` that the prover leaves open.
use Rattle.std.proofs.Common.{ap, take, sym, ◌∙◌}
use Rattle.minisign.proofs.CommentPlaces.{in_line}
use Rattle.minisign.proofs.comment_place.comment_in_line.Goals as goal

pub returns-clause-place : goal.returns-clause-place
returns-clause-place c = λ comment labelled.
    let (n, at, spaces, more, size) = c.trim_start-rest.ensures.value in
    let (k, front, blank, ends, many, fits) = c.trim_end.ensures.value in
    in_line c.args.line.now comment c.in-Ok.comment.now c.trim_start-rest.result.now c.trim_end.result.now n
    labelled c.in-Ok.ensures c.trim_start-rest.ensures.trim at
    c.trim_end.ensures.trim (front ∙ ap (λ i. take i c.trim_start-rest.result.now) (sym many)) (rw many fits)
