-- Proves the goals of `judge_comment` that the prover leaves open.
use Rattle.std.proofs.Common.{◌∙◌}
use Rattle.minisign_install.proofs.CommentFaults.{both_utf8, comment_not_utf8, file_not_utf8}
use Rattle.minisign_install.proofs.installation.judging.judge_comment.Goals as goal

pub returns-in-Ok-from_utf8 : goal.returns-in-Ok-from_utf8
returns-in-Ok-from_utf8 c =
    let (comment, utf8) = c.in-Ok.ensures.cases in
    let (file, named) = c.in-Ok-from_utf8.ensures.cases in
    c.judge_comment_only.ensures
    ∙ both_utf8 c.args.numbering c.args.time c.args.least c.args.file.now c.args.comment.now _ _ comment utf8
    file named

pub returns-in-Err-from_utf8 : goal.returns-in-Err-from_utf8
returns-in-Err-from_utf8 c =
    let (comment, utf8) = c.in-Ok.ensures.cases in
    rw c.into.ensures (file_not_utf8 c.args.numbering c.args.time c.args.least c.args.file.now
    c.args.comment.now utf8 c.in-Err-from_utf8.ensures.cases.0)

pub returns-in-Err : goal.returns-in-Err
returns-in-Err c =
    rw c.into-in-Err.ensures (comment_not_utf8 c.args.numbering c.args.time c.args.least c.args.file.now
    c.args.comment.now c.in-Err.ensures.cases.0)
