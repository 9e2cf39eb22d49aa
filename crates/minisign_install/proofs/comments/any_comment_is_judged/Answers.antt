-- Proves the goal of `any_comment_is_judged` that the prover leaves open.
use Rattle.minisign_install.proofs.Decisions.{comment_refused, comment_says}
use Rattle.minisign_install.proofs.comments.any_comment_is_judged.Goals as goal

pub returns : goal.returns
returns c = record { accepted = comment_says; rejected = comment_refused }
