-- Proves the goal of `number_in` that the prover leaves open.
use Rattle.minisign_install.proofs.CommentFaults.{number_is}
use Rattle.minisign_install.proofs.installation.judging.number_in.Goals as goal

pub returns : goal.returns
returns c = number_is c.args.text.now c.number_of.result c.number_of.ensures
