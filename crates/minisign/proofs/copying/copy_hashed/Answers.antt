-- Proves the goal of `copy_hashed` that the prover leaves open.
use Rattle.std.proofs.Common.{[], refl, rules}
use Rattle.minisign.proofs.Common.{AppendsPrefix-keeps}
use Rattle.minisign.proofs.ErrorsAndPrefixes.{passed_up}
use Rattle.minisign.proofs.Copies.{prefix_of_nothing, keeps_same}
use Rattle.minisign.proofs.copying.copy_hashed.Goals as goal

pub returns-in_err-buf-clause-refused : goal.returns-in_err-buf-clause-refused
returns-in_err-buf-clause-refused g c =
    let (message, ahead, front) = prefix_of_nothing _ _ _ (keeps_same _) in
    passed_up _ _ _ c.from_residual.ensures.1 (
      message,
      record {
        read = tt;
        since = tt;
        received = tt;
        no_new_fault = tt;
        failed = search rules;
        ahead = ahead;
        left = search rules;
        front = front;
        prefix_read = ([], c.requires, AppendsPrefix-keeps _ _ _ (keeps_same _));
        marked = refl;
        unflushed = refl;
      },
    )
