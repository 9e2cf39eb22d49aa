-- Proves the goal of `ListValue::verdict` that the prover leaves open.
use Rattle.minisign_lists.proofs.AskedLists.{list_decided}
use Rattle.minisign_lists.proofs.values.ListValue.verdict.Goals as goal

pub returns-clause-verdict : goal.returns-clause-verdict
returns-clause-verdict c = λ v sig_text text name accepts has answers.
    list_decided _ v sig_text text name accepts _ _ _ _ c.decide.ensures has answers
