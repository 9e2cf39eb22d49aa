-- Proves the goals of `put_fault` that the prover leaves open.
use Rattle.std.proofs.Common.{[], ◌∷◌, codes}
use Rattle.std.proofs.lemmas.Result.{on_err_weaker}
use Rattle.minisign.specs.Texts.{line}
use Rattle.minisign.proofs.Laws.{AppendsPrefix-after, AppendsPrefix-more}
use Rattle.minisign_tool.proofs.Outcomes.{on_err_of}
use Rattle.minisign_tool.proofs.report.put_fault.Goals as goal

pub returns-in_err-write_all-clause-prefix_received : goal.returns-in_err-write_all-clause-prefix_received
returns-in_err-write_all-clause-prefix_received g c =
    on_err_of _ _ (AppendsPrefix-more _ _ (codes "error: ")
    (line c.args.text.now) c.in_err-write_all.ensures.prefix_received)

pub returns-in_err-write_all-2-clause-prefix_received : goal.returns-in_err-write_all-2-clause-prefix_received
returns-in_err-write_all-2-clause-prefix_received g c =
    on_err_of _ _ (AppendsPrefix-after _ _ _ (codes "error: ")
    (line c.args.text.now) c.in_ok-write_all.ensures.bytes
    (AppendsPrefix-more _ _ c.args.text.now (10 ∷ []) c.in_err-write_all-2.ensures.prefix_received))

pub returns-in_ok-write_all-2-clause-prefix_received : goal.returns-in_ok-write_all-2-clause-prefix_received
returns-in_ok-write_all-2-clause-prefix_received g c =
    on_err_weaker c.write_all-else-text-le504-3.result
    (λ front. AppendsPrefix-after _ _ _ (codes "error: ")
    (line c.args.text.now) c.in_ok-write_all.ensures.bytes
    (AppendsPrefix-after _ _ _ c.args.text.now (10 ∷ []) c.in_ok-write_all-2.ensures.bytes front))
    c.write_all-else-text-le504-3.ensures.prefix_received
