-- Proves the goals of `check_under` that the prover leaves open.
use Rattle.std.proofs.Common.{◌≡◌, ◌∙◌, ◌<◌, arith, false, Some, sym}
use Rattle.minisign_external.specs.Questions.{read_under}
use Rattle.minisign_external.specs.Signing.{joined}
use Rattle.minisign_external.specs.StrictCalls.{strict}
use Rattle.minisign_lists.specs.Values.{list_verdict_under}
use Rattle.minisign_c.specs.ListSequences.{lookup_of, looked_up}
use Rattle.minisign_c.proofs.ListVerdicts.{failed_list, passed_list}
use Rattle.minisign_c.proofs.list_sequences.check_under.Goals as goal

pub returns-then-number-ne0 : goal.returns-then-number-ne0
returns-then-number-ne0 g c =
    let some : 0 < c.verify_list-number.result = omega arith in
    failed_list c.args.key.now (read_under c.args.key.now false c.args.sig_text.now)
    (list_verdict_under (strict (g.S.Scheme.accepts c.args.scheme.now)) c.args.key.now c.args.sig_text.now
    (Some c.args.list_name.now) c.args.list.now) _ _ c.verify_list-number.ensures.number some

pub returns : goal.returns
returns g c =
    let none : c.verify_list-number.result ≡ 0 = omega arith in
    c.check_file.ensures c.args.list_name.now
    ∙ passed_list c.args.key.now (read_under c.args.key.now false c.args.sig_text.now)
    (list_verdict_under (strict (g.S.Scheme.accepts c.args.scheme.now)) c.args.key.now c.args.sig_text.now
    (Some c.args.list_name.now) c.args.list.now)
    (looked_up (lookup_of c.args.list_name.now c.args.list.now c.args.long_digest c.args.name.now))
    (joined c.args.pieces.now) (sym none ∙ c.verify_list-number.ensures.number)
