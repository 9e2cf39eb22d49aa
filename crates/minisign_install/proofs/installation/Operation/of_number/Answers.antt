-- Proves the goal of `Operation::of_number` that the prover leaves open.
use Rattle.std.proofs.Common.{◌≤◌, arith, sym}
use Rattle.std.proofs.lemmas.List.{get_or_past}
use Rattle.minisign_install.specs.Step.{Nothing, operations}
use Rattle.minisign_install.proofs.installation.Operation.of_number.Goals as goal

pub returns-then-number-gt30 : goal.returns-then-number-gt30
returns-then-number-gt30 c =
    let past : 31 ≤ c.args.number = omega (arith, c.if-number-gt30.true) in
    sym (get_or_past operations c.args.number Nothing past)
