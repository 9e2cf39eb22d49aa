-- Proves the goal of `read_unopened_key` that the prover leaves open.
use Rattle.std.proofs.Common.{Ok, ap, sym, ◌∙◌}
use Rattle.minisign_external.specs.SecretKeys.{unopened_record}
use Rattle.minisign_external.proofs.UnopenedKeys.{opens_as}
use Rattle.minisign_external.proofs.unopened_keys.read_unopened_key.Goals as goal

pub returns-in-Ok-clause-opens : goal.returns-in-Ok-clause-opens
returns-in-Ok-clause-opens c =
    opens_as c.of_bytes.result c.args.sk_text.now
    (c.in-Ok.ensures ∙ ap (λ v. Ok (unopened_record v)) (sym c.of_bytes.ensures))
