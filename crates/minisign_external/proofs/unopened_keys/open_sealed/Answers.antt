-- Proves the goal of `open_sealed` that the prover leaves open.
use Rattle.minisign_external.proofs.OpenedKeys.{sealed_refusal}
use Rattle.minisign_external.proofs.unopened_keys.open_sealed.Goals as goal

pub returns-in-Err : goal.returns-in-Err
returns-in-Err c =
    sealed_refusal c.args.unopened.now c.args.password.now c.args.most_rows c.take-key.result
    c.open_sealed_key.new.value c.in-Err.refusal c.requires c.in-Err.ensures
