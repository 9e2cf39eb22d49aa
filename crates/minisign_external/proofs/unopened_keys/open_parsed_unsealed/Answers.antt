-- Proves the goal of `open_parsed_unsealed` that the prover leaves open.
use Rattle.minisign_external.proofs.OpenedKeys.{unsealed_refusal}
use Rattle.minisign_external.proofs.unopened_keys.open_parsed_unsealed.Goals as goal

pub returns-in-Err : goal.returns-in-Err
returns-in-Err c = unsealed_refusal c.args.unopened.now 0 c.take-key.result c.open_unsealed_key.new.value
    c.in-Err.refusal c.requires c.in-Err.ensures
