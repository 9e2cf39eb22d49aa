-- Proves the goals of `open_parsed` that the prover leaves open.
use Rattle.minisign_c.proofs.Refusals.{sealed_refusal, unsealed_refusal}
use Rattle.minisign_c.proofs.sequences.open_parsed.Goals as goal

pub returns-in-Some-clause-refused : goal.returns-in-Some-clause-refused
returns-in-Some-clause-refused c some = rw c.in-Some.is
    (sealed_refusal c.args.unopened.now c.in-Some.password.now c.args.key_text.now.most_rows _ _ _
    c.requires c.minisign_open_sealed_key.ensures some)

pub returns-in-None-clause-refused : goal.returns-in-None-clause-refused
returns-in-None-clause-refused c some = rw c.in-None.is
    (unsealed_refusal c.args.unopened.now c.args.key_text.now.most_rows _ _ _ c.requires
    c.minisign_open_unsealed_key.ensures some)
