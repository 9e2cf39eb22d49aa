-- Proves the goal of `make_sealed_pair` that the prover leaves open.
use Rattle.std.proofs.Common.{◌∙◌}
use Rattle.minisign.proofs.ErrorsAndPrefixes.{passed_up}
use Rattle.minisign.proofs.GeneratedKeys.{only_memory}
use Rattle.minisign.proofs.keypair.make_sealed_pair.Goals as goal

pub returns-in_err-sk-clause-only_out_of_memory : goal.returns-in_err-sk-clause-only_out_of_memory
returns-in_err-sk-clause-only_out_of_memory g c =
    passed_up _ _ _ c.from_residual.ensures.1 (c.in_err-sk.ensures.refused ∙ only_memory)
