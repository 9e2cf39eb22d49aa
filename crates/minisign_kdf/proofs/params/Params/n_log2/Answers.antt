-- Proves the goal of `Params::n_log2` that the prover leaves open.
use Rattle.minisign_kdf.proofs.ParamsFacts.{n_log2_small}
use Rattle.minisign_kdf.proofs.params.Params.n_log2.Goals as goal

pub returns-clause-small : goal.returns-clause-small
returns-clause-small c = n_log2_small
    (record { n_log2 = c.self.inside.n_log2; r = c.self.inside.r; p = c.self.inside.p }) c.self.invariant
