-- Proves the goal of `NamedFault::text` that the prover leaves open.
use Rattle.minisign_base.proofs.faults.NamedFault.text.Goals as goal

pub returns-in-DifferentKeyIds : goal.returns-in-DifferentKeyIds
returns-in-DifferentKeyIds c = rw
    (c.in-DifferentKeyIds.is, ← c.digits.ensures, ← c.digits-in-DifferentKeyIds.ensures) c.joined.ensures
