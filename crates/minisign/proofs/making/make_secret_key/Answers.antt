-- Proves the goal of `make_secret_key` that the prover leaves open.
use Rattle.minisign.proofs.GeneratedKeys.{made_unsealed, of_text}
use Rattle.minisign.proofs.making.make_secret_key.Goals as goal

pub returns-in-None-clause-text : goal.returns-in-None-clause-text
returns-in-None-clause-text c = rw c.in-None.is (
    of_text _ _ _ _ _ c.to_box.ensures.text c.to_box.ensures.reads_back c.to_box.ensures.size
    (λ text. made_unsealed _ _ _ _ _ _ c.from_parts-sk.ensures)
    )
