-- Proves the goal of `open_with_password` that the prover leaves open.
use Rattle.minisign.proofs.Openings.{with_password}
use Rattle.minisign.proofs.key_calls.open_with_password.Goals as goal

pub returns : goal.returns
returns c = with_password _ _ _ c.key_of_text.ensures.gives
