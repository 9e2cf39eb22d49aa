-- Proves the goal of `make_sealed` that the prover leaves open.
use Rattle.std.proofs.Common.{arith}
use Rattle.minisign.proofs.GeneratedKeys.{made_sealed, of_text}
use Rattle.minisign.proofs.making.make_sealed.Goals as goal

pub returns-clause-text : goal.returns-clause-text
returns-clause-text c = λ keynum secret is.
    of_text _ _ _ _ _ c.to_box.ensures.text c.to_box.ensures.reads_back c.to_box.ensures.size
    (λ text. made_sealed _ _ _ _ _ _ _ (omega arith) (omega arith)
    (c.in_ok-sealed.ensures.sealed keynum secret is) (c.in_ok-sealed.ensures.opened keynum secret is)
    c.in_ok-sealed.ensures.allowed)
