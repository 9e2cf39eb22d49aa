-- Proves the goals of `Blake2b::update` that the prover leaves open.
use Rattle.std.proofs.Common.{arith, length-append}
use Rattle.minisign_hash.specs.Fed.{IsFed}
use Rattle.minisign_hash.proofs.blake2b.Blake2b.update.Goals as goal

pub returns-then-input-self-clause-fed : goal.returns-then-input-self-clause-fed
unfolding IsFed
returns-then-input-self-clause-fed c = λ m (held, lazy). (
  c.add.ensures.holds m held,
  λ any. grind (arith, any, lazy, length-append m c.args.input.now, c.add.ensures.used),
)

pub returns-else-input-self-clause-fed : goal.returns-else-input-self-clause-fed
unfolding IsFed
returns-else-input-self-clause-fed c = λ m (held, lazy).
    (c.add_and_take_in.ensures.holds m held, λ any. c.add_and_take_in.ensures.used)
