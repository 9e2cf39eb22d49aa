-- Proves the goal of `twelve_rounds` that the prover leaves open.
use Rattle.std.proofs.Common.{refl}
use Rattle.minisign_hash.specs.Blake2b.{rounds}
use Rattle.minisign_hash.proofs.blake2b.twelve_rounds.Goals as goal

pub returns : goal.returns
unfolding rounds
returns c =
    rw (
      c.mix_round.ensures,
      c.order-12.ensures.row,
      c.mix_round-v-11.ensures,
      c.order-11.ensures.row,
      c.mix_round-v-10.ensures,
      c.order-10.ensures.row,
      c.mix_round-v-9.ensures,
      c.order-9.ensures.row,
      c.mix_round-v-8.ensures,
      c.order-8.ensures.row,
      c.mix_round-v-7.ensures,
      c.order-7.ensures.row,
      c.mix_round-v-6.ensures,
      c.order-6.ensures.row,
      c.mix_round-v-5.ensures,
      c.order-5.ensures.row,
      c.mix_round-v-4.ensures,
      c.order-4.ensures.row,
      c.mix_round-v-3.ensures,
      c.order-3.ensures.row,
      c.mix_round-v-2.ensures,
      c.order-2.ensures.row,
      c.mix_round-v.ensures,
      c.order.ensures.row,
    ) refl
