-- Proves the goals of `KeyPair::generate_encrypted_keypair` that the prover leaves open.
use Rattle.std.proofs.Common.{◌≡◌, ℕ, List, ◌++◌, length, inr, arith, length-append}
use Rattle.minisign.proofs.Common.{IfErr-weaker, IfOk-weaker, random_call}
use Rattle.minisign.specs.Generation.{IsSealedPair}
use Rattle.minisign.proofs.GeneratedKeys.{sealed_pair}
use Rattle.minisign.proofs.keypair.KeyPair.generate_encrypted_keypair.Goals as goal

pub returns-clause-is_new_pair : goal.returns-clause-is_new_pair
returns-clause-is_new_pair g c =
    let public_of = g.S.Scheme.public_of c.args.scheme.now in
    let z = random_call g.Z.RandomSource c.args.random.now c.draw_with_salt.new.random in
    let seed = c.in_ok-drawn.drawn.seed in
    let keynum = c.in_ok-drawn.drawn.keynum in
    let salt : List ℕ = c.in_ok-drawn.drawn.salt in
    IfOk-weaker c.seal_pair.result _ _ (λ pair (typed, prompted, sealed).
    let made : IsSealedPair public_of typed z pair.pk pair.sk =
    record {
      seed = seed;
      keynum = keynum;
      salt = salt;
      lengths = c.in_ok-drawn.ensures.lengths;
      salt_length = c.in_ok-drawn.ensures.salt;
      drawn = c.in_ok-drawn.ensures.drawn;
      sealed = sealed;
    } in
    record {
      password = typed;
      prompted = prompted;
      pair = made;
      opens = sealed_pair _ _ z _ _ made;
    }) c.seal_pair.ensures.sealed

pub returns-clause-refused : goal.returns-clause-refused
returns-clause-refused g c =
    let seed = c.in_ok-drawn.drawn.seed in
    let keynum = c.in_ok-drawn.drawn.keynum in
    let salt = c.in_ok-drawn.drawn.salt in
    let count : length (seed ++ keynum ++ salt) ≡ 72 = simp length-append (omega (
      arith,
      c.in_ok-drawn.ensures.lengths.seed_length,
      c.in_ok-drawn.ensures.lengths.keynum_length,
      c.in_ok-drawn.ensures.salt,
    )) in
    IfErr-weaker _ _ _ (λ e failed. inr (
      record {
        bytes = seed ++ keynum ++ salt;
        count = count;
        drawn = c.in_ok-drawn.ensures.drawn;
        no_new_fault = c.in_ok-drawn.ensures.no_new_fault;
      },
      failed,
    )) c.seal_pair.ensures.refused
