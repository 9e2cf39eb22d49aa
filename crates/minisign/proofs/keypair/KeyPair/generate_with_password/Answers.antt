-- Proves the goals of `KeyPair::generate_with_password` that the prover leaves open.
use Rattle.std.proofs.Common.{◌≡◌, ◌≤◌, ◌++◌, length, inr, arith, length-append}
use Rattle.minisign.proofs.Common.{IfErr-weaker, IfOk-weaker, random_call}
use Rattle.minisign.proofs.GeneratedKeys.{sealed_pair}
use Rattle.minisign.proofs.keypair.KeyPair.generate_with_password.Goals as goal

pub returns-clause-opens : goal.returns-clause-opens
returns-clause-opens g c =
    let z = random_call g.Z.RandomSource c.args.random.now c.draw_with_salt.new.random in
    let drawn = c.in_ok-drawn.ensures in
    IfOk-weaker _ _ _ (λ pair sealed. sealed_pair _ _ z _ _ (record {
      seed = _;
      keynum = _;
      salt = _;
      lengths = drawn.lengths;
      salt_length = drawn.salt;
      drawn = drawn.drawn;
      sealed = rw (c.as_bytes.ensures.value) at sealed;
    })) c.make_sealed_pair.ensures.sealed

pub returns-clause-refused : goal.returns-clause-refused
returns-clause-refused g c =
    let drawn = c.in_ok-drawn.ensures in
    let seed = c.in_ok-drawn.drawn.seed in
    let keynum = c.in_ok-drawn.drawn.keynum in
    let salt = c.in_ok-drawn.drawn.salt in
    let count : length (seed ++ keynum ++ salt) ≡ 72 = simp length-append
    (omega (arith, drawn.lengths.seed_length, drawn.lengths.keynum_length, drawn.salt)) in
    let short : length c.args.password.now ≤ 1024 = omega (arith, c.if-password-gt-PASSWORD_BYTES.false) in
    IfErr-weaker _ _ _ (λ e memory. inr (
      short,
      inr (
        record {
          bytes = seed ++ keynum ++ salt;
          count = count;
          drawn = drawn.drawn;
          no_new_fault = drawn.no_new_fault;
        },
        memory,
      ),
    )) c.make_sealed_pair.ensures.only_out_of_memory
