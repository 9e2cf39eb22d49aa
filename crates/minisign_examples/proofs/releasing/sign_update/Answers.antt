-- Proves the goal of `sign_update` that the prover leaves open.
use Rattle.std.proofs.Common.{string_bytes}
use Rattle.minisign.specs.DeviceCalls.{random_call}
use Rattle.minisign_examples.proofs.SignedPairs.{signed_by_pair}
use Rattle.minisign_examples.proofs.releasing.sign_update.Goals as goal

pub returns : goal.returns
returns g c pk pair =
    signed_by_pair string_bytes c.sign_bytes.result (g.S.Scheme.accepts c.args.scheme.now)
    (g.S.Scheme.public_of c.args.scheme.now) pk c.args.sk.now c.args.update.now _
    (random_call g.Z.RandomSource c.args.random.now c.sign_bytes.new.random) pair
    c.default_comments_are_read_back.ensures c.sign_bytes.ensures.headline c.sign_bytes.ensures.refused
