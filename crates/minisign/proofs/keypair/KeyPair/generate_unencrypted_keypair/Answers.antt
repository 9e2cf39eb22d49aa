-- Proves the goals of `KeyPair::generate_unencrypted_keypair` that the prover leaves open.
use Rattle.std.proofs.Common.{◌≡◌, Ok, subst, sym}
use Rattle.minisign.specs.Sealing.{unencrypted_key}
use Rattle.minisign.proofs.GeneratedKeys.{unsealed_is_unencrypted}
use Rattle.minisign.proofs.Openings.{unencrypted_text}
use Rattle.minisign.proofs.keypair.KeyPair.generate_unencrypted_keypair.Goals as goal

pub returns-clause-unencrypted : goal.returns-clause-unencrypted
returns-clause-unencrypted g c = subst (λ k. unencrypted_key k ≡ Ok k) (sym c.make_pair.ensures.secret)
    (unsealed_is_unencrypted _ _)

pub returns-clause-texts : goal.returns-clause-texts
returns-clause-texts g c = λ text read. unencrypted_text _ _ _ read (returns-clause-unencrypted g c)
