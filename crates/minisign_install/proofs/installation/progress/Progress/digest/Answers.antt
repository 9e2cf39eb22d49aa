-- Proves the goals of `Progress::digest` that the prover leaves open.
use Rattle.std.proofs.lemmas.Bool.{eq-eqb, ne_eqb}
use Rattle.minisign_install.proofs.HeldListings.{blake2b_read, digest_of_data, digest_of_list}
use Rattle.minisign_install.proofs.installation.progress.Progress.digest.Goals as goal

pub returns-then-self-eq1 : goal.returns-then-self-eq1
returns-then-self-eq1 c = λ s state_held.
    digest_of_list c.args.self.now s state_held (eq-eqb _ 1 c.if-self-eq1.true)

pub returns-else-self-eq1 : goal.returns-else-self-eq1
returns-else-self-eq1 c = λ s state_held.
    let is = ne_eqb c.args.self.now.chosen.is_list 1 c.if-self-eq1.false in
    digest_of_data c.args.self.now s state_held _ is
    (c.blake2b_digest.ensures _ (blake2b_read c.args.self.now s state_held is))
