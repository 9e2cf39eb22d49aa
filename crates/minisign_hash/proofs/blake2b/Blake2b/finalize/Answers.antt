-- Proves the goals of `Blake2b::finalize` that the prover leaves open.
use Rattle.std.proofs.Common.{ℕ, take, ap, ◌∙◌}
use Rattle.minisign_hash.specs.Fed.{Holds, IsFed, output_length}
use Rattle.minisign_hash.proofs.blake2b.Blake2b.finalize.Goals as goal

pub returns-clause-digest : goal.returns-clause-digest
unfolding output_length
returns-clause-digest c =
    let n : ℕ = c.args.self.now.outlen in
    λ m fed. c.copy_from_slice.ensures.after ∙ c.split_at.ensures.front ∙ ap (take n) c.write_u64v_le.ensures
    ∙ c.last_state-h.ensures m fed

pub returns-clause-fed : goal.returns-clause-fed
unfolding Holds IsFed
returns-clause-fed c = λ m fed. fed
