-- Proves the goal of `padded` that the prover leaves open.
use Rattle.std.proofs.Common.{◌++◌, ◌∙◌, ap₂, length}
use Rattle.std.proofs.lemmas.List.{drop-replicate}
use Rattle.minisign_hash.proofs.blake2b.padded.Goals as goal

pub returns : goal.returns
returns c = ap₂ ◌++◌ c.copy_from_slice.ensures.after
    (c.split_at_mut-front.ensures.back ∙ drop-replicate (length c.args.last.now) 128 0)
