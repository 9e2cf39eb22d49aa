-- Proves the goal of `zero_padded` that the prover leaves open.
use Rattle.std.proofs.Common.{◌≡◌, ◌-◌, ◌++◌, length, replicate, ◌∙◌}
use Rattle.std.proofs.lemmas.List.{drop-replicate}
use Rattle.minisign_kdf.proofs.hmac.zero_padded.Goals as goal

pub returns : goal.returns
returns c =
    let rest : c.split_at_mut-front.result.1.now ≡ replicate (64 - length c.args.key.now) 0 =
    c.split_at_mut-front.ensures.back ∙ drop-replicate (length c.args.key.now) 64 0 in
    (λ t. c.copy_from_slice.ensures.after t ++ rest t)
