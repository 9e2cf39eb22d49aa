-- Proves the goal of `FileValue::store_256` that the prover leaves open.
use Rattle.std.proofs.Common.{◌≡◌, ◌∙◌, ap, arith, length, take, replicate}
use Rattle.std.proofs.lemmas.List.{take_at}
use Rattle.minisign_lists.proofs.values.FileValue.store_256.Goals as goal

pub returns-clause-digest : goal.returns-clause-digest
returns-clause-digest c =
    let digest = c.args.digest.now in
    let size : length digest ≡ 32 = omega arith in
    ap (take 32) c.padded-bytes.ensures ∙ take_at digest (replicate 32 0) 32 size
