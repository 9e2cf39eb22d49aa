-- Proves the goal of `ListedDigest::padded` that the prover leaves open.
use Rattle.std.proofs.Common.{◌≡◌, ◌∙◌, ap, arith, length, take, replicate}
use Rattle.std.proofs.lemmas.List.{take_at}
use Rattle.minisign_lists.specs.declared.digests.ListedDigest.TheVariants as listed
use Rattle.minisign_lists.proofs.digests.ListedDigest.padded.Goals as goal

pub returns-in-Sha256-clause-back : goal.returns-in-Sha256-clause-back
returns-in-Sha256-clause-back c =
    let digest = c.in-Sha256.digest in
    let size : length digest ≡ 32 = omega arith in
    rw c.in-Sha256.is
    (ap listed.Sha256 (ap (take 32) c.padded.ensures ∙ take_at digest (replicate 32 0) 32 size))
