-- Proves the goal of `Reading::of_sha256` that the prover leaves open.
use Rattle.std.specs.Prelude.{List, ℕ, replicate, length, ◌≡◌}
use Rattle.std.proofs.Common.{ap, arith}
use Rattle.minisign_install.proofs.HeldListings.{front_is}
use Rattle.minisign_install.proofs.installation.reading.Reading.of_sha256.Goals as goal
use Rattle.minisign_sha2.specs.declared.stored.StoredSha256.{StoredSha256}

pub returns : goal.returns
returns c =
    let with : List ℕ → StoredSha256 = λ b. record {
      h = c.args.stored.now.h;
      buffer = b;
      count = c.args.stored.now.count;
    } in
    let size : length c.args.stored.now.buffer ≡ 64 = omega arith in
    ap with (front_is 64 _ _ (replicate 192 0) size c.widened_64.ensures)
