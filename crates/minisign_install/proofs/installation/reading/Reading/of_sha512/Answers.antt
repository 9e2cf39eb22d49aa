-- Proves the goal of `Reading::of_sha512` that the prover leaves open.
use Rattle.std.specs.Prelude.{List, ℕ, replicate, length, ◌≡◌}
use Rattle.std.proofs.Common.{ap, arith}
use Rattle.minisign_install.proofs.HeldListings.{front_is}
use Rattle.minisign_install.proofs.installation.reading.Reading.of_sha512.Goals as goal
use Rattle.minisign_sha2.specs.declared.stored.StoredSha512.{StoredSha512}

pub returns : goal.returns
returns c =
    let with : List ℕ → StoredSha512 = λ b. record {
      h = c.args.stored.now.h;
      buffer = b;
      count_low = c.args.stored.now.count_low;
      count_high = c.args.stored.now.count_high;
    } in
    let size : length c.args.stored.now.buffer ≡ 128 = omega arith in
    ap with (front_is 128 _ _ (replicate 128 0) size c.widened_128.ensures)
