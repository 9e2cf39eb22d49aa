-- Proves the goal of `read_words` that the prover leaves open.
use Rattle.std.proofs.Common.{refl, lit<}
use Rattle.minisign_hash.specs.Words.{words64_of}
use Rattle.minisign_hash.proofs.blake2b.read_words.Goals as goal

pub returns : goal.returns
unfolding words64_of
returns c =
    rw (
      c.read_row.ensures 0 (lit< tt),
      c.read_row.ensures 1 (lit< tt),
      c.read_row.ensures 2 (lit< tt),
      c.read_row.ensures 3 (lit< tt),
      c.read_row-2.ensures 0 (lit< tt),
      c.read_row-2.ensures 1 (lit< tt),
      c.read_row-2.ensures 2 (lit< tt),
      c.read_row-2.ensures 3 (lit< tt),
      c.read_row-3.ensures 0 (lit< tt),
      c.read_row-3.ensures 1 (lit< tt),
      c.read_row-3.ensures 2 (lit< tt),
      c.read_row-3.ensures 3 (lit< tt),
      c.read_row-4.ensures 0 (lit< tt),
      c.read_row-4.ensures 1 (lit< tt),
      c.read_row-4.ensures 2 (lit< tt),
      c.read_row-4.ensures 3 (lit< tt),
      c.requires,
    ) refl
