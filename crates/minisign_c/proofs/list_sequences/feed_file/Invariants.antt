-- The loop invariant of `feed_file`.
use Rattle.std.proofs.Common.{[], take}
use Rattle.minisign_external.specs.Signing.{joined}
use Rattle.minisign_lists.specs.Values.{IsFedValue}
use Rattle.minisign_lists.specs.declared.digests.ListedDigest.{ListedDigest}
use Rattle.minisign_c.proofs.list_sequences.feed_file.Given as goal

abbrev pub invariant-pieces : goal.invariant-pieces
invariant-pieces l =
    (d : ListedDigest) → IsFedValue l.fn.file d []
    → IsFedValue l.file d (joined (take l.piece-index l.pieces))
