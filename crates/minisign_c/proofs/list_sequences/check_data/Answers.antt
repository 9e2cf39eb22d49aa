-- Proves the goal of `check_data` that the prover leaves open.
use Rattle.std.proofs.Common.{arith}
use Rattle.minisign_c.proofs.list_sequences.check_data.Goals as goal

pub returns-then-number-ne0-2 : goal.returns-then-number-ne0-2
returns-then-number-ne0-2 c = λ d is.
    let (zero, begun) = c.minisign_list_begin-number.ensures.begun d is in
    let (none, fed) = c.feed_file-number.ensures d begun in
    absurd (omega (arith, none, c.if-number-ne0-2.true))
