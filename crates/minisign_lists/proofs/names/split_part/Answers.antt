-- Proves the goals of `split_part` that the prover leaves open.
use Rattle.std.proofs.Common.{◌+◌, ◌<◌, length, arith, rules}
use Rattle.std.proofs.lemmas.List.Sums.{position_or_len_is, fails_before_first}
use Rattle.std.proofs.lemmas.List.{take_rest}
use Rattle.std.proofs.lemmas.List.Splits.{slice_split_first, slice_split_none}
use Rattle.minisign_lists.specs.Names.{is_slash}
use Rattle.minisign_lists.proofs.names.split_part.Goals as goal

pub returns-in-Some-clause-some : goal.returns-in-Some-clause-some
returns-in-Some-clause-some c =
    let path = c.args.path.now in
    let at = c.in-Some.at in
    let found = position_or_len_is is_slash path at 0 (search rules) (search rules) (search rules) in
    let within : c.in-Some.at < length path = search rules in
    let rest = take_rest path (c.in-Some.at + 1) in
    rw (rest, ← found) (slice_split_first is_slash path 0 (omega (arith, found, within)))

pub returns-in-None-clause-none : goal.returns-in-None-clause-none
returns-in-None-clause-none c =
    let path = c.args.path.now in
    let none = position_or_len_is is_slash path (length path) 0 (omega arith) (search rules) (search rules) in
    slice_split_none is_slash path
    (λ k d m. fails_before_first is_slash path k d (omega (arith, none, m)))
