-- Proves the goals of `split_line` that the prover leaves open.
use Rattle.std.proofs.Common.{◌+◌, ◌<◌, ◌∙◌, length, drop, ap, sym, arith, rules}
use Rattle.std.proofs.lemmas.List.Sums.{position_or_len_is, fails_before_first}
use Rattle.std.proofs.lemmas.List.{take_rest, drop_all}
use Rattle.std.proofs.lemmas.List.Splits.{slice_split_first, slice_split_none}
use Rattle.minisign_lists.specs.Pieces.{is_feed}
use Rattle.minisign_lists.proofs.entries.split_line.Goals as goal

pub returns-in-Some-clause-some : goal.returns-in-Some-clause-some
returns-in-Some-clause-some c =
    let text = c.args.text.now in
    let at = c.in-Some.at in
    let found = position_or_len_is is_feed text at 0 (search rules) (search rules) (search rules) in
    let within : c.in-Some.at < length text = search rules in
    let rest = take_rest text (c.in-Some.at + 1) in
    rw (rest, ← found) (slice_split_first is_feed text 0 (omega (arith, found, within)))

pub returns-in-None-clause-none : goal.returns-in-None-clause-none
returns-in-None-clause-none c =
    let text = c.args.text.now in
    let none = position_or_len_is is_feed text (length text) 0 (omega arith) (search rules) (search rules) in
    slice_split_none is_feed text
    (λ k d m. fails_before_first is_feed text k d (omega (arith, none, m)))

pub returns-in-Some-clause-text_after_line : goal.returns-in-Some-clause-text_after_line
returns-in-Some-clause-text_after_line c =
    let text = c.args.text.now in
    let at = c.in-Some.at in
    let found = position_or_len_is is_feed text at 0 (search rules) (search rules) (search rules) in
    take_rest text (c.in-Some.at + 1) ∙ ap (λ n. drop (n + 1) text) (sym found)

pub returns-in-None-clause-nothing_after_line : goal.returns-in-None-clause-nothing_after_line
returns-in-None-clause-nothing_after_line c =
    let text = c.args.text.now in
    let none = position_or_len_is is_feed text (length text) 0 (omega arith) (search rules) (search rules) in
    ap (λ n. drop (n + 1) text) none ∙ drop_all (length text + 1) text (omega arith)
