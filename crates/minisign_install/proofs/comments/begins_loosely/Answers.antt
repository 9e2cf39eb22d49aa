-- Proves the goal of `begins_loosely` that the prover leaves open.
use Rattle.std.proofs.Common.{◌≡◌, ◌∙◌, length, rules, sym}
use Rattle.minisign_install.proofs.Fields.{ended}
use Rattle.minisign_install.proofs.comments.begins_loosely.Goals as goal

pub returns : goal.returns
returns c =
    let none : length c.letters.rest.now ≡ 0 = search rules in
    c.is_empty.ensures ∙ sym (ended c.letters.label.now c.letters.rest.now none) ∙ c.letters.invariant
