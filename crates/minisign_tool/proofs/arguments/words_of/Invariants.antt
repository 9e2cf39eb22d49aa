-- The loop invariant of `words_of`.
use Rattle.std.proofs.Common.{◌≡◌, map, string_bytes, take}
use Rattle.minisign_tool.proofs.arguments.words_of.Given as goal

abbrev pub invariant-words : goal.invariant-words
invariant-words l = map (λ w. w.now) l.words.items ≡ map (λ s. string_bytes s)
    (take l.argument-index l.behind)
