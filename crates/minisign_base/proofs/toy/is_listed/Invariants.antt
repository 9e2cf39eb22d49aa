-- The loop invariant of `is_listed`.
use Rattle.std.proofs.Common.{◌≡◌, false, take}
use Rattle.minisign_base.specs.Toy.{is_listed}
use Rattle.minisign_base.proofs.toy.is_listed.Given as goal

abbrev pub invariant-triples : goal.invariant-triples
invariant-triples l = is_listed (take l.triple-index l.table) l.message l.public_key l.signature ≡ false
