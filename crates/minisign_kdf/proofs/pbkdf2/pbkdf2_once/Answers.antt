-- Proves the goals of `pbkdf2_once` that the prover leaves open.
use Rattle.std.proofs.Common.{◌≡◌, ℕ, ◌/◌, ◌<◌, List, length, take, ap, ◌∙◌, arith}
use Rattle.std.proofs.lemmas.Bool.Decides.{nat_tests}
use Rattle.minisign_kdf.proofs.Keys.{pbkdf2_cut, pbkdf2_whole}
use Rattle.minisign_kdf.proofs.pbkdf2.pbkdf2_once.Goals as goal

pub returns-then-not-is_empty : goal.returns-then-not-is_empty
returns-then-not-is_empty c =
    let rest : List ℕ = c.split_at_mut-whole.result.1.now in
    let some : 0 < length rest = grind (arith, nat_tests) in
    pbkdf2_cut c.args.password.now c.args.salt.now c.write_blocks.new.out c.copy_from_slice.new.self
    (length c.args.out.now / 32) (length rest) (length c.args.out.now)
    c.write_blocks.ensures (omega arith) (omega arith) some (omega arith)
    (c.copy_from_slice.ensures.after ∙ c.split_at.ensures.front
    ∙ ap (take (length rest)) c.derived_block-last.ensures)

pub returns-else-not-is_empty : goal.returns-else-not-is_empty
returns-else-not-is_empty c =
    let rest : List ℕ = c.split_at_mut-whole.result.1.now in
    let none : length rest ≡ 0 = grind (arith, nat_tests) in
    pbkdf2_whole c.args.password.now c.args.salt.now c.write_blocks.new.out rest (length c.args.out.now / 32)
    (length c.args.out.now)
    c.write_blocks.ensures (omega arith) (omega arith) none
