-- Proves the goals of `Blake2b::add_and_take_in` that the prover leaves open.
use Rattle.std.proofs.Common.{◌≡◌, ◌++◌, List, ℕ, arith, sym, ap, append_assoc, subst, ◌∙◌}
use Rattle.std.proofs.lemmas.List.{take-append-drop}
use Rattle.minisign_hash.specs.Fed.{Holds}
use Rattle.minisign_hash.proofs.blake2b.Blake2b.add_and_take_in.Goals as goal

pub returns-clause-used : goal.returns-clause-used
returns-clause-used c = omega (arith, c.split_last_block.ensures.some (omega arith))

pub returns-clause-holds : goal.returns-clause-holds
returns-clause-holds c = λ m held.
    let front : List ℕ = c.split_at.result.0.now in
    let rest : List ℕ = c.split_at.result.1.now in
    let blocks : List ℕ = c.split_last_block.result.0.now in
    let last : List ℕ = c.split_last_block.result.1.now in
    let cut : front ++ rest ≡ c.args.input.now = rw (c.split_at.ensures.front, c.split_at.ensures.back)
    (take-append-drop _ c.args.input.now) in
    let parts : ((m ++ front) ++ blocks) ++ last ≡ m ++ c.args.input.now =
    append_assoc (m ++ front) blocks last ∙ append_assoc m front (blocks ++ last)
    ∙ ap (λ (l : List ℕ). m ++ (front ++ l)) (sym c.split_last_block.ensures.bytes)
    ∙ ap (λ (l : List ℕ). m ++ l) cut in
    subst (Holds c.add-2.new.self) parts
    (c.add-2.ensures.holds _
    (c.take_in.ensures.holds _ (c.take_in_buffer.ensures.holds _ (c.add.ensures.holds m held))))
