-- Proves the goals of `after_blocks` that the prover leaves open.
use Rattle.std.proofs.Common.{◌≡◌, ◌+◌, ◌-◌, ◌*◌, ◌/◌, ℕ, List, arith, length, refl, take, drop, ◌∙◌}
use Rattle.std.proofs.lemmas.List.{take_all}
use Rattle.minisign_hash.proofs.Feeding.{state_next}
use Rattle.minisign_hash.proofs.blake2b.after_blocks.Goals as goal

pub ahead-init : goal.ahead-init
ahead-init c = (
  λ flag step n m behind i ahead state count.
      let none : i + 0 ≡ i = omega arith in
      (rw none state, rw none count),
  λ start. (refl, refl),
  λ one. absurd (omega arith),
)

pub ahead-preserved : goal.ahead-preserved
ahead-preserved c =
    let blocks : List ℕ = c.args.blocks.now in
    let k : ℕ = c.ahead.k in
    let size : 128 * k + 128 - 128 * k ≡ 128 = omega arith in
    let next = rw size at c.compress-next.ensures in
    let (whole, start, _) = c.ahead.invariant in (
      λ flag step n m behind i ahead state count.
          let before = whole flag step n m behind i ahead state count in (
            state_next n m blocks behind i k _ _ _ ahead (omega arith) before.0
                (omega (arith, before.1, step)) (rw flag at next),
            omega (arith, before.1, step),
          ),
      λ end. absurd (omega arith),
      λ one len.
          let first : k ≡ 0 = omega arith in
          let all : take 128 (drop (128 * k) blocks)
          ≡ blocks = rw first (take_all 128 blocks (omega arith)) in
          next ∙ rw (c.counted-taken_in.ensures, all, (start first).0, (start first).1) refl,
    )

pub returns-clause-whole_blocks : goal.returns-clause-whole_blocks
returns-clause-whole_blocks c = λ flag step fits n m behind i ahead state count.
    let done : c.ahead.k ≡ length c.args.blocks.now / 128 = omega arith in
    rw done at (c.ahead.invariant.0 flag step n m behind i ahead state count).0

pub returns-clause-single_block : goal.returns-clause-single_block
returns-clause-single_block c = λ len. c.ahead.invariant.2 (omega arith) len
