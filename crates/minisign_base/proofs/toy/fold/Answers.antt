-- Proves the goals of `fold` that the prover leaves open.
use Rattle.std.proofs.Common.{◌≡◌, ℕ, take, arith, ap, ◌∙◌, refl, length-set}
use Rattle.std.proofs.lemmas.List.{take_all, get_or-replicate}
use Rattle.minisign_base.specs.Toy.{column}
use Rattle.minisign_base.proofs.Folding.{columns-next, folded}
use Rattle.minisign_base.proofs.toy.fold.Goals as goal

pub loop-j-init : goal.loop-j-init
loop-j-init c = (refl, λ i low. get_or-replicate {A = ℕ} 32 i 0 0 low)

pub loop-j-preserved : goal.loop-j-preserved
loop-j-preserved c =
    let (full, each) = c.loop-j.invariant in (
      length-set _ _ _ ∙ full,
      columns-next c.args.message.now c.loop-j.columns c.loop-j.j full c.loop-j-test.true each,
    )

pub returns : goal.returns
returns c =
    let (full, each) = c.loop-j.invariant in
    let m = c.args.message.now in
    let all : take c.loop-j.j m ≡ m = take_all c.loop-j.j m (omega (arith, c.loop-j-test.false)) in
    folded m c.loop-j.columns full (λ i low. each i low ∙ ap (column i 0) all)
