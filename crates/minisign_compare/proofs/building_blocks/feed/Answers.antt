-- Proves the goal of `feed` that the prover leaves open.
use Rattle.std.proofs.Common.{◌≡◌, ℕ, List, ◌++◌, ◌∙◌, sym, ap, append_assoc}
use Rattle.std.proofs.lemmas.List.{take-append-drop}
use Rattle.minisign_compare.proofs.building_blocks.feed.Goals as goal

pub pieces-preserved : goal.pieces-preserved
pieces-preserved c =
    let (ready, length, (done, split, fed)) = c.pieces.invariant in
    let rest : List ℕ = c.pieces.rest.now in
    let piece : List ℕ = c.split_at.result.0.now in
    let more : List ℕ = c.split_at.result.1.now in
    let cut : piece ++ more ≡ rest =
    rw (c.split_at.ensures.front, c.split_at.ensures.back) (take-append-drop _ rest) in (
      c.update.ensures.finalized,
      c.update.ensures.length ∙ length,
      (
        done ++ piece,
        split ∙ ap (λ (l : List ℕ). done ++ l) (sym cut) ∙ sym (append_assoc done piece more),
        λ m begun. rw (← append_assoc) (c.update.ensures.fed _ (fed m begun)),
      ),
    )
