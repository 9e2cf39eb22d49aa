-- Proves the goal of `extended` that the prover leaves open.
use Rattle.std.proofs.Common.{◌∙◌, ap, drop, length, sym, take}
use Rattle.minisign_install.proofs.FullTraces.{equal_bytes, piece_cut}
use Rattle.minisign_install.proofs.traces.extended.Goals as goal
use Rattle.minisign_install.proofs.traces.extended.Goals.{else-eq-via-else-eq}
use Rattle.minisign_install.proofs.traces.extended.Goals.{else-eq-via-then-eq+else-eq-2}

-- If `whole` begins with `front` and `piece`, the prefix is found. The prover leaves open the two cases in
-- which the function returns None after a comparison: that of `piece`, then that of `front`. Neither can
-- occur.
pub returns-else-eq-clause-complete : goal.returns-else-eq-clause-complete
returns-else-eq-clause-complete c = λ is.
    let (front, piece) = piece_cut c.args.whole.now c.args.front.now c.args.piece.now is in
    let grown = c.split_at.ensures.front in
    elim c.else-eq.branch [
      | else-eq-via-then-eq+else-eq-2 w ↦ sym w.if-eq-2.false ∙ w.eq-then-eq.ensures
          ∙ equal_bytes _ c.args.piece.now
          (c.split_at-2.ensures.back ∙ ap (drop (length c.args.front.now)) grown ∙ piece)
      | else-eq-via-else-eq w ↦ sym w.if-eq.false ∙ c.eq.ensures
          ∙ equal_bytes _ c.args.front.now
          (c.split_at-2.ensures.front ∙ ap (take (length c.args.front.now)) grown ∙ front)
    ]
