-- Proves the goal of `verify_read` that the prover leaves open.
use Rattle.std.proofs.Common.{◌∙◌, ◌≡◌, arith, false, length, sym}
use Rattle.std.specs.List.{flat_map}
use Rattle.minisign_external.proofs.ResultsOfQuestions.{failed_ask_verdict}
use Rattle.minisign_external.proofs.Verdicts.{opened}
use Rattle.minisign_external.proofs.pieces.verify_read.Goals as goal

pub returns-in-Err : goal.returns-in-Err
returns-in-Err g c =
    let (t, from) = c.requires.read in
    failed_ask_verdict (g.S.Scheme.accepts c.args.scheme.now) c.args.key.now c.args.sig_text.now
    (flat_map (λ piece. piece.now) c.args.pieces.now) _ c.in-Err.refusal
    (λ s read.
    let both = sym from.read ∙ opened c.args.key.now false c.args.sig_text.now s read in
    let same : length t.comments.trusted ≡ length s.comments.trusted = cc both in
    omega (arith, same, from.room, c.requires.room))
    c.new-state.result c.requires.key c.new-state.ensures.fed c.new-state.ensures.blank
    (c.in-Err.ensures.text t from)
