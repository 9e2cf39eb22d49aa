-- Proves the goals of `Follower::has_answered` that the prover leaves open.
use Rattle.std.specs.Cmp.{booleans_Decides}
use Rattle.std.proofs.Common.{◌∙◌, List, ap, arith, sym, ℕ}
use Rattle.minisign_install.specs.Traces.{world_of}
use Rattle.minisign_install.proofs.FullTraces.{comment_asked}
use Rattle.minisign_install.proofs.traces.Follower.has_answered.Goals as goal
use Rattle.minisign_install.proofs.traces.Follower.has_answered.Goals.{
  then-self-eq0-via-else-self-eq0+then-self-message,
}
use Rattle.minisign_install.proofs.traces.Follower.has_answered.Goals.{then-self-eq0-via-then-self-eq0}

pub returns-then-self-eq0-clause-complete : goal.returns-then-self-eq0-clause-complete
returns-then-self-eq0-clause-complete c = λ file s m knows follows performs some.
    let w = world_of c.args.inputs.now in
    let (written, fits, same) =
    comment_asked w file s c.args.self.now.message_len c.args.message.now c.in-Some.question c.args.accepted m
    m knows follows.whole follows.asked (sym (c.question.ensures s follows.stored) ∙ c.in-Some.is)
    c.if-question-ne1.false performs in
    elim c.then-self-eq0.branch [
      | then-self-eq0-via-then-self-eq0 w ↦ absurd (omega (arith, written, w.if-self-eq0.true))
      | then-self-eq0-via-else-self-eq0+then-self-message w ↦
          absurd (omega (arith, fits, w.if-self-message.true))
    ]

pub returns-clause-complete : goal.returns-clause-complete
returns-clause-complete c = λ file s m knows follows performs some.
    let w = world_of c.args.inputs.now in
    let q = c.in-Some.question in
    let (written, fits, same) =
    comment_asked w file s c.args.self.now.message_len c.args.message.now q c.args.accepted m m
    knows follows.whole follows.asked (sym (c.question.ensures s follows.stored) ∙ c.in-Some.is)
    c.if-question-ne1.false performs in
    (booleans_Decides c.args.accepted c.is_listed-2.result).1
    (same ∙ ap (λ (l : List ℕ). w.accepts l q.key q.signature) (sym c.split_at.ensures.front)
    ∙ sym c.is_listed-2.ensures)
