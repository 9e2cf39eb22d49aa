-- Proves the goals of `get_password` that the prover leaves open.
use Rattle.std.proofs.Common.{[], Ok, Err, inl, inr, refl, sym, ap, subst, ⊎_elim}
use Rattle.std.specs.Result.{result_err}
use Rattle.minisign_base.specs.DeviceCalls.{prompt_call}
use Rattle.minisign_base.specs.Prompts.{ConversationEnds, marking_steps}
use Rattle.minisign_base.proofs.PromptLaws.{typed_is}
use Rattle.minisign_base.proofs.HandedOn.{handed_on}
use Rattle.minisign_base.proofs.helpers.get_password.Goals as goal

pub returns-in_err-say-clause-refused : goal.returns-in_err-say-clause-refused
returns-in_err-say-clause-refused g c =
    handed_on c.from_residual-in_err-say.result c.in_err-say.field-0.0 _ c.from_residual-in_err-say.ensures.1
    ([], inr (c.args.prompt.now, (tt, refl), inl c.in_err-say.ensures.step_ends))

pub returns-in_err-password-clause-refused : goal.returns-in_err-password-clause-refused
returns-in_err-password-clause-refused g c =
    let begun = c.args.prompt.now in
    let said = c.say.new.self in
    let writer = c.read_password.ensures.writer in
    handed_on c.from_residual-in_err-password.result c.in_err-password.field-0.0 _
    c.from_residual-in_err-password.ensures.1 (⊎_elim
    (λ (is, failed). (
      [],
      inr
          (begun, (tt, refl), inr (said, c.in_ok-say.ensures.step_ends, inl ((is, failed), writer))),
    ))
    (λ (bytes, read, none). (
      bytes,
      inr (
        begun,
        (tt, refl),
        inr (
          said,
          c.in_ok-say.ensures.step_ends,
          inr
              (c.read_password.new.self, (read, writer), inl (ap result_err none, refl)),
        ),
      ),
    ))
    c.in_err-password.ensures.refused)

pub returns-in_err-mark_empty-clause-refused : goal.returns-in_err-mark_empty-clause-refused
returns-in_err-mark_empty-clause-refused g c =
    let (bytes, read, answered) = c.in_ok-password.ensures.password in
    let failed = rw c.deref.ensures at c.in_err-mark_empty.ensures.conversation_ends in
    let said = c.say.new.self in
    let heard = c.read_password.new.self in
    handed_on c.from_residual-in_err-mark_empty.result c.in_err-mark_empty.field-0.0 _
    c.from_residual-in_err-mark_empty.ensures.1 (
      bytes,
      inr (
        c.args.prompt.now,
        (tt, refl),
        inr (
          said,
          c.in_ok-say.ensures.step_ends,
          inr (
            heard,
            (read, c.read_password.ensures.writer),
            inr (
              heard,
              (ap result_err answered, refl),
              subst (λ password. ConversationEnds
                  (prompt_call g.R.Source g.W.Sink heard c.mark_empty.new.self) (marking_steps password)
                  (Err c.in_err-mark_empty.field-0.0))
                  (sym (typed_is bytes _ answered)) failed,
            ),
          ),
        ),
      ),
    )

pub returns-clause-asked : goal.returns-clause-asked
returns-clause-asked g c =
    let (bytes, read, answered) = c.in_ok-password.ensures.password in
    let marked = rw c.deref.ensures at c.in_ok-mark_empty.ensures.conversation_ends in
    let heard = c.read_password.new.self in (
      bytes,
      answered,
      (
        c.args.prompt.now,
        (tt, refl),
        (
          c.say.new.self,
          c.in_ok-say.ensures.step_ends,
          (
            heard,
            (read, c.read_password.ensures.writer),
            (
              heard,
              (ap result_err answered, refl),
              subst (λ password. ConversationEnds
                  (prompt_call g.R.Source g.W.Sink heard c.mark_empty.new.self) (marking_steps password)
                  (Ok tt)) (sym (typed_is bytes _ answered)) marked,
            ),
          ),
        ),
      ),
    )
