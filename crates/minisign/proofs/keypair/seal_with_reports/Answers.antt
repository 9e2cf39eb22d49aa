-- Proves the goals of `seal_with_reports` that the prover leaves open.
use Rattle.std.proofs.Common.{inl, inr, refl}
use Rattle.minisign.proofs.ErrorsAndPrefixes.{passed_up}
use Rattle.minisign.specs.Generation.{sealing_text}
use Rattle.minisign.specs.Sealing.{done_text}
use Rattle.minisign.proofs.keypair.seal_with_reports.Goals as goal

pub returns-in_err-pair-clause-refused : goal.returns-in_err-pair-clause-refused
unfolding sealing_text
returns-in_err-pair-clause-refused g c =
    passed_up _ _ _ c.from_residual-in_err-pair.ensures.1
    (inr (
      c.say.new.self,
      c.in_ok-say.ensures.step_ends,
      inl
          ((c.in_err-pair.ensures.only_out_of_memory, tt), refl),
    ))

pub returns-in_err-say-2-clause-refused : goal.returns-in_err-say-2-clause-refused
unfolding sealing_text done_text
returns-in_err-say-2-clause-refused g c =
    let said = c.say.new.self in
    passed_up _ _ _ c.from_residual-in_err-say-2.ensures.1
    (inr (said, c.in_ok-say.ensures.step_ends, inr (said, (tt, refl), inl c.in_err-say-2.ensures.step_ends)))

pub returns-clause-conversation_ends : goal.returns-clause-conversation_ends
unfolding sealing_text done_text
returns-clause-conversation_ends g c =
    let said = c.say.new.self in (
      said,
      c.in_ok-say.ensures.step_ends,
      (said, (tt, refl), (c.say-2.new.self, c.in_ok-say-2.ensures.step_ends, refl)),
    )
