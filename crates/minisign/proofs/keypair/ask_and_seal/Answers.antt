-- Proves the goals of `ask_and_seal` that the prover leaves open.
use Rattle.std.proofs.Common.{Result, Ok, Err, IfOk, OnOk, string_bytes}
use Rattle.minisign.proofs.Common.{IfErr-weaker, prompt_call, second_ended, stopped_first}
use Rattle.minisign.proofs.ErrorsAndPrefixes.{passed_up}
use Rattle.minisign.specs.Generation.{choosing_steps, sealing_steps}
use Rattle.minisign.proofs.keypair.ask_and_seal.Goals as goal

-- If f derives Q from A and P, A holds on success, and P holds for a returned value, then Q holds for it.
value_from_both : {T E : Type 0} (r : Result T E) (A : Type 0) (P Q : T → Type 0) → ((t : T) → A → P t → Q t)
    → OnOk r A → IfOk r P → IfOk r Q
value_from_both (Ok t) A P Q f a p = f t a p
value_from_both (Err e) A P Q f a p = tt

pub returns-in_err-password-clause-refused : goal.returns-in_err-password-clause-refused
returns-in_err-password-clause-refused g c =
    let (first, second, stopped) = c.in_err-password.ensures.refused in
    passed_up _ _ _ c.from_residual.ensures.1 (
      first,
      second,
      tt,
      stopped_first (prompt_call g.R.Source g.W.Sink c.args.prompt.now c.choose_password.new.prompt)
          (choosing_steps first second) sealing_steps _ stopped,
    )

pub returns-clause-typed : goal.returns-clause-typed
returns-clause-typed g c =
    let (first, second, typed, again, chosen) = c.in_ok-password.ensures.chosen in
    let p = prompt_call g.R.Source g.W.Sink c.args.prompt.now c.seal_with_reports.new.prompt in
    value_from_both c.seal_with_reports.result _ _ _ (λ pair said sealed. (
      string_bytes c.in_ok-password.password,
      (
        first,
        second,
        (typed, again),
        second_ended p c.choose_password.new.prompt
            (choosing_steps first second) sealing_steps (Ok tt) chosen said,
      ),
      rw (c.as_bytes.ensures.value) at sealed,
    )) c.seal_with_reports.ensures.conversation_ends c.seal_with_reports.ensures.sealed

pub returns-clause-refused : goal.returns-clause-refused
returns-clause-refused g c =
    let (first, second, typed, again, chosen) = c.in_ok-password.ensures.chosen in
    let p = prompt_call g.R.Source g.W.Sink c.args.prompt.now c.seal_with_reports.new.prompt in
    IfErr-weaker c.seal_with_reports.result _ _ (λ e stopped. (
      first,
      second,
      tt,
      second_ended p c.choose_password.new.prompt
          (choosing_steps first second) sealing_steps (Err e) chosen stopped,
    )) c.seal_with_reports.ensures.refused
