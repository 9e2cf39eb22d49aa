-- Proves the goals of `choose_password` that the prover leaves open.
use Rattle.std.proofs.Common.{Ok, Err, Bool, true, false, not, ◌≡◌, ◌∷◌, ◌++◌, [], string_bytes, sym, inl}
use Rattle.std.proofs.Common.{inr, refl, ℕ, List, None, Some, bytes_eq}
use Rattle.minisign.proofs.Common.{bytes_eq-Decides, prompt_call, second_ended, stopped_first, typed_is, Test}
use Rattle.minisign.proofs.Common.{asking_steps, typed_password, Fault, Named, PasswordsDiffer}
use Rattle.minisign.proofs.ErrorsAndPrefixes.{passed_up}
use Rattle.minisign.specs.Generation.{password_difference, purpose_line, second_question}
use Rattle.minisign.specs.Sealing.{asking_text}
use Rattle.minisign.proofs.keypair.choose_password.Goals as goal

-- If c is the negation of b, then b is the negation of c.
negation_symmetric : (b c : Bool) → c ≡ not b → b ≡ not c
negation_symmetric true true h = absurd (cc)
negation_symmetric true false h = refl
negation_symmetric false true h = refl
negation_symmetric false false h = absurd (cc)

-- If two typed passwords differ, the check of the passwords fails with PasswordsDiffer.
two_differ : (first second password again : List ℕ) (e : Fault) → typed_password first ≡ password
    → typed_password second ≡ again
    → true ≡ not (bytes_eq password again) → e ≡ Named PasswordsDiffer
    → password_difference (typed_password first) (typed_password second) ≡ Some e
two_differ _ _ _ _ e one two differ is =
    let test = negation_symmetric _ _ differ in rw (one, two, test, is) refl

-- If two typed passwords are equal, the check of the passwords succeeds.
two_agree : (first second password again : List ℕ) → typed_password first ≡ password
    → typed_password second ≡ again
    → false ≡ not (bytes_eq password again) → password_difference (typed_password first)
    (typed_password second) ≡ None
two_agree _ _ _ _ one two same =
    let test = negation_symmetric _ _ same in rw (one, two, test) refl

pub returns-in_err-password-clause-refused : goal.returns-in_err-password-clause-refused
unfolding purpose_line asking_text
returns-in_err-password-clause-refused g c =
    let (first, stopped) = c.in_err-password.ensures.refused in
    let p = prompt_call g.R.Source g.W.Sink c.say.new.self c.get_password.new.prompt in
    passed_up _ _ _ c.from_residual-in_err-password.ensures.1 (
      first,
      [],
      inr (
        c.say.new.self,
        c.in_ok-say.ensures.step_ends,
        stopped_first p (asking_steps asking_text first)
            (asking_steps second_question [] ++ Test (password_difference (typed_password first)
            (typed_password []))
            ∷ []) _ stopped,
      ),
    )

pub returns-in_err-again-clause-refused : goal.returns-in_err-again-clause-refused
unfolding purpose_line asking_text second_question
returns-in_err-again-clause-refused g c =
    let (first, answered, asked) = c.in_ok-password.ensures.asked in
    let (second, stopped) = c.in_err-again.ensures.refused in
    let both = prompt_call g.R.Source g.W.Sink c.say.new.self c.get_password-2.new.prompt in
    let p = prompt_call g.R.Source g.W.Sink c.get_password.new.prompt c.get_password-2.new.prompt in
    let test = Test (password_difference (typed_password first) (typed_password second)) ∷ [] in
    passed_up _ _ _ c.from_residual-in_err-again.ensures.1 (
      first,
      second,
      inr (
        c.say.new.self,
        c.in_ok-say.ensures.step_ends,
        second_ended both c.get_password.new.prompt (asking_steps asking_text first)
            (asking_steps second_question second ++ test) (Err _) asked
            (stopped_first p (asking_steps second_question second) test _ stopped),
      ),
    )

pub returns-then-ne-clause-refused : goal.returns-then-ne-clause-refused
unfolding purpose_line asking_text second_question
returns-then-ne-clause-refused g c =
    let (first, answered, asked) = c.in_ok-password.ensures.asked in
    let (second, answered_again, asked_again) = c.in_ok-again.ensures.asked in
    let end = c.get_password-2.new.prompt in
    let both = prompt_call g.R.Source g.W.Sink c.say.new.self end in
    let p = prompt_call g.R.Source g.W.Sink c.get_password.new.prompt end in
    let test = Test (password_difference (typed_password first) (typed_password second)) ∷ [] in (
      first,
      second,
      inr (
        c.say.new.self,
        c.in_ok-say.ensures.step_ends,
        second_ended both c.get_password.new.prompt (asking_steps asking_text first)
            (asking_steps second_question second ++ test) (Err _) asked
            (second_ended p _ (asking_steps second_question second) test (Err _) asked_again (inl (
              two_differ first second _ _ _ (typed_is first _ answered) (typed_is second _ answered_again)
                  c.if-ne.ensures c.into.ensures,
              refl,
            ))),
      ),
    )

pub returns-clause-chosen : goal.returns-clause-chosen
unfolding purpose_line asking_text second_question
returns-clause-chosen g c =
    let (first, answered, asked) = c.in_ok-password.ensures.asked in
    let (second, answered_again, asked_again) = c.in_ok-again.ensures.asked in
    let same = sym ((bytes_eq-Decides (string_bytes c.in_ok-password.password) _).0
    (negation_symmetric _ false c.if-ne.ensures)) in
    let end = c.get_password-2.new.prompt in
    let both = prompt_call g.R.Source g.W.Sink c.say.new.self end in
    let p = prompt_call g.R.Source g.W.Sink c.get_password.new.prompt end in
    let test = Test (password_difference (typed_password first) (typed_password second)) ∷ [] in (
      first,
      second,
      answered,
      rw same at answered_again,
      (
        c.say.new.self,
        c.in_ok-say.ensures.step_ends,
        second_ended both c.get_password.new.prompt (asking_steps asking_text first)
            (asking_steps second_question second ++ test) (Ok tt) asked
            (second_ended p end (asking_steps second_question second) test (Ok tt) asked_again (
              end,
              (
                two_agree first second _ _ (typed_is first _ answered) (typed_is second _ answered_again)
                    c.if-ne.ensures,
                refl,
              ),
              refl,
            )),
      ),
    )
