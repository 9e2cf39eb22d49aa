-- Contracts of calls that run a list of steps and stop at the first step that fails. Each call has its own
-- type of steps, Step, and its own type of devices, D.
use Rattle.std.specs.Prelude.{◌≡◌, ◌⊎◌, ⊤, List, [], ◌∷◌, Result, Ok, Err, MatchResult}
use Rattle.minisign_base.specs.Fault.{Fault, Named}
use Rattle.minisign_base.specs.declared.faults.NamedFault.{NamedFault}

-- The steps ran in order, and changed the devices from old to new. Either all succeeded, and the result is
-- Ok; or one failed after all earlier ones succeeded, no later one was started, and the result is its error.
--
-- The parameter Ends defines what each step may do: `Ends step old new result` holds if the step may change
-- the devices from old to new and end with this result.
abbrev pub StepsEnd : {Step D E : Type 0} → (Step → D → D → Result ⊤ E → Type 0) → List Step → D → D
    → Result ⊤ E → Type 0
StepsEnd Ends [] old new (Ok _) = new ≡ old
StepsEnd Ends [] old new (Err e) = ⊥
StepsEnd {D = D} Ends (step ∷ later) old new (Ok _) =
    (between : D) × Ends step old between (Ok tt) × StepsEnd Ends later between new (Ok tt)
StepsEnd {D = D} Ends (step ∷ later) old new (Err e) =
    Ends step old new (Err e)
    ⊎ ((between : D) × Ends step old between (Ok tt) × StepsEnd Ends later between new (Err e))

-- The result of a step that can fail with only one error, `fault`: if the result is Ok, Done holds. Otherwise
-- the error is `fault`, and Failed holds.
abbrev pub EndsWith : Type 0 → NamedFault → Type 0 → Result ⊤ Fault → Type 0
EndsWith Done fault Failed result = MatchResult result (λ _. Done) (λ e. (e ≡ Named fault) × Failed)

-- The result of a call, with `tt` in place of the value that it returns on success.
abbrev pub without_value : {T E : Type 0} → Result T E → Result ⊤ E
without_value (Ok _) = Ok tt
without_value (Err e) = Err e
