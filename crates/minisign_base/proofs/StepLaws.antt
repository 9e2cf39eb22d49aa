-- Laws about a call whose steps are those of a first call followed by those of a second.
use Rattle.std.proofs.Common.{List, [], ◌∷◌, ◌++◌, Result, Ok, Err, inl, inr, subst}
use Rattle.std.specs.Prelude.{⊤}
use Rattle.minisign_base.specs.Steps.{StepsEnd}

-- If the first call failed, the combined call fails with the same error.
pub first_stopped : {Step D E : Type 0} (Ends : Step → D → D → Result ⊤ E → Type 0) (first second : List Step)
    (old new : D) (e : E) → StepsEnd Ends first old new (Err e)
    → StepsEnd Ends (first ++ second) old new (Err e)
first_stopped Ends [] second old new e h = absurd h
first_stopped Ends (step ∷ later) second old new e (inl h) = inl h
first_stopped Ends (step ∷ later) second old new e (inr (d, done, h)) =
    inr (d, done, first_stopped Ends later second d new e h)

-- If the first call succeeded, the combined call ends with the result of the second.
pub second_ends : {Step D E : Type 0} (Ends : Step → D → D → Result ⊤ E → Type 0) (first second : List Step)
    (old between new : D) (answer : Result ⊤ E) → StepsEnd Ends first old between (Ok tt)
    → StepsEnd Ends second between new answer → StepsEnd Ends (first ++ second) old new answer
second_ends Ends [] second old between new answer a h = subst (λ d. StepsEnd Ends second d new answer) a h
second_ends Ends (step ∷ later) second old between new (Ok _) (d, done, a) h =
    (d, done, second_ends Ends later second d between new (Ok tt) a h)
second_ends Ends (step ∷ later) second old between new (Err e) (d, done, a) h =
    inr (d, done, second_ends Ends later second d between new (Err e) a h)
