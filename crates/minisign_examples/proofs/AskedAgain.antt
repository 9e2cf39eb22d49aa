-- Lemmas about a call that asks for a password again after a wrong one, at most `more` times. IsOpeningAgain
-- for all attempts follows from the first attempt and the rest.
use Rattle.std.proofs.Common.{◌≡◌, ◌≢◌, ◌⊎◌, ◌-◌, ℕ, zero, suc, List, Err, arith, inl, inr, subst, sym, ◌∙◌}
use Rattle.std.proofs.Common.{None}
use Rattle.std.specs.declared.result.Result.{Result}
use Rattle.minisign.specs.Fault.{Fault, Named}
use Rattle.minisign.specs.Members.{SinkOf, SourceOf}
use Rattle.minisign.specs.NamedFaults.{OutOfMemory, WrongPassword}
use Rattle.minisign.specs.Prompt.{Prompt}
use Rattle.minisign.specs.DeviceCalls.{prompt_call}
use Rattle.minisign.specs.Sealing.{IsOpening}
use Rattle.minisign.specs.Records.{SecretKeyRecord}
use Rattle.minisign_examples.specs.Asking.{IsOpeningAgain}

-- If no further attempt is allowed, the first attempt is the whole call.
pub last_time : {R W : Type 0} (source : SourceOf R) (sink : SinkOf W) (more : ℕ) (old new : Prompt R W)
    (text : List ℕ) (answer : Result SecretKeyRecord Fault)
    → more ≡ 0 → IsOpeningAgain source sink 0 old new text answer
    → IsOpeningAgain source sink more old new text answer
last_time source sink more old new text answer none opening = subst
    (λ n. IsOpeningAgain source sink n old new text answer) (sym none) opening

-- If the first attempt ends with anything except a wrong password, it is the whole call.
pub answered : {R W : Type 0} (source : SourceOf R) (sink : SinkOf W) (more : ℕ) (old new : Prompt R W)
    (text : List ℕ) (answer : Result SecretKeyRecord Fault)
    → IsOpeningAgain source sink 0 old new text answer → answer ≢ Err (Named WrongPassword)
    → IsOpeningAgain source sink more old new text answer
answered source sink zero old new text answer opening other = opening
answered source sink (suc more) old new text answer opening other = inl (opening, other)

-- An attempt that failed with a wrong password did not fail with out of memory.
no_memory : (A B : Type 0) (r : Result SecretKeyRecord Fault) → r ≡ Err (Named WrongPassword) → A
    ⊎ ((r ≡ Err (Named OutOfMemory)) × B) → A
no_memory A B r wrong (inl asked) = asked
no_memory A B r wrong (inr (memory, same)) = let both = sym wrong ∙ memory in cc both

-- If the password was wrong and further attempts are allowed, the call is the first attempt and then a call
-- with one attempt fewer.
pub asked_again : {R W : Type 0} (source : SourceOf R) (sink : SinkOf W) (more : ℕ)
    (old asked new : Prompt R W) (text : List ℕ) (first answer : Result SecretKeyRecord Fault)
    → (more ≡ 0 → ⊥) → IsOpeningAgain source sink 0 old asked text first → first ≡ Err (Named WrongPassword)
    → IsOpeningAgain source sink (more - 1) asked new text answer
    → IsOpeningAgain source sink more old new text answer
asked_again source sink zero old asked new text first answer some opening wrong again = absurd (some (λ i. 0))
asked_again source sink (suc more) old asked new text first answer some opening wrong again =
    inr (
      asked,
      subst (λ a. IsOpening (prompt_call source sink old asked) None text None a) wrong
          (no_memory _ _ first wrong opening),
      subst (λ n. IsOpeningAgain source sink n asked new text answer) (omega arith) again,
    )
