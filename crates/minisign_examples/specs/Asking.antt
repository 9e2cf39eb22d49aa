-- Decrypting a key if the caller asks again after a wrong password.
use Rattle.std.specs.Prelude.{◌≡◌, ◌≢◌, ◌⊎◌, ℕ, zero, suc, List, None, Result, Err}
use Rattle.minisign.specs.Fault.{Fault, Named}
use Rattle.minisign.specs.Members.{SinkOf, SourceOf}
use Rattle.minisign.specs.DeviceCalls.{prompt_call}
use Rattle.minisign.specs.NamedFaults.{OutOfMemory, WrongPassword}
use Rattle.minisign.specs.Prompt.{Prompt}
use Rattle.minisign.specs.Sealing.{IsOpening}
use Rattle.minisign.specs.Records.{SecretKeyRecord}

-- The prompt asked once, and the answer is the result of decrypting the key; or the text could not
-- be copied because an allocation failed, and the prompt is unchanged.
abbrev pub IsOpeningOnce : {R W : Type 0} → SourceOf R → SinkOf W → Prompt R W → Prompt R W → List ℕ
    → Result SecretKeyRecord Fault → Type 0
IsOpeningOnce source sink old new text answer =
    IsOpening (prompt_call source sink old new) None text None answer
    ⊎ ((answer ≡ Err (Named OutOfMemory)) × (new ≡ old))

-- The prompt asked once, and after each wrong password again, at most `more` times. The answer is
-- that of the last attempt.
abbrev pub IsOpeningAgain : {R W : Type 0} → SourceOf R → SinkOf W → ℕ → Prompt R W → Prompt R W → List ℕ
    → Result SecretKeyRecord Fault → Type 0
IsOpeningAgain source sink zero old new text answer = IsOpeningOnce source sink old new text answer
IsOpeningAgain {R = R} {W = W} source sink (suc more) old new text answer =
    (IsOpeningOnce source sink old new text answer × (answer ≢ Err (Named WrongPassword)))
    ⊎ ((asked : Prompt R W) × IsOpening (prompt_call source sink old asked) None text None
    (Err (Named WrongPassword))
    × IsOpeningAgain source sink more asked new text answer)
