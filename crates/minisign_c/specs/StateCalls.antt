-- The results of the caller's scheme, passed in as numbers.
use Rattle.std.specs.Prelude.{◌≡◌, ◌==◌, ℕ, Bool, true, List}
use Rattle.minisign.specs.Acceptance.{Verifier}
use Rattle.minisign_external.specs.Numbers.{IsAnswer, answer_yes}
use Rattle.minisign_external.specs.Questions.{AnswersComment}
use Rattle.minisign_external.specs.States.{WasAskedAbout, is_begun}
use Rattle.minisign_external.specs.declared.public_keys.PublicKeyValue.{PublicKeyValue}
use Rattle.minisign_external.specs.declared.state.State.{State}

-- The state was asked about the key and the signature file (`minisign_ask`), no verdict has finished it, and
-- the number is the scheme's result of the second check.
pub record CommentIsAnswered (s : State) (accepts : Verifier) (v : PublicKeyValue) (sig_text : List ℕ)
    (legacy : Bool) (second : ℕ) : Type 0 where
  pub asked : WasAskedAbout s v sig_text legacy
  pub begun : is_begun s ≡ true
  pub second_known : IsAnswer second
  pub answers : AnswersComment accepts v sig_text (second == answer_yes)
