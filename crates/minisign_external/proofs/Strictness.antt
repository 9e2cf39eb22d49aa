-- The test for weak keys and signatures gives the same result for a struct as for the signature file from
-- which the struct was read.
use Rattle.std.proofs.Common.{◌≡◌, ◌∙◌, ◌==◌, ◌||◌, ◌&&◌, not, ℕ, Bool, true, false, if◌then◌else◌, List}
use Rattle.std.proofs.Common.{Result, ap, refl, take}
use Rattle.std.specs.Prelude.{replicate}
use Rattle.minisign_base.specs.Fault.{Fault}
use Rattle.minisign.specs.SignatureText.{SignatureTextRecord}
use Rattle.minisign_external.specs.Questions.{has_whole_signature}
use Rattle.minisign_external.specs.Signatures.{IsReadFrom}
use Rattle.minisign_external.specs.States.{result_of_asking, result_of_asking_with_text}
use Rattle.minisign_external.specs.StrictCalls.{asked_strictly, is_strict_text, is_strict_value}
use Rattle.minisign_external.specs.StrictEd25519.{is_strict, is_strict_signature}
use Rattle.minisign_external.specs.declared.public_keys.PublicKeyValue.{PublicKeyValue}
use Rattle.minisign_external.specs.declared.signatures.SignatureValue.{SignatureValue}
use Rattle.minisign_external.specs.declared.state.Refusal.{Refusal}
use Rattle.minisign_external.specs.declared.state.State.{State}
use Rattle.minisign_external.proofs.ReadValues.{asking_as}

whole_agrees : (whole first : Bool) (second : List ℕ)
    → (first && (not ((if whole then 1 else 0) == 1)
    || is_strict_signature (if whole then second else replicate 64 0)))
    ≡ (first && (not whole || is_strict_signature second))
whole_agrees true first second = refl
whole_agrees false first second = refl

module _ (s : SignatureValue) (text : List ℕ) (t : SignatureTextRecord) (from : IsReadFrom s text t) where
  -- The test of the key and the signatures gives the same result for the struct as for the text.
  pub strict_as_text : (v : PublicKeyValue) → is_strict_value v s ≡ is_strict_text v t
  strict_as_text v =
      ap (is_strict_value v) from.value
      ∙ whole_agrees (has_whole_signature t.comments) (is_strict v.key t.signature.signature)
      (take 64 t.comments.signature)

  -- `State::ask_strictly` has the same result for the struct as for the text.
  pub asked_strictly_as_text : (state : State) (v : PublicKeyValue) (legacy : Bool) (room : ℕ)
      (r : Result Bool (Refusal Fault))
      → r ≡ asked_strictly (is_strict_value v s) (result_of_asking state v s text legacy room)
      → r ≡ asked_strictly (is_strict_text v t) (result_of_asking_with_text state v text legacy room)
  asked_strictly_as_text state v legacy room r is =
      is ∙ ap (λ b. asked_strictly b (result_of_asking state v s text legacy room)) (strict_as_text v)
      ∙ ap (asked_strictly (is_strict_text v t)) (asking_as s text t from state v legacy room)
