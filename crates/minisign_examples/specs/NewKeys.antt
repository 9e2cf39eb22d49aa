-- A new public key whose text is signed with an old key.
use Rattle.std.specs.Prelude.{ℕ, false, List, Result}
use Rattle.minisign.specs.Fault.{Fault}
use Rattle.minisign.specs.Acceptance.{Verifier}
use Rattle.minisign.specs.Headline.{verdict}
use Rattle.minisign.specs.Texts.{and_then}

-- The verdict of the old key on the text of the new key, and then the verdict of the new key on the
-- update.
abbrev pub verdict_by_new_key : Verifier → List ℕ → List ℕ → List ℕ → List ℕ → List ℕ → Result (List ℕ) Fault
verdict_by_new_key accepts old key_sig key sig update =
    and_then (verdict accepts old key_sig key false) (λ _. verdict accepts key sig update false)
