-- Lemmas about parsing bytes that must be UTF-8.
use Rattle.std.proofs.Common.{◌≡◌, ℕ, Bool, true, false, List, Result, Err, refl}
use Rattle.std.specs.Str.{IsUtf8, is_utf8}
use Rattle.std.proofs.lemmas.Str.{IsUtf8-from_is_utf8, is_utf8-from_IsUtf8}
use Rattle.minisign_base.specs.Fault.{Fault, Named}
use Rattle.minisign_base.specs.declared.faults.NamedFault.TheVariants.{NotUtf8}
use Rattle.minisign_external.specs.PublicKeys.{read_utf8}

-- A Boolean that is not true is false.
pub not_true : (b : Bool) → (b ≡ true → ⊥) → b ≡ false
not_true true h = absurd (h refl)
not_true false h = refl

module _ {V : Type 0} (read : List ℕ → Result V Fault) (bytes : List ℕ) where
  -- For UTF-8 bytes, parsing them as a text is parsing them as bytes that must be UTF-8.
  pub of_text : (text : List ℕ) → text ≡ bytes → IsUtf8 bytes → read text ≡ read_utf8 read bytes
  of_text text same utf8 = rw (same, is_utf8-from_IsUtf8 bytes utf8) refl

  -- For other bytes, the result is NotUtf8.
  pub no_text : ¬ (IsUtf8 bytes) → Err (Named NotUtf8) ≡ read_utf8 read bytes
  no_text not_utf8 = rw (not_true (is_utf8 bytes) (λ is. not_utf8 (IsUtf8-from_is_utf8 bytes is))) refl
