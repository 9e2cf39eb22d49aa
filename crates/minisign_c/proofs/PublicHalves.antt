-- Lemmas about the result number of a call that returns the public key of a secret key.
use Rattle.std.proofs.Common.{◌≡◌, ◌<◌, ℕ, ap, arith, Bool, true, false, if◌then◌else◌, Result, Ok, Err, refl}
use Rattle.std.proofs.Common.{sym}
use Rattle.minisign_external.specs.Numbers.{misuse_number}
use Rattle.minisign_external.specs.SecretKeys.{is_opened, public_value_of, public_key_outcome}
use Rattle.minisign_external.specs.declared.public_keys.PublicKeyValue.{PublicKeyValue}
use Rattle.minisign_external.specs.declared.secrets.SecretKeyValue.{SecretKeyValue}
use Rattle.minisign_external.specs.declared.state.Misuse.{Misuse}
use Rattle.minisign_external.specs.declared.state.Misuse.TheVariants.{KeyNotOpened}

success_cases : (b : Bool) (w : PublicKeyValue) (n : ℕ) (old new : PublicKeyValue)
    → ◌≡◌ {A = ℕ × PublicKeyValue} (n, new) (public_key_outcome (if b then Ok w else Err KeyNotOpened) old)
    → n ≡ 0 → (b ≡ true) × (new ≡ w)
success_cases true w n old new returned none = (refl, ap (λ p. p.1) returned)
success_cases false w n old new returned none = let is : n ≡ 15 = ap (λ p. p.0) returned in absurd
    (omega arith)

half_of : (b : Bool) (w new : PublicKeyValue) → b ≡ true → new ≡ w
    → ◌≡◌ {A = Result PublicKeyValue Misuse} (if b then Ok w else Err KeyNotOpened) (Ok new)
half_of true w new is same = ap (λ x. Ok x) (sym same)
half_of false w new is same = cc is

-- If the result is 0, the secret key is open, and the public key has its key ID.
pub half_of_success : (v : SecretKeyValue) (n : ℕ) (old new : PublicKeyValue)
    → ◌≡◌ {A = ℕ × PublicKeyValue} (n, new) (public_key_outcome (public_value_of v) old) → n ≡ 0
    → (is_opened v ≡ true) × (public_value_of v ≡ Ok new) × (new.key_id ≡ v.key_id)
half_of_success v n old new returned none = let (opened, same) = success_cases
    (is_opened v) _ n old new returned none in
    (opened, half_of (is_opened v) _ new opened same, ap (λ (x : PublicKeyValue). x.key_id) same)

error_cases : (b : Bool) (w : PublicKeyValue) (n : ℕ) (old new : PublicKeyValue)
    → ◌≡◌ {A = ℕ × PublicKeyValue} (n, new) (public_key_outcome (if b then Ok w else Err KeyNotOpened) old)
    → 0 < n → (n ≡ misuse_number KeyNotOpened) × (b ≡ false)
error_cases true w n old new returned some = let none : n ≡ 0 = ap (λ p. p.0) returned in absurd (omega arith)
error_cases false w n old new returned some = (ap (λ p. p.0) returned, refl)

-- If the result is not 0, the secret key is not open.
pub half_of_error : (v : SecretKeyValue) (n : ℕ) (old new : PublicKeyValue)
    → ◌≡◌ {A = ℕ × PublicKeyValue} (n, new) (public_key_outcome (public_value_of v) old) → 0 < n
    → (n ≡ misuse_number KeyNotOpened) × (is_opened v ≡ false)
half_of_error v n old new returned some = error_cases (is_opened v) _ n old new returned some
