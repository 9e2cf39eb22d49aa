-- Lemmas about the public key of a secret key.
use Rattle.std.proofs.Common.{◌≡◌, ap, Bool, true, false, if◌then◌else◌, Result, Ok, Err, refl, sym}
use Rattle.minisign_external.specs.SecretKeys.{is_opened, public_value_of}
use Rattle.minisign_external.specs.declared.public_keys.PublicKeyValue.{PublicKeyValue}
use Rattle.minisign_external.specs.declared.secrets.SecretKeyValue.{SecretKeyValue}
use Rattle.minisign_external.specs.declared.state.Misuse.{Misuse}
use Rattle.minisign_external.specs.declared.state.Misuse.TheVariants.{KeyNotOpened}

success_cases : (b : Bool) (v w : PublicKeyValue) → Ok w ≡ (if b then Ok v else Err KeyNotOpened)
    → (b ≡ true) × (w ≡ v)
success_cases true v w h = let same : w ≡ v = cc h in (refl, same)
success_cases false v w h = cc h

-- If a public key was obtained from a secret key, the secret key is open, and both have the same key ID.
pub half_of_success : (v : SecretKeyValue) (w : PublicKeyValue) → Ok w ≡ public_value_of v
    → (is_opened v ≡ true) × (w.key_id ≡ v.key_id)
half_of_success v w h = let (opened, same) = success_cases (is_opened v) _ w h in
    (opened, ap (λ (x : PublicKeyValue). x.key_id) same)

error_cases : (b : Bool) (v : PublicKeyValue) (m : Misuse) → Err m ≡ (if b then Ok v else Err KeyNotOpened)
    → (m ≡ KeyNotOpened) × (b ≡ false)
error_cases true v m h = cc h
error_cases false v m h = let same : m ≡ KeyNotOpened = cc h in (same, refl)

-- If no public key was obtained, the secret key is not open, and the error is KeyNotOpened.
pub half_of_error : (v : SecretKeyValue) (m : Misuse) → Err m ≡ public_value_of v
    → (m ≡ KeyNotOpened) × (is_opened v ≡ false)
half_of_error v m h = error_cases (is_opened v) _ m h
