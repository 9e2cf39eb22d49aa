-- The key in a secret key file, the error numbers of signing with it, and the API misuse in the arguments for
-- encrypting a key.
use Rattle.std.specs.Prelude.{◌≡◌, ◌==◌, ◌&&◌, ◌||◌, not, nat_lt, ℕ, Bool, List, length, replicate}
use Rattle.std.specs.Prelude.{if◌then◌else◌, bytes_eq, Option, None, Some, Result, option_copied}
use Rattle.minisign_base.specs.Fault.{Fault}
use Rattle.minisign_base.specs.Members.{SchemeOf}
use Rattle.minisign.specs.Records.{SecretKeyRecord}
use Rattle.minisign.specs.Signing.{ChosenComments}
use Rattle.minisign.specs.declared.making.Sealing.{Sealing}
use Rattle.minisign_external.specs.Making.{IsMakingRefusal}
use Rattle.minisign_external.specs.Numbers.{fault_number, misuse_number, refusal_number}
use Rattle.minisign_external.specs.SecretKeys.{opened_text}
use Rattle.minisign_external.specs.Signing.{IsTextSigningRefusal}
use Rattle.minisign_external.specs.declared.secrets.SecretKeyValue.{SecretKeyValue}
use Rattle.minisign_external.specs.declared.state.Misuse.{Misuse}
use Rattle.minisign_external.specs.declared.state.Misuse.TheVariants.{BadPasswordFlag, EmptyPassword}
use Rattle.minisign_external.specs.declared.state.Misuse.TheVariants.{WeakSealing}
use Rattle.minisign_external.specs.declared.state.Refusal.{Refusal}
use Rattle.minisign_external.specs.declared.unopened_keys.KeyText.{KeyText}

-- The key in a secret key file, opened with its password if there is one, within its bound on the work.
abbrev pub opened_by : KeyText → Result SecretKeyRecord Fault
opened_by t = opened_text t.text.now (option_copied t.password) t.most_rows

-- n is the number of an error of signing a message with the key in a secret key file.
abbrev pub IsSigningNumber : {S : Type 0} → SchemeOf S → S → KeyText → ChosenComments → List ℕ → List ℕ → ℕ
    → Type 0
IsSigningNumber s scheme t chosen message bytes n = (r : Refusal Fault) × (n ≡ refusal_number fault_number r)
    × IsTextSigningRefusal s scheme t.text.now (option_copied t.password) t.most_rows chosen message bytes r

-- == Encrypting a key ==

-- The API misuse in the password arguments: with_password is not 0, 1 or 2, or it is 1 and the password is
-- empty.
abbrev pub password_misuse : ℕ → List ℕ → Option Misuse
password_misuse with_password password =
    if nat_lt 2 with_password then Some BadPasswordFlag else
    if (with_password == 1) && (length password == 0) then Some EmptyPassword else None

-- The salt is all zeros, or a limit is below the lowest one with which Minisign encrypts a key.
abbrev pub is_weak : Sealing → Bool
is_weak s =
    bytes_eq s.salt (replicate 32 0) || nat_lt s.operations_limit 524288 || nat_lt s.memory_limit 16777216

-- The first API misuse of two checks, if there is one.
abbrev pub first_misuse : Option Misuse → Option Misuse → Option Misuse
first_misuse (Some m) more = Some m
first_misuse None more = more

-- The API misuse in the arguments for encrypting a key: that in the password arguments, or else WeakSealing
-- if the key is to be encrypted and the salt or a limit is weak.
abbrev pub sealing_misuse : ℕ → List ℕ → Sealing → Option Misuse
sealing_misuse with_password password s = first_misuse (password_misuse with_password password)
    (if not (with_password == 0) && is_weak s then Some WeakSealing else None)

-- n is the error number if no secret key file is written: that of the API misuse in the arguments if there is
-- one, otherwise that of an error of IsMakingRefusal.
abbrev pub IsMakingNumber : Option Misuse → SecretKeyValue → Option (List ℕ) → Sealing → List ℕ → List ℕ → ℕ
    → Type 0
IsMakingNumber (Some m) v password s comment bytes n = n ≡ misuse_number m
IsMakingNumber None v password s comment bytes n =
    (r : Refusal Fault) × (n ≡ refusal_number fault_number r) × IsMakingRefusal v password s comment bytes r
