-- The texts of a key pair, and the errors of making a release.
use Rattle.std.specs.Prelude.{◌≡◌, ◌<◌, ◌⊎◌, ℕ, List, length, Ok}
use Rattle.minisign.specs.Fault.{Fault, Named}
use Rattle.minisign.specs.NamedFaults.{OutOfMemory, PasswordTooLong, RandomSourceFailed}
use Rattle.minisign.specs.Records.{PublicKeyRecord, SecretKeyRecord}
use Rattle.minisign.specs.KeyTexts.{read_public_key}
use Rattle.minisign.specs.Generation.{IsGenuinePair}
use Rattle.minisign.specs.Sealing.{OpensTo}

-- One text parses to the public key, and the other decrypts under the password to the secret key
-- that belongs to it.
pub record ArePairTexts (public_of : List ℕ → List ℕ) (password pk_text sk_text : List ℕ)
    (pk : PublicKeyRecord)
    (sk : SecretKeyRecord) : Type 0 where
  pub public : read_public_key pk_text ≡ Ok pk
  pub secret : OpensTo sk_text password 1 sk
  pub pair : IsGenuinePair public_of pk sk

-- An allocation or the random source failed. No text and no signature was rejected.
abbrev pub IsMemoryOrRandomFault : Fault → Type 0
IsMemoryOrRandomFault e = (e ≡ Named OutOfMemory) ⊎ (e ≡ Named RandomSourceFailed)

-- The errors of making keys: an allocation or the random source failed, or the password has more
-- than 1024 bytes.
abbrev pub IsPairFault : List ℕ → Fault → Type 0
IsPairFault password e = IsMemoryOrRandomFault e ⊎ ((e ≡ Named PasswordTooLong) × (1024 < length password))
