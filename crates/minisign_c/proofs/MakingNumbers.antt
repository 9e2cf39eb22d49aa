-- Proves that, if the password and the sealing are allowed, the error number of writing a secret key file is
-- that of an error of IsMakingRefusal.
use Rattle.std.proofs.Common.{◌≡◌, ℕ, List, Option, Some, None, refl}
use Rattle.minisign_base.specs.Fault.{Fault}
use Rattle.minisign.specs.declared.making.Sealing.{Sealing}
use Rattle.minisign_external.specs.Making.{IsMakingRefusal}
use Rattle.minisign_external.specs.Numbers.{fault_number, refusal_number}
use Rattle.minisign_external.specs.declared.secrets.SecretKeyValue.{SecretKeyValue}
use Rattle.minisign_external.specs.declared.state.Misuse.{Misuse}
use Rattle.minisign_external.specs.declared.state.Refusal.{Refusal}
use Rattle.minisign_c.specs.KeyTexts.{IsMakingNumber}

pub number_of_refusal : (m : Option Misuse) (v : SecretKeyValue) (given passed : Option (List ℕ))
    → (s : Sealing) (comment bytes : List ℕ) (n : ℕ) → ((x : Misuse) → m ≡ Some x → ⊥) → given ≡ passed
    → (r : Refusal Fault) × (n ≡ refusal_number fault_number r) × IsMakingRefusal v given s comment bytes r
    → IsMakingNumber m v passed s comment bytes n
number_of_refusal (Some x) v given passed s comment bytes n no_misuse same refused = absurd (no_misuse x refl)
number_of_refusal None v given passed s comment bytes n no_misuse same (r, number, refused) =
    (r, number, rw same at refused)
