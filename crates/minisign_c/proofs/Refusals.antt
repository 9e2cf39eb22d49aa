-- Lemmas about reading and opening a secret key: a result other than 0 is the number of an error.
use Rattle.std.proofs.Common.{◌≡◌, ◌⊎◌, ◌<◌, ℕ, true, List, Option, Some, None, Result, Ok, Err, inl, inr, ap}
use Rattle.std.proofs.Common.{arith, refl}
use Rattle.minisign_base.specs.Fault.{Fault, Named}
use Rattle.minisign_base.specs.declared.faults.NamedFault.TheVariants.{OutOfMemory}
use Rattle.minisign.specs.Records.{SecretKeyRecord}
use Rattle.minisign.specs.KeyTexts.{read_secret_key}
use Rattle.minisign.specs.Texts.{and_then}
use Rattle.minisign_external.specs.Numbers.{fault_number, refusal_number}
use Rattle.minisign_external.specs.PublicKeys.{read_utf8}
use Rattle.minisign_external.specs.SecretKeys.{DerivesWithin, IsOpeningRefusal, IsTextOpeningRefusal, is_read}
use Rattle.minisign_external.specs.SecretKeys.{open_record, opened_sealed, opened_unsealed, reading_number}
use Rattle.minisign_external.specs.SecretKeys.{opened_outcome, unopened_record, with_refusal}
use Rattle.minisign_external.specs.declared.secrets.SecretKeyValue.{SecretKeyValue}
use Rattle.minisign_external.specs.declared.state.Refusal.{Refusal}
use Rattle.minisign_external.specs.declared.state.Refusal.TheVariants.{Refused}
use Rattle.minisign_external.specs.declared.unopened_keys.UnopenedKeyValue.{UnopenedKeyValue}

-- If the result of opening is not 0, it is the number of the error.
opening_error : (given : Result SecretKeyRecord Fault) (n : ℕ) (old new : SecretKeyValue)
    → ◌≡◌ {A = ℕ × SecretKeyValue} (n, new) (opened_outcome (with_refusal given) old)
    → 0 < n → (e : Fault) × (n ≡ fault_number e) × (given ≡ Err e)
opening_error (Ok key) n old new returned some =
    let none : n ≡ 0 = ap (λ p. p.0) returned in
    absurd (omega arith)
opening_error (Err e) n old new returned some = (e, ap (λ p. p.0) returned, refl)

-- If the result of reading is not 0, it is the number of the error.
read_error : (given : Result SecretKeyRecord Fault) (n : ℕ) → n ≡ reading_number given
    → 0 < n → (e : Fault) × (n ≡ fault_number e) × (given ≡ Err e)
read_error (Ok key) n none some = absurd (omega arith)
read_error (Err e) n returned some = (e, returned, refl)

-- If opening an encrypted key returns a number other than 0, it is the number of an error of opening its key
-- record.
pub sealed_refusal : (v : UnopenedKeyValue) (password : List ℕ) (most_rows n : ℕ) (old new : SecretKeyValue)
    → is_read v ≡ true
    → (◌≡◌ {A = ℕ × SecretKeyValue} (n, new) (opened_outcome (opened_sealed v password most_rows) old)
    ⊎ (◌≡◌ {A = ℕ × SecretKeyValue} (n, new) (opened_outcome (Err (Refused (Named OutOfMemory))) old)
    × DerivesWithin v password most_rows))
    → 0 < n → (r : Refusal Fault) × (n ≡ refusal_number fault_number r)
    × IsOpeningRefusal (unopened_record v) (Some password) most_rows r
sealed_refusal v password most_rows n old new was_read (inl returned) some =
    let (e, number, failed) = opening_error (open_record (unopened_record v)
    (Some password) most_rows) n old new
    (rw was_read at returned) some in
    (Refused e, number, inl failed)
sealed_refusal v password most_rows n old new was_read (inr (returned, derives)) some =
    let (_, utf8, allowed) = derives in
    (Refused (Named OutOfMemory), ap (λ p. p.0) returned, inr (refl, (utf8, allowed)))

-- The same for opening a key without a password.
pub unsealed_refusal : (v : UnopenedKeyValue) (most_rows n : ℕ) (old new : SecretKeyValue)
    → is_read v ≡ true
    → ◌≡◌ {A = ℕ × SecretKeyValue} (n, new) (opened_outcome (opened_unsealed v) old)
    → 0 < n → (r : Refusal Fault) × (n ≡ refusal_number fault_number r)
    × IsOpeningRefusal (unopened_record v) None most_rows r
unsealed_refusal v most_rows n old new was_read returned some =
    let (e, number, failed) = opening_error (open_record (unopened_record v) None most_rows) n old new
    (rw was_read at returned) some in
    (Refused e, number, inl failed)

-- If reading a secret key file returns a number other than 0, it is the number of an error of opening the
-- file.
pub reading_refusal : (text : List ℕ) (password : Option (List ℕ)) (most_rows n : ℕ)
    → n ≡ reading_number (read_utf8 read_secret_key text)
    → 0 < n → (r : Refusal Fault) × (n ≡ refusal_number fault_number r)
    × IsTextOpeningRefusal text password most_rows r
reading_refusal text password most_rows n returned some =
    let (e, number, failed) = read_error (read_utf8 read_secret_key text) n returned some in
    (Refused e, number, inl (ap (λ read. and_then read (λ k. open_record k password most_rows)) failed))
