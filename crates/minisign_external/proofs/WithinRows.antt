-- Lemmas about bounds on the work of scrypt, which computes N * p rows: opening a key with a bound on the
-- number of rows is opening it with the highest bound on p that allows no more rows.
use Rattle.std.proofs.Common.{◌≡◌, ◌⊎◌, ◌∙◌, ◌*◌, ℕ, Bool, true, false, not, bytes_eq, List, Result, Some, Ok}
use Rattle.std.proofs.Common.{Err, IsOk, ap, if◌then◌else◌, inl, inr, refl, rules, subst, sym}
use Rattle.std.specs.Prelude.{◌^◌, None, nat_lt}
use Rattle.std.specs.Option.{option_map_or}
use Rattle.std.specs.Result.{result_ok}
use Rattle.std.specs.Str.{IsUtf8}
use Rattle.minisign_base.specs.Fault.{Fault, Named}
use Rattle.minisign_base.specs.declared.faults.NamedFault.{NamedFault}
use Rattle.minisign_base.specs.declared.faults.NamedFault.TheVariants.{KeyNotEncrypted, OutOfMemory}
use Rattle.minisign_base.specs.declared.faults.NamedFault.TheVariants.{UnsupportedEncryptionAlgorithm}
use Rattle.minisign_base.specs.declared.faults.NamedFault.TheVariants.{WorkTooHigh}
use Rattle.minisign.specs.Records.{SecretKeyRecord}
use Rattle.minisign.specs.Sealing.{allowed_rows, allowed_work, key_limits, no_kdf, open_sealed, opening_work}
use Rattle.minisign.specs.Sealing.{restored_key, scrypt_kdf, sealed_by_scrypt, wants_password, xored_key}
use Rattle.minisign.specs.Texts.{and_then, require}
use Rattle.minisign_external.specs.PublicKeys.{read_utf8}
use Rattle.minisign_external.specs.SecretKeys.{DerivesWithin, is_read, computes_at_most, open_within}
use Rattle.minisign_external.specs.SecretKeys.{opened_or_unchanged}
use Rattle.minisign_external.specs.SecretKeys.{opened_sealed, unopened_record, with_refusal}
use Rattle.minisign_external.specs.declared.secrets.SecretKeyValue.{SecretKeyValue}
use Rattle.minisign_external.specs.declared.state.Refusal.{Refusal}
use Rattle.minisign_external.specs.declared.state.Refusal.TheVariants.{Refused}
use Rattle.minisign_external.specs.declared.unopened_keys.UnopenedKeyValue.{UnopenedKeyValue}
use Rattle.minisign_external.proofs.Utf8.{of_text}

-- If checking the key against the bound `times` on p gives the same result as checking it against the bound
-- `most` on the rows, then opening it gives the same result with both bounds.
pub opens_within : (k : SecretKeyRecord) (password : List ℕ) (times most : ℕ) → allowed_work k (Some times)
    ≡ allowed_rows k most
    → and_then (sealed_by_scrypt k) (λ s. open_sealed s password (Some times)) ≡ open_within k password most
opens_within k password times most same = by_cases (not (bytes_eq k.kdf no_kdf)) (bytes_eq k.kdf scrypt_kdf)
  where
    by_cases : (a b : Bool)
        → and_then (require a KeyNotEncrypted (require b UnsupportedEncryptionAlgorithm (Ok k)))
        (λ s. open_sealed s password (Some times))
        ≡ and_then (require a KeyNotEncrypted (require b UnsupportedEncryptionAlgorithm (Ok k)))
        (λ s. and_then (allowed_rows s most) (λ _. restored_key (xored_key s password)))
    by_cases true true = ap (λ w. and_then w (λ _. restored_key (xored_key k password))) same
    by_cases true false = refl
    by_cases false b = refl

-- Under the same condition, all checks before scrypt give the same result with both bounds.
pub derives_within : (k : SecretKeyRecord) (times most : ℕ) → allowed_work k (Some times)
    ≡ allowed_rows k most
    → and_then (sealed_by_scrypt k) (λ s. allowed_work s (Some times)) ≡ and_then (sealed_by_scrypt k)
    (λ s. allowed_rows s most)
derives_within k times most same = by_cases (not (bytes_eq k.kdf no_kdf)) (bytes_eq k.kdf scrypt_kdf)
  where
    by_cases : (a b : Bool)
        → and_then (require a KeyNotEncrypted (require b UnsupportedEncryptionAlgorithm (Ok k)))
        (λ s. allowed_work s (Some times))
        ≡ and_then (require a KeyNotEncrypted (require b UnsupportedEncryptionAlgorithm (Ok k)))
        (λ s. allowed_rows s most)
    by_cases true true = same
    by_cases true false = refl
    by_cases false b = refl

-- `opens_within` for a password that is UTF-8, where the second way of opening also checks this.
pub opens_text : (key k : SecretKeyRecord) (bytes password : List ℕ) (times most : ℕ) → key ≡ k
    → bytes ≡ password → IsUtf8 password
    → allowed_work key (Some times) ≡ allowed_rows key most
    → and_then (sealed_by_scrypt key) (λ s. open_sealed s bytes (Some times))
    ≡ read_utf8 (λ p. open_within k p most) password
opens_text key k bytes password times most is same utf8 work =
    opens_within key bytes times most work ∙ ap (λ (s : SecretKeyRecord). open_within s bytes most) is
    ∙ of_text (λ p. open_within k p most) password bytes same utf8

-- `opens_text` for a result that may also be out of memory, which is possible only if the checks before
-- scrypt succeed.
pub opens_or_none : (key k : SecretKeyRecord) (bytes password : List ℕ) (times most : ℕ)
    (r : Result SecretKeyRecord Fault) → key ≡ k
    → bytes ≡ password → IsUtf8 password → allowed_work key (Some times) ≡ allowed_rows key most
    → (r ≡ and_then (sealed_by_scrypt key) (λ s. open_sealed s bytes (Some times)))
    ⊎ ((r ≡ Err (Named OutOfMemory))
    × IsOk (and_then (sealed_by_scrypt key) (λ s. allowed_work s (Some times))))
    → (r ≡ read_utf8 (λ p. open_within k p most) password)
    ⊎ ((r ≡ Err (Named OutOfMemory)) × IsUtf8 password
    × IsOk (and_then (sealed_by_scrypt k) (λ s. allowed_rows s most)))
opens_or_none key k bytes password times most r is same utf8 work (inl opened) =
    inl (opened ∙ opens_text key k bytes password times most is same utf8 work)
opens_or_none key k bytes password times most r is same utf8 work (inr (memory, derives)) = inr (
  memory,
  utf8,
  subst (λ (s : SecretKeyRecord). IsOk (and_then (sealed_by_scrypt s) (λ l. allowed_rows l most))) is
      (rw (derives_within key times most work) at derives),
)

-- The result of `open_sealed_key` and the struct afterwards are those of its contract.
pub sealed_or_none : (v : UnopenedKeyValue) (password : List ℕ) (most : ℕ) (old : SecretKeyValue)
    (d : Result SecretKeyRecord Fault)
    (answer : Result Unit (Refusal Fault) × SecretKeyValue) → is_read v ≡ true
    → answer ≡ opened_or_unchanged (with_refusal d) old
    → (d ≡ read_utf8 (λ p. open_within (unopened_record v) p most) password)
    ⊎ ((d ≡ Err (Named OutOfMemory)) × IsUtf8 password
    × IsOk (and_then (sealed_by_scrypt (unopened_record v)) (λ s. allowed_rows s most)))
    → (answer ≡ opened_or_unchanged (opened_sealed v password most) old)
    ⊎ ((answer ≡ opened_or_unchanged (Err (Refused (Named OutOfMemory))) old) × DerivesWithin v password most)
sealed_or_none v password most old d answer read returned (inl opened) =
    inl (rw read (returned ∙ ap (λ x. opened_or_unchanged (with_refusal x) old) opened))
sealed_or_none v password most old d answer read returned (inr (memory, utf8, derives)) =
    inr (returned ∙ ap (λ x. opened_or_unchanged (with_refusal x) old) memory, (read, utf8, derives))

-- == Keys that need more rows than the bound ==

no_less : (n : ℕ) → not (nat_lt n 0) ≡ true
no_less n = search rules

same_test : {T : Type 0} (a b : Bool) (f : NamedFault) (v : T)
    → ◌≡◌ {A = Result T Fault} (require a f (Ok v)) (require b f (Ok v)) → a ≡ b
same_test true true f v h = refl
same_test true false f v h = cc h
same_test false true f v h = cc h
same_test false false f v h = refl

abbrev work_of : {V : Type 0} → Result V Fault → (V → ℕ) → (V → ℕ) → Bool → ℕ × ℕ
work_of l n p w = option_map_or (λ v. (n v, p v)) (if w then result_ok l else None) (0, 0)

-- If both bounds give the same result for these limits, the number of rows is within its bound exactly if p
-- is within its bound.
within_of : {V : Type 0} (l : Result V Fault) (n p : V → ℕ) (w : Bool) (times most : ℕ)
    → and_then l (λ v. require (not (nat_lt times (p v))) WorkTooHigh (Ok v))
    ≡ and_then l (λ v. require (not (nat_lt most (2 ^ n v * p v))) WorkTooHigh (Ok v))
    → not (nat_lt times (work_of l n p w).1)
    ≡ not (nat_lt most (2 ^ (work_of l n p w).0 * (work_of l n p w).1))
within_of (Ok v) n p true times most same = same_test _ _ WorkTooHigh v same
within_of (Err e) n p true times most same = no_less times ∙ sym (no_less most)
within_of l n p false times most same = no_less times ∙ sym (no_less most)

-- If the bound `times` on p and the bound `most` on the rows give the same result for a key, then opening the
-- key computes at most `most` rows exactly if its p is at most `times`.
pub within_times : (k : SecretKeyRecord) (times most : ℕ) → allowed_work k (Some times) ≡ allowed_rows k most
    → not (nat_lt times (opening_work k).1) ≡ computes_at_most k most
within_times k times most same =
    within_of (key_limits k) (λ v. v.n_log2) (λ v. v.p) (wants_password k) times most same

-- A key that needs more rows than the bound is rejected: with WorkTooHigh if it is encrypted with scrypt,
-- otherwise with UnsupportedEncryptionAlgorithm.
rejected_of : {V : Type 0} (l : Result V Fault) (n p : V → ℕ) (w b : Bool) (k : SecretKeyRecord) (most : ℕ)
    (next : SecretKeyRecord → V → Result SecretKeyRecord Fault)
    → not (nat_lt most (2 ^ (work_of l n p w).0 * (work_of l n p w).1)) ≡ false
    → and_then (require w KeyNotEncrypted (require b UnsupportedEncryptionAlgorithm (Ok k)))
    (λ s. and_then (and_then l (λ v. require (not (nat_lt most (2 ^ n v * p v))) WorkTooHigh (Ok v)))
    (next s))
    ≡ Err (Named (if b then WorkTooHigh else UnsupportedEncryptionAlgorithm))
rejected_of (Ok v) n p true true k most next many = rw many refl
rejected_of (Ok v) n p true false k most next many = refl
rejected_of (Err e) n p true b k most next many = let none = sym (no_less most) ∙ many in cc none
rejected_of l n p false b k most next many = let none = sym (no_less most) ∙ many in cc none

too_many : (k : SecretKeyRecord) (password : List ℕ) (most : ℕ) → computes_at_most k most ≡ false
    → open_within k password most
    ≡ Err (Named (if bytes_eq k.kdf scrypt_kdf then WorkTooHigh else UnsupportedEncryptionAlgorithm))
too_many k password most many =
    let rejected = rejected_of (key_limits k) (λ v. v.n_log2) (λ v. v.p) (wants_password k)
    (bytes_eq k.kdf scrypt_kdf) k most (λ s _. restored_key (xored_key s password)) many in
    pass (wants_password k) (bytes_eq k.kdf scrypt_kdf) rejected
  where
    pass : (w b : Bool)
        → and_then (require w KeyNotEncrypted (require b UnsupportedEncryptionAlgorithm (Ok k)))
        (λ s. and_then (allowed_rows k most) (λ _. restored_key (xored_key s password)))
        ≡ Err (Named (if bytes_eq k.kdf scrypt_kdf then WorkTooHigh else UnsupportedEncryptionAlgorithm))
        → and_then (require w KeyNotEncrypted (require b UnsupportedEncryptionAlgorithm (Ok k)))
        (λ s. and_then (allowed_rows s most) (λ _. restored_key (xored_key s password)))
        ≡ Err (Named (if bytes_eq k.kdf scrypt_kdf then WorkTooHigh else UnsupportedEncryptionAlgorithm))
    pass true true h = h
    pass true false h = h
    pass false b h = h

-- A key that needs more rows and is encrypted with scrypt is rejected with WorkTooHigh.
pub too_many_of_scrypt : (k : SecretKeyRecord) (password : List ℕ) (most : ℕ)
    → bytes_eq k.kdf scrypt_kdf ≡ true → computes_at_most k most ≡ false
    → open_within k password most ≡ Err (Named WorkTooHigh)
too_many_of_scrypt k password most is many = too_many k password most many
    ∙ ap (λ (b : Bool). Err (Named (if b then WorkTooHigh else UnsupportedEncryptionAlgorithm))) is

-- A key that needs more rows and is not encrypted with scrypt is rejected with
-- UnsupportedEncryptionAlgorithm.
pub too_many_of_other : (k : SecretKeyRecord) (password : List ℕ) (most : ℕ)
    → bytes_eq k.kdf scrypt_kdf ≡ false → computes_at_most k most ≡ false
    → open_within k password most ≡ Err (Named UnsupportedEncryptionAlgorithm)
too_many_of_other k password most is many = too_many k password most many
    ∙ ap (λ (b : Bool). Err (Named (if b then WorkTooHigh else UnsupportedEncryptionAlgorithm))) is
