-- Lemmas about the errors of calls that open a key, if the key was read.
use Rattle.std.proofs.Common.{◌≡◌, ◌⊎◌, ◌∙◌, if◌then◌else◌, ℕ, Bool, true, false, List, None, Some, Result}
use Rattle.std.proofs.Common.{Ok, Err, ap, inl, inr, refl, subst, sym}
use Rattle.minisign_base.specs.Fault.{Fault, Named}
use Rattle.minisign_base.specs.declared.faults.NamedFault.TheVariants.{OutOfMemory}
use Rattle.minisign.specs.Records.{SecretKeyRecord}
use Rattle.minisign_external.specs.SecretKeys.{DerivesWithin, IsOpeningRefusal, is_read, open_record}
use Rattle.minisign_external.specs.SecretKeys.{open_unsealed, opened_or_unchanged, opened_sealed}
use Rattle.minisign_external.specs.SecretKeys.{opened_unsealed}
use Rattle.minisign_external.specs.SecretKeys.{unopened_record, with_refusal}
use Rattle.minisign_external.specs.declared.secrets.SecretKeyValue.{SecretKeyValue}
use Rattle.minisign_external.specs.declared.state.Refusal.{Refusal}
use Rattle.minisign_external.specs.declared.state.Refusal.TheVariants.{Refused, WrongUse}
use Rattle.minisign_external.specs.declared.state.Misuse.TheVariants.{KeyNotRead}
use Rattle.minisign_external.specs.declared.unopened_keys.UnopenedKeyValue.{UnopenedKeyValue}

abbrev Answer : Type 0
Answer = Result Unit (Refusal Fault) × SecretKeyValue

-- If a call that opens a key returns an error, it is the error of opening the key.
refused : (r : Result SecretKeyRecord Fault) (old new : SecretKeyValue) (f : Refusal Fault)
    → ◌≡◌ {A = Answer} (Err f, new) (opened_or_unchanged (with_refusal r) old)
    → (e : Fault) × (f ≡ Refused e) × (r ≡ Err e)
refused (Ok k) old new f h = let first = ap (λ (p : Answer). p.0) h in cc first
refused (Err e) old new f h =
    let first : ◌≡◌ {A = Result Unit (Refusal Fault)} (Err f) (Err (Refused e)) = ap
    (λ (p : Answer). p.0) h in
    let same : f ≡ Refused e = cc first in (e, same, refl)

-- An `if` whose condition is true equals its first branch. The condition here is that the key was read.
as_read : (b : Bool) (g : Result SecretKeyRecord (Refusal Fault)) (m : Refusal Fault) → b ≡ true
    → (if b then g else Err m) ≡ g
as_read true g m is = refl
as_read false g m is = cc is

-- If opening an encrypted key with a password fails, the error is one of opening its key record, or out of
-- memory if opening runs scrypt.
pub sealed_refusal : (v : UnopenedKeyValue) (password : List ℕ) (most : ℕ) (old new : SecretKeyValue)
    (f : Refusal Fault) → is_read v ≡ true
    → (◌≡◌ {A = Answer} (Err f, new) (opened_or_unchanged (opened_sealed v password most) old))
    ⊎ ((◌≡◌ {A = Answer} (Err f, new) (opened_or_unchanged (Err (Refused (Named OutOfMemory))) old))
    × DerivesWithin v password most)
    → IsOpeningRefusal (unopened_record v) (Some password) most f
sealed_refusal v password most old new f read (inl h) =
    let (e, same, is) = refused (open_record (unopened_record v) (Some password) most) old new f
    (h ∙ ap (λ g. opened_or_unchanged g old)
    (as_read (is_read v) (with_refusal (open_record (unopened_record v) (Some password) most))
    (WrongUse KeyNotRead) read)) in
    subst (IsOpeningRefusal (unopened_record v) (Some password) most) (sym same) (inl is)
sealed_refusal v password most old new f read (inr (h, (also, utf8, derives))) =
    let first : ◌≡◌ {A = Result Unit (Refusal Fault)} (Err f) (Err (Refused (Named OutOfMemory))) = ap
    (λ (p : Answer). p.0) h in
    let same : f ≡ Refused (Named OutOfMemory) = cc first in
    subst (IsOpeningRefusal (unopened_record v) (Some password) most) (sym same) (inr (refl, (utf8, derives)))

-- If opening a key without a password fails, the error is one of opening its key record.
pub unsealed_refusal : (v : UnopenedKeyValue) (most : ℕ) (old new : SecretKeyValue) (f : Refusal Fault)
    → is_read v ≡ true
    → ◌≡◌ {A = Answer} (Err f, new) (opened_or_unchanged (opened_unsealed v) old)
    → IsOpeningRefusal (unopened_record v) None most f
unsealed_refusal v most old new f read h =
    let (e, same, is) = refused (open_unsealed (unopened_record v)) old new f
    (h ∙ ap (λ g. opened_or_unchanged g old)
    (as_read (is_read v) (with_refusal (open_unsealed (unopened_record v))) (WrongUse KeyNotRead) read))
    in
    subst (IsOpeningRefusal (unopened_record v) None most) (sym same) (inl is)
