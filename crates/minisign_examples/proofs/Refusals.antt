-- Lemmas about errors that are passed on, and about calls that return the specified result or run out of
-- memory.
use Rattle.std.specs.Prelude.{◌≡◌, ◌⊎◌, Result, Ok, Err, IfErr, IsErrAnd}
use Rattle.std.proofs.Common.{subst, sym, inl, inr}
use Rattle.minisign.specs.Fault.{Fault, Named}
use Rattle.minisign.specs.NamedFaults.{OutOfMemory}
use Rattle.minisign.specs.Texts.{IsValueOrNoMemory}

-- If a statement holds for an error, it holds for the result that passes this error on.
pub passed_up : {T E : Type 0} (r : Result T E) (e : E) (P : E → Type 0) → IsErrAnd r (λ y. y ≡ e) → P e
    → IfErr r P
passed_up (Ok x) e P is p = tt
passed_up (Err y) e P is p = subst P (sym is) p

-- If a call returned an error, it is the error in its specified result, which is `value`, or an allocation
-- failed.
pub function_refused : {V : Type 0} (e : Fault) (value : Result V Fault) → IsValueOrNoMemory (Err e) value
    → (e ≡ Named OutOfMemory) ⊎ (value ≡ Err e)
function_refused e value (inl is) = inr (sym is)
function_refused e value (inr memory) = inl (cc memory)

-- If a call returned a value, it is the value in its specified result, which is `value`.
pub specified_value : {V : Type 0} (v : V) (value : Result V Fault) → IsValueOrNoMemory (Ok v) value
    → value ≡ Ok v
specified_value v value (inl is) = sym is
specified_value v value (inr memory) = cc memory
