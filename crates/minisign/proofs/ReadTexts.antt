-- Lemmas about the results of parsing.
use Rattle.std.proofs.Common.{◌≡◌, Bool, true, false, refl, sym, inl, inr, Result, Ok, Err}
use Rattle.minisign.proofs.Common.{Fault, without_value, NamedFault}
use Rattle.minisign.specs.Texts.{IsValueOrNoMemory, and_then, require}

-- If a value was parsed after a check, the check holds.
pub passed : {V : Type 0} (holds : Bool) (fault : NamedFault) (more : Result V Fault) (v : V)
    → require holds fault more ≡ Ok v → (holds ≡ true) × (more ≡ Ok v)
passed true _ _ v h = (refl, h)
passed false fault more v h = cc h

-- If a value was parsed in two steps, both succeeded.
pub read_before : {V W : Type 0} (r : Result V Fault) (more : V → Result W Fault) (w : W)
    → and_then r more ≡ Ok w → (v : V) × (r ≡ Ok v) × (more v ≡ Ok w)
read_before (Ok v) _ w h = (v, refl, h)
read_before (Err e) more w h = cc h

-- Equal results have equal values, and equal errors.
pub same_value : {V : Type 0} (v w : V) → ◌≡◌ {A = Result V Fault} (Ok v) (Ok w) → v ≡ w
same_value v w h = cc h

-- If a result without its value is an error, the result is this error.
pub same_end : {V : Type 0} (r : Result V Fault) (e : Fault) → Err e ≡ without_value r → r ≡ Err e
same_end (Ok v) e h = cc h
same_end (Err f) e h = cc h

-- If a result is a value, and is either out of memory or that of a function, the function gives the value.
pub read_value : {V : Type 0} (v : V) (read : Result V Fault) → IsValueOrNoMemory (Ok v) read → read ≡ Ok v
read_value v _ (inl is) = sym is
read_value v read (inr memory) = cc memory
