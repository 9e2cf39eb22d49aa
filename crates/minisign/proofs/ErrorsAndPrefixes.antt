-- Lemmas about the results of calls that pass an error on, and about bytes that calls remove from the front
-- of the unread bytes, once or in two parts.
use Rattle.std.proofs.Common.{◌≡◌, ℕ, List, ◌++◌, Option, None, Some, Result, Ok, Err, IsErrAnd, IfOk, IfErr}
use Rattle.std.proofs.Common.{OnErr, append_assoc, ap, sym, ◌∙◌}
use Rattle.minisign.proofs.Common.{Consumes, ⊤, PrefixIsRemoved, without_value}

-- A statement that always holds also holds after an error.
pub on_err_of : {T E : Type 0} (r : Result T E) (P : Type 0) → P → OnErr r P
on_err_of (Ok x) P h = tt
on_err_of (Err e) P h = h

-- A result with exactly this error is equal to Err of the error.
pub err_is : {T E : Type 0} (r : Result T E) (e : E) → IsErrAnd r (λ y. y ≡ e) → r ≡ Err e
err_is (Ok x) e is = absurd is
err_is (Err y) e is = ap Err is

-- If a statement holds for an error, it holds for the error of each result that passes it on.
pub passed_up : {T E : Type 0} (r : Result T E) (e : E) (P : E → Type 0) → IsErrAnd r (λ y. y ≡ e) → P e
    → IfErr r P
passed_up (Ok x) e P _ h = tt
passed_up (Err y) e P is h = rw (sym is) at h

-- A statement about a returned value follows from a clause about the value and a clause about how the
-- call ended.
pub on_value : {T E : Type 0} (r : Result T E) (P : T → Type 0) (Ends : Result ⊤ E → Type 0)
    (Q : T → Type 0) → IfOk r P → Ends (without_value r)
    → ((v : T) → P v → Ends (Ok tt) → Q v) → IfOk r Q
on_value (Ok v) P Ends Q h ended f = f v h ended
on_value (Err e) P Ends Q h _ f = tt

-- A statement about an error follows from a clause about how the call ended.
pub on_fault : {T E : Type 0} (r : Result T E) (Ends : Result ⊤ E → Type 0) (Q : E → Type 0)
    → Ends (without_value r)
    → ((e : E) → Ends (Err e) → Q e) → IfErr r Q
on_fault (Ok v) Ends Q _ f = tt
on_fault (Err e) Ends Q ended f = f e ended

-- If bytes were read from the front and a prefix of the rest was removed after that, a prefix was
-- removed in total.
pub removed_after_consumed : (old mid new : Option (List ℕ)) (a : List ℕ) → Consumes old mid a
    → PrefixIsRemoved mid new
    → PrefixIsRemoved old new
removed_after_consumed _ _ None a _ _ = tt
removed_after_consumed None _ (Some _) a _ _ = tt
removed_after_consumed (Some _) None (Some _) a all _ = absurd all
removed_after_consumed (Some _) (Some _) (Some ys) a all (front, more) =
    (a ++ front, all ∙ ap (λ l. a ++ l) more ∙ sym (append_assoc a front ys))

-- Reading bytes removes a prefix.
pub consumed : (old now : Option (List ℕ)) (a : List ℕ) → Consumes old now a → PrefixIsRemoved old now
consumed _ None a _ = tt
consumed None (Some _) a _ = tt
consumed (Some _) (Some _) a all = (a, all)
