-- Lemmas that combine several clauses about the result of one call.
use Rattle.std.proofs.Common.{Result, Ok, Err, OnOk, OnErr, IfErr}

pub on_ok_both : {T E : Type 0} (P Q : Type 0) (r : Result T E) → OnOk r P → OnOk r Q → OnOk r (P × Q)
on_ok_both P Q (Ok x) p q = (p, q)
on_ok_both P Q (Err e) p q = tt

pub if_err_both : {T E : Type 0} (P : E → Type 0) (Q : Type 0) (r : Result T E) → IfErr r P → OnErr r Q
    → IfErr r (λ e. P e × Q)
if_err_both P Q (Ok x) p q = tt
if_err_both P Q (Err e) p q = (p, q)

-- A statement that holds for every result also holds after an error.
pub on_err_of : {T E : Type 0} (r : Result T E) (P : Type 0) → P → OnErr r P
on_err_of (Ok x) P p = tt
on_err_of (Err e) P p = p
