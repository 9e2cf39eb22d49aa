-- A lemma about a call that passes on the error of another call.
use Rattle.std.proofs.Common.{◌≡◌, Result, Ok, Err, IfErr, subst, sym}
use Rattle.std.specs.Result.{IsErrAnd}

-- If a statement holds for an error, it holds for the error of each result that passes it on.
pub handed_on : {T E : Type 0} (r : Result T E) (e : E) (P : E → Type 0) → IsErrAnd r (λ y. y ≡ e) → P e
    → IfErr r P
handed_on (Ok x) e P is h = tt
handed_on (Err y) e P is h = subst P (sym is) h
