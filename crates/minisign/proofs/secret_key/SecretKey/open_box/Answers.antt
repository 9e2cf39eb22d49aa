-- Proves the goals of `SecretKey::open_box` that the prover leaves open.
use Rattle.std.proofs.Common.{refl, sym}
use Rattle.minisign.proofs.Openings.{closed_opening, headline_of, unread_text}
use Rattle.minisign.proofs.ErrorsAndPrefixes.{err_is}
use Rattle.minisign.proofs.secret_key.SecretKey.open_box.Goals as goal

pub returns-in_err-sk-clause-opens : goal.returns-in_err-sk-clause-opens
returns-in_err-sk-clause-opens g c =
    let refused = unread_text _ _ (sym (rw c.as_str.ensures at c.in_err-sk.ensures)) in
    rw (err_is _ _ c.from_residual.ensures.1) (closed_opening _ _ _ _ _ refl refused)

pub returns-in_err-sk-clause-headline : goal.returns-in_err-sk-clause-headline
returns-in_err-sk-clause-headline g c =
    headline_of _ _ _ _ _ (returns-in_err-sk-clause-opens g c)

pub returns-clause-opens : goal.returns-clause-opens
returns-clause-opens g c =
    rw c.as_deref.ensures.value at (c.open.ensures.opens c.args.sk_box
    (sym (rw c.as_str.ensures at c.in_ok-sk.ensures)))

pub returns-clause-headline : goal.returns-clause-headline
returns-clause-headline g c = headline_of _ _ _ _ _ (returns-clause-opens g c)
