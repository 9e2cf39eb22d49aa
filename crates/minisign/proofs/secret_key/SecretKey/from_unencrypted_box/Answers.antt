-- Proves the goals of `SecretKey::from_unencrypted_box` that the prover leaves open.
use Rattle.std.proofs.Common.{sym}
use Rattle.minisign.proofs.Openings.{unencrypted_refused, unencrypted_value, unread_unencrypted}
use Rattle.minisign.proofs.ErrorsAndPrefixes.{err_is}
use Rattle.minisign.proofs.secret_key.SecretKey.from_unencrypted_box.Goals as goal

pub returns-in_err-sk : goal.returns-in_err-sk
returns-in_err-sk c =
    rw (err_is _ _ c.from_residual.ensures.1) (sym (unread_unencrypted _ _
    (sym (rw c.as_str.ensures at c.in_err-sk.ensures))))

pub returns-in_err-test_unencrypted : goal.returns-in_err-test_unencrypted
returns-in_err-test_unencrypted c =
    rw (err_is _ _ c.from_residual-in_err-test_unencrypted.ensures.1)
    (unencrypted_refused _ c.in_ok-sk.sk (rw c.as_str.ensures at c.in_ok-sk.ensures)
    _ c.in_err-test_unencrypted.ensures)

pub returns : goal.returns
returns c = unencrypted_value _ _ (rw c.as_str.ensures at c.in_ok-sk.ensures)
    c.in_ok-test_unencrypted.ensures
