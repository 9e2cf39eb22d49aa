-- Proves the goals of `key_of_text` that the prover leaves open.
use Rattle.std.proofs.Common.{bytes_eq, ap, refl, sym, ◌∙◌}
use Rattle.minisign.specs.Sealing.{no_kdf}
use Rattle.minisign.proofs.Openings.{sealed_key, unread_key, unsealed_key, untouched, unencrypted_refused}
use Rattle.minisign.proofs.Openings.{unencrypted_value}
use Rattle.minisign.proofs.ErrorsAndPrefixes.{err_is}
use Rattle.minisign.proofs.signing_texts.key_of_text.Goals as goal

pub returns-clause-gives : goal.returns-clause-gives
returns-clause-gives g c =
    let read = sym c.in_ok-sk.ensures in
    sealed_key _ _ _ _ _ read (ap (λ k. bytes_eq k.kdf no_kdf) (sym c.sk.view_is) ∙ sym c.if-eq.ensures)
    (c.open.ensures.opens c.args.text.now read)

pub returns-clause-untouched : goal.returns-clause-untouched
returns-clause-untouched g c =
    untouched _ _ _ _ _ (returns-clause-gives g c)

pub returns-in_err-sk-clause-gives : goal.returns-in_err-sk-clause-gives
returns-in_err-sk-clause-gives g c =
    rw (err_is _ _ c.from_residual.ensures.1) (unread_key _ _ _ _ refl (sym c.in_err-sk.ensures))

pub returns-in_err-test_unencrypted-clause-gives : goal.returns-in_err-test_unencrypted-clause-gives
returns-in_err-test_unencrypted-clause-gives g c =
    let read = sym c.in_ok-sk.ensures in
    rw (err_is _ _ c.from_residual-in_err-test_unencrypted.ensures.1) (unsealed_key _ _ _ _
    _ read (ap (λ k. bytes_eq k.kdf no_kdf) (sym c.sk.view_is) ∙ sym c.if-eq.ensures) refl
    (unencrypted_refused _ c.in_ok-sk.sk c.in_ok-sk.ensures _ c.in_err-test_unencrypted.ensures))

pub returns-then-eq-clause-gives : goal.returns-then-eq-clause-gives
returns-then-eq-clause-gives g c =
    let read = sym c.in_ok-sk.ensures in
    unsealed_key _ _ _ _
    _ read (ap (λ k. bytes_eq k.kdf no_kdf) (sym c.sk.view_is) ∙ sym c.if-eq.ensures) refl
    (unencrypted_value _ _ c.in_ok-sk.ensures c.in_ok-test_unencrypted.ensures)
