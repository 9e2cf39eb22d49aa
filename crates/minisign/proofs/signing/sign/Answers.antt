-- Proves the goal of `sign` that the prover leaves open.
use Rattle.std.proofs.Common.{◌≡◌, false, inl, inr}
use Rattle.minisign.specs.Sealing.{is_encrypted}
use Rattle.minisign.proofs.ErrorsAndPrefixes.{passed_up}
use Rattle.minisign.proofs.SignedBoxes.{refused_by_given}
use Rattle.minisign.proofs.signing.sign.Goals as goal

pub returns-in_err-check_given_key-clause-refused : goal.returns-in_err-check_given_key-clause-refused
returns-in_err-check_given_key-clause-refused g c =
    let (message, read, (signed, genuine)) = c.in_ok-signature_box.ensures.signed in
    let opened : is_encrypted c.args.sk.now ≡ false = cc in
    passed_up _ _ _ c.from_residual-in_err-check_given_key.ensures.1
    (elim c.in_err-check_given_key.ensures.refused [
      | inl out_of_memory ↦ inl
          (inr (opened, inl ((out_of_memory, c.in_ok-signature_box.ensures.no_new_fault), read.no_new_fault)))
      | inr refused ↦ inr (refused_by_given (g.S.Scheme.accepts c.args.scheme.now) _ _ _ _ _ _ _ _ _ opened
          read signed refused)
    ])
