-- Proves the goal of `minisign_open_sealed_key` that the prover leaves open.
use Rattle.std.proofs.Common.{Err, inl, inr}
use Rattle.minisign_base.specs.Fault.{Named}
use Rattle.minisign_base.specs.declared.faults.NamedFault.TheVariants.{OutOfMemory}
use Rattle.minisign_external.specs.SecretKeys.{opened_sealed}
use Rattle.minisign_external.specs.declared.state.Refusal.TheVariants.{Refused}
use Rattle.minisign_c.proofs.OpeningErrors.{opening_refusal}
use Rattle.minisign_c.proofs.minisign_open_sealed_key.Goals as goal

pub returns-in-Err : goal.returns-in-Err
returns-in-Err c = elim c.in-Err.ensures [
  | inl returned ↦ inl (opening_refusal (opened_sealed c.args.unopened.now c.args.password.now
      c.args.most_rows)
      c.in-Err.error c.args.key.now c.open_sealed_key.new.value c.number.result c.number.ensures returned)
  | inr (returned, derives) ↦ inr (
    opening_refusal (Err (Refused (Named OutOfMemory))) c.in-Err.error c.args.key.now
        c.open_sealed_key.new.value c.number.result c.number.ensures returned,
    derives,
  )
]
