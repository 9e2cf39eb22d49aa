-- Proves the goals of `Progress::reject` that the prover leaves open.
use Rattle.std.proofs.Common.{◌≡◌, ◌≢◌, arith}
use Rattle.minisign_install.specs.Installations.{error_number}
use Rattle.minisign_install.proofs.HeldStates.{error_is, first_error, later_error, rejected_state, with_error}
use Rattle.minisign_install.proofs.installation.progress.Progress.reject.Goals as goal

pub returns-then-is_first-clause-next_state : goal.returns-then-is_first-clause-next_state
returns-then-is_first-clause-next_state c = λ s state_held.
    let none : error_number s.error ≡ 0 =
    omega (arith, error_is c.args.self.now s state_held, c.if-is_first.true) in (
      rejected_state c.args.self.now c.go.new.self s c.args.fault _ state_held
          (rw c.due.ensures at c.rejected.ensures)
          (c.go.ensures _ (with_error c.args.self.now s _ c.args.fault c.number-self.ensures state_held)),
      first_error s.error c.args.fault none,
    )

pub returns-else-is_first-clause-next_state : goal.returns-else-is_first-clause-next_state
returns-else-is_first-clause-next_state c = λ s state_held.
    let some : error_number s.error ≢ 0 =
    λ z. omega (arith, error_is c.args.self.now s state_held, c.if-is_first.false, z) in (
      rejected_state c.args.self.now c.go.new.self s c.args.fault _ state_held
          (rw c.due.ensures at c.rejected.ensures)
          (c.go.ensures _ (with_error c.args.self.now s _ c.args.fault c.number-self.ensures state_held)),
      later_error s.error c.args.fault some,
    )
