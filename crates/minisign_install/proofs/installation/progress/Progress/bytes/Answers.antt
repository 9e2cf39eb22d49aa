-- Proves the goals of `Progress::bytes` that the prover leaves open.
use Rattle.std.proofs.Common.{◌≡◌, ◌==◌, Bool, true, false, if◌then◌else◌, length, rules, subst, sym}
use Rattle.minisign_install.specs.Installations.{Steps, end_event}
use Rattle.minisign_install.specs.Step.{PieceRead}
use Rattle.minisign_install.proofs.installation.progress.Progress.bytes.Goals as goal

pub returns-then-is_empty-clause-steps : goal.returns-then-is_empty-clause-steps
returns-then-is_empty-clause-steps c = λ s state_held.
    let is : (length c.args.bytes.now == 0) ≡ true = search rules in
    subst (λ (b : Bool).
    Steps (if b then end_event s.due else PieceRead c.args.bytes.now) s c.end_piece.result
    c.end_piece.new.self) (sym is) (c.end_piece.ensures.steps s state_held)

pub returns-else-is_empty-clause-steps : goal.returns-else-is_empty-clause-steps
returns-else-is_empty-clause-steps c = λ s state_held.
    let is : (length c.args.bytes.now == 0) ≡ false = search rules in
    subst (λ (b : Bool).
    Steps (if b then end_event s.due else PieceRead c.args.bytes.now) s c.piece.result
    c.piece.new.self) (sym is) (c.piece.ensures.steps s state_held)
