-- Proves the goals of `has_reported` that the prover leaves open.
use Rattle.minisign_install.specs.Step.{Failed}
use Rattle.minisign_install.proofs.FullTraces.{result_is_no_misuse}
use Rattle.minisign_install.proofs.Tracing.{fits}
use Rattle.minisign_install.proofs.traces.has_reported.Goals as goal

pub returns-in-Failed-clause-sound : goal.returns-in-Failed-clause-sound
returns-in-Failed-clause-sound c = λ is s held.
    let (stored, same) = c.failed.ensures.steps s held in
    rw c.in-Failed.is
    (stored, fits s (Failed c.in-Failed.fault) _ _ same c.was_due-in-Failed.ensures.wrong is)

pub returns-in-Failed-clause-complete : goal.returns-in-Failed-clause-complete
returns-in-Failed-clause-complete c = λ s held fitting is.
    c.was_due-in-Failed.ensures.due
    (result_is_no_misuse s (Failed c.in-Failed.fault) _ (c.failed.ensures.steps s held).1
    (rw c.in-Failed.is at fitting))
