-- Proves the goals of `comment_fault` that the prover leaves open.
use Rattle.minisign_install.proofs.CommentFaults.{first_fails, last_check, first_passes}
use Rattle.minisign_install.proofs.installation.judging.comment_fault.Goals as goal

pub returns-in-Some-number_fault-clause-value : goal.returns-in-Some-number_fault-clause-value
returns-in-Some-number_fault-clause-value c =
    first_passes _ _ _ c.in-None.ensures.value (first_fails _ _ _
    (c.in-Some-number_fault.ensures.value c.args.file.now))

pub returns-in-Some-expiry_fault-clause-value : goal.returns-in-Some-expiry_fault-clause-value
returns-in-Some-expiry_fault-clause-value c =
    first_passes _ _ _ c.in-None.ensures.value (first_passes _ _ _
    (c.in-None-number_fault.ensures.value c.args.file.now)
    (first_fails _ _ _ (rw c.must_expire.ensures at c.in-Some-expiry_fault.ensures.value)))

pub returns-in-Some-size_fault-clause-value : goal.returns-in-Some-size_fault-clause-value
returns-in-Some-size_fault-clause-value c =
    first_passes _ _ _ c.in-None.ensures.value (first_passes _ _ _
    (c.in-None-number_fault.ensures.value c.args.file.now)
    (first_passes _ _ _ (rw c.must_expire.ensures at c.in-None-expiry_fault.ensures.value)
    (first_fails _ _ _ c.in-Some-size_fault.ensures.value)))

pub returns-in-None-size_fault-clause-value : goal.returns-in-None-size_fault-clause-value
returns-in-None-size_fault-clause-value c =
    first_passes _ _ _ c.in-None.ensures.value (first_passes _ _ _
    (c.in-None-number_fault.ensures.value c.args.file.now)
    (first_passes _ _ _ (rw c.must_expire.ensures at c.in-None-expiry_fault.ensures.value)
    (first_passes _ _ _ c.in-None-size_fault.ensures.value (last_check _ _
    (c.age_fault.ensures.value c.args.file.now)))))
