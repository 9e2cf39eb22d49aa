-- Proves the goals of `comment_only_fault` that the prover leaves open.
use Rattle.minisign_install.proofs.CommentFaults.{first_fails, last_check, first_passes}
use Rattle.minisign_install.proofs.installation.judging.comment_only_fault.Goals as goal

pub returns-in-Some-version_fault : goal.returns-in-Some-version_fault
returns-in-Some-version_fault c =
    first_passes _ _ _ c.in-None.ensures.value (first_fails _ _ _ c.in-Some-version_fault.ensures)

pub returns-in-Some-expiry_fault : goal.returns-in-Some-expiry_fault
returns-in-Some-expiry_fault c =
    first_passes _ _ _ c.in-None.ensures.value (first_passes _ _ _ c.in-None-version_fault.ensures
    (first_fails _ _ _ c.in-Some-expiry_fault.ensures.value))

pub returns-in-None-expiry_fault : goal.returns-in-None-expiry_fault
returns-in-None-expiry_fault c =
    first_passes _ _ _ c.in-None.ensures.value (first_passes _ _ _ c.in-None-version_fault.ensures
    (first_passes _ _ _ c.in-None-expiry_fault.ensures.value (last_check _ _ c.older_fault.ensures)))
