-- The loop invariant of `first_unlawful_line`.
use Rattle.std.proofs.Common.{◌≤◌, ◌-◌, length, take}
use Rattle.minisign_install.specs.Applications.{Snapshot}
use Rattle.minisign_install.specs.Installations.{options_by}
use Rattle.minisign_install.specs.Traces.{AreFilesOf}
use Rattle.minisign_install.proofs.Tracing.{Reached}
use Rattle.minisign_install.proofs.traces.first_unlawful_line.Given as goal

abbrev pub invariant-lines : goal.invariant-lines
invariant-lines l =
    (l.at ≤ length l.trace)
    × ((m : Snapshot) → AreFilesOf l.begun m
    → Reached l.inputs (options_by l.key l.other l.choices l.file) m l.follower l.message (take l.at l.trace))

abbrev pub decreases-lines : goal.decreases-lines
decreases-lines l = length l.trace - l.at
