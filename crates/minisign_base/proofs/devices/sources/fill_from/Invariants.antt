-- The loop invariant and termination measure of `sources::fill_from`.
use Rattle.std.proofs.Common.{◌≡◌, ◌-◌, ◌≤◌, length, take}
use Rattle.std.specs.Io.KnownBytes.{Consumes}
use Rattle.minisign_base.proofs.devices.sources.fill_from.Given as goal

abbrev pub invariant-rest : goal.invariant-rest
invariant-rest g l = (l.at ≤ length l.buf)
    × Consumes (g.S.Source.ahead l.fn.source) (g.S.Source.ahead l.source) (take l.at l.buf)
    × (g.S.Source.faults l.source ≡ g.S.Source.faults l.fn.source)

abbrev pub decreases-rest : goal.decreases-rest
decreases-rest g l = length l.buf - l.at
