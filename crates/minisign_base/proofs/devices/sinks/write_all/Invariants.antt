-- The loop invariant and termination measure of `sinks::write_all`.
use Rattle.std.proofs.Common.{◌≡◌, ◌-◌, ◌≤◌, length, take}
use Rattle.std.specs.Io.KnownBytes.{Appends}
use Rattle.minisign_base.proofs.devices.sinks.write_all.Given as goal

abbrev pub invariant-rest : goal.invariant-rest
invariant-rest g l = (l.at ≤ length l.bytes)
    × Appends (g.S.Sink.taken l.fn.sink) (g.S.Sink.taken l.sink) (take l.at l.bytes)
    × (g.S.Sink.sink_faults l.sink ≡ g.S.Sink.sink_faults l.fn.sink)
    × (g.S.Sink.flushed l.sink ≡ g.S.Sink.flushed l.fn.sink)

abbrev pub decreases-rest : goal.decreases-rest
decreases-rest g l = length l.bytes - l.at
