-- The loop invariant and termination measure of `read_line`.
use Rattle.std.proofs.Common.{◌≡◌, ◌+◌, ◌-◌, ◌≤◌, length, take}
use Rattle.std.specs.Io.KnownBytes.{Consumes}
use Rattle.minisign_base.specs.Passwords.{line_length}
use Rattle.minisign_base.proofs.prompt.read_line.Given as goal

abbrev pub invariant-bytes : goal.invariant-bytes
invariant-bytes g l = record {
  within : l.used ≤ 1026;
  bytes_read : Consumes (g.R.Source.ahead l.fn.source) (g.R.Source.ahead l.source) (take l.used l.line);
  unfinished : line_length (take l.used l.line) ≡ l.used;
  left : g.R.Source.left l.source + l.used ≡ g.R.Source.left l.fn.source;
  no_new_fault : g.R.Source.faults l.source ≡ g.R.Source.faults l.fn.source;
}

abbrev pub decreases-bytes : goal.decreases-bytes
decreases-bytes g l = length l.initial.line - l.used
