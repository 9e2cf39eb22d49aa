-- The loop invariant of `is_listed`.
use Rattle.std.proofs.Common.{◌≡◌, false, take}
use Rattle.minisign_install.specs.Traces.{is_listed}
use Rattle.minisign_install.proofs.traces.is_listed.Given as goal

abbrev pub invariant-signatures : goal.invariant-signatures
invariant-signatures l = is_listed (take l.signed-index l.table) l.message l.key l.signature ≡ false
