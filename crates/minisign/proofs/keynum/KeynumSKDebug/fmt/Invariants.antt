-- The loop invariant of `fmt`.
use Rattle.std.proofs.Common.{take}
use Rattle.minisign.proofs.Common.{HasWritten, IsPlainFormatter}
use Rattle.minisign.specs.Records.{secret_text}
use Rattle.minisign.proofs.keynum.KeynumSKDebug.fmt.Given as goal

abbrev pub invariant-bytes : goal.invariant-bytes
invariant-bytes g l =
    IsPlainFormatter l.initial.f → HasWritten g.W.Write.write_str_gives l.initial.f
    (secret_text (take l.byte-index l.self.sk)) l.f
