-- Proves the goal of `sign_bytes` that the prover leaves open.
use Rattle.std.proofs.Common.{subst, sym}
use Rattle.minisign.proofs.Common.{IfOk-weaker}
use Rattle.minisign.specs.Reading.{KnownBytesAre}
use Rattle.minisign.proofs.key_calls.sign_bytes.Goals as goal

pub returns-clause-headline : goal.returns-clause-headline
returns-clause-headline g c = IfOk-weaker c.sign_reader.result _ _ (λ t (message, read, (signed, headline)).
    let same = subst (λ known. KnownBytesAre known message) c.new-data.ensures.ahead read.known_bytes in
    rw (sym same) at headline) c.sign_reader.ensures.signed
