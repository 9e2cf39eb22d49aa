-- Lemmas about verification that does not copy the data, and therefore does not use its output.
use Rattle.std.proofs.Common.{List, ℕ, Result, Ok, Err, IfErr, inl, inr, false, None, refl}
use Rattle.minisign.specs.Fault.{Fault}
use Rattle.minisign.specs.DeviceCalls.{RereaderCall, SinkCall, no_sink}
use Rattle.minisign.specs.Acceptance.{Verifier}
use Rattle.minisign.specs.Records.{PublicKeyRecord, SignatureBoxRecord}
use Rattle.minisign.specs.Verifying.{VerifyingFails, VerifyingTextsFails}
use Rattle.minisign.proofs.Laws.{fails_without_output}
use Rattle.minisign_tool.specs.Verify.{says_only}

-- The call of an output with these states, about whose contents nothing is known.
abbrev pub silent : {O : Type 0} → O → O → SinkCall O
silent old new = record {
  sink = record { taken = λ _. None; flushed = λ _. None; sink_faults = λ _. 0 };
  old = old;
  new = new;
}

-- If verification with a key and a box fails without copying, it fails in the same way without an
-- output.
pub box_fails : {T R W O : Type 0} (accepts : Verifier) (key : PublicKeyRecord) (box : SignatureBoxRecord)
    (reader : RereaderCall R) (status : SinkCall W)
    (old new : O) (r : Result T Fault)
    → IfErr r (VerifyingFails accepts key box says_only reader status (silent old new))
    → IfErr r (VerifyingFails accepts key box says_only reader status no_sink)
box_fails accepts key box reader status old new (Ok x) h = tt
box_fails accepts key box reader status old new (Err e) h =
    fails_without_output accepts key box false reader status (silent old new) e h

-- If verification with two texts fails without copying, it fails in the same way without an output.
pub texts_fail : {T R W O : Type 0} (accepts : Verifier) (pk sig : List ℕ) (reader : RereaderCall R)
    (status : SinkCall W)
    (out : SinkCall O) (r : Result T Fault)
    → IfErr r (VerifyingTextsFails accepts pk sig says_only reader status out)
    → IfErr r (VerifyingTextsFails accepts pk sig says_only reader status no_sink)
texts_fail accepts pk sig reader status out (Ok x) h = tt
texts_fail accepts pk sig reader status out (Err e) (inl (why, unread, unsaid, uncopied)) =
    inl (why, unread, unsaid, refl)
texts_fail accepts pk sig reader status out (Err e) (inr (key, box, read, h)) =
    inr (key, box, read, fails_without_output accepts key box false reader status out e h)
