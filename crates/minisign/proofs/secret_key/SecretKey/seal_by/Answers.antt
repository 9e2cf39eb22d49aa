-- Proves the goals of `SecretKey::seal_by` that the prover leaves open.
use Rattle.std.proofs.Common.{arith}
use Rattle.minisign.proofs.GeneratedKeys.{limits_of_fields, stream_fault, work_allowed}
use Rattle.minisign.proofs.ErrorsAndPrefixes.{err_is}
use Rattle.minisign.proofs.secret_key.SecretKey.seal_by.Goals as goal

pub returns-clause-allowed : goal.returns-clause-allowed
returns-clause-allowed c = work_allowed _ _ (limits_of_fields _ _ _
    (omega arith) (omega arith) c.with_limits-sk.ensures.operations c.with_limits-sk.ensures.memory)
    c.in_ok-apply_stream.ensures.allowed

pub returns-in_err-apply_stream-clause-refused : goal.returns-in_err-apply_stream-clause-refused
returns-in_err-apply_stream-clause-refused c =
    rw (err_is _ _ c.from_residual.ensures.1) (stream_fault _ _ _ (limits_of_fields _ _ _
    (omega arith) (omega arith) c.with_limits-sk.ensures.operations c.with_limits-sk.ensures.memory)
    c.in_err-apply_stream.ensures.refused)
