-- Proves the goal of `sinks::put_and_flush` that the prover leaves open.
use Rattle.minisign_base.proofs.SinkLaws.{AppendsPrefix-whole}
use Rattle.minisign_base.proofs.devices.sinks.put_and_flush.Goals as goal

pub returns-in-Err-clause-prefix_received : goal.returns-in-Err-clause-prefix_received
returns-in-Err-clause-prefix_received g c = AppendsPrefix-whole _ _ _ _ c.in_ok-write_all.ensures.bytes
    c.flush.ensures.bytes
