-- Proves the goal of `copy_out` that the prover leaves open.
use Rattle.std.proofs.Common.{[], ◌∷◌, refl}
use Rattle.minisign.proofs.Common.{rereader_call, sink_call, no_sink}
use Rattle.minisign.specs.Verifying.{Flush, Put}
use Rattle.minisign.proofs.VerifyingStages.{OneEnds, copying_from_memory, last_step, next_step}
use Rattle.minisign.proofs.copying.copy_out.Goals as goal

pub returns-in_ok-put_bytes-in-Message : goal.returns-in_ok-put_bytes-in-Message
returns-in_ok-put_bytes-in-Message g c =
    let reader = rereader_call g.R.Source g.R.Rereader.steady c.args.data_reader.now c.args.data_reader.now in
    let out = sink_call g.O.Sink c.args.out.now c.flush.new.out in
    let bytes = c.in-Message.bytes.items in
    let stages = copying_from_memory _ _ _ _ c.if-not-output.false c.in-Message.is in
    let put = rw c.deref.ensures.value at c.in_ok-put_bytes-in-Message.ensures in (
      bytes,
      rw stages at (next_step (OneEnds reader no_sink out) (Put bytes) (Flush ∷ []) _
          (record { reader = c.args.data_reader.now; status = tt; out = c.put_bytes.new.out }) _
          c.flush.result (put, refl, refl)
          (last_step (OneEnds reader no_sink out) Flush _ _ c.flush.result (c.flush.ensures, refl, refl))),
    )
