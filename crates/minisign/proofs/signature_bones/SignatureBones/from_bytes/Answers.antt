-- Proves the goal of `SignatureBones::from_bytes` that the prover leaves open.
use Rattle.std.proofs.Common.{◌∙◌, ap, sym, inr}
use Rattle.minisign.proofs.RecordFields.{stored_algorithm, stored_length, unknown_algorithm}
use Rattle.minisign.proofs.signature_bones.SignatureBones.from_bytes.Goals as goal

pub returns-then-ne-2-clause-refused : goal.returns-then-ne-2-clause-refused
returns-then-ne-2-clause-refused c =
    let reads = c.in_ok-signature.ensures in
    let algorithm = stored_algorithm _ _ reads
    ∙ sym (ap (λ s. s.algorithm) c.signature.view_is) in
    inr (
      c.into.ensures,
      stored_length _ _ reads,
      λ known. unknown_algorithm _ c.if-ne.ensures c.if-ne-2.ensures (rw algorithm at known),
    )
