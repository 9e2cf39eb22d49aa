-- Proves the goals of `xor_bytes` that the prover leaves open.
use Rattle.std.proofs.Common.{◌≢◌, bit_xor, sym, ◌∙◌, arith, get_or-set_other, take_all}
use Rattle.minisign.proofs.Common.{length-zip2}
use Rattle.minisign.proofs.SealedParts.{xored_next}
use Rattle.minisign.proofs.sealing.xor_bytes.Goals as goal

pub bytes-preserved : goal.bytes-preserved
bytes-preserved c = record {
  done = xored_next _ _ _ _ c.bytes.invariant.done
      (c.bytes.invariant.rest c.bytes.i (omega arith)) (omega arith) (omega arith) (omega arith);
  rest = λ k above. let other : k ≢ c.bytes.i = omega arith in
      rw get_or-set_other (c.bytes.invariant.rest k (omega arith));
}

pub returns : goal.returns
returns c =
    let x = c.args.bytes.now in
    let y = c.args.stream.now in
    let len = length-zip2 bit_xor x y c.requires in
    sym (take_all _ _ (omega arith)) ∙ c.bytes.invariant.done
    ∙ take_all _ _ (omega arith)
