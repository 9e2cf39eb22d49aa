-- Proves the goals of `xor_pad` that the prover leaves open.
use Rattle.std.proofs.Common.{ℕ, map, bit_xor, sym, ◌∙◌, arith}
use Rattle.std.proofs.lemmas.List.{length-map, length-set, take_all}
use Rattle.minisign_kdf.proofs.Keys.{padded_next}
use Rattle.minisign_kdf.proofs.hmac.xor_pad.Goals as goal

pub bytes-preserved : goal.bytes-preserved
bytes-preserved c =
    let (len, done) = c.bytes.invariant in (
      length-set _ _ _ ∙ len,
      padded_next c.args.pad c.bytes.i c.args.block.now c.bytes.xored done (omega arith) (omega arith),
    )

pub returns : goal.returns
returns c =
    let (len, done) = c.bytes.invariant in
    let whole = length-map c.args.block.now (λ (b : ℕ). bit_xor b c.args.pad) in
    sym (take_all c.bytes.i c.bytes.xored (omega arith)) ∙ done
    ∙ take_all c.bytes.i (map (λ b. bit_xor b c.args.pad) c.args.block.now) (omega arith)
