-- Proves the goals of `write_public_half` that the prover leaves open.
use Rattle.std.proofs.Common.{◌∙◌, ◌++◌, ap, drop, sym}
use Rattle.std.proofs.Math.Seq.{drop-append_seam}
use Rattle.minisign_external.proofs.making.write_public_half.Goals as goal

pub returns : goal.returns
returns c =
    ap
    (λ n. drop n (c.split_at_mut-public_half.result.0.now ++ c.copy_from_slice.new.self))
    (sym c.split_at_mut-public_half.ensures.front_len)
    ∙ drop-append_seam c.split_at_mut-public_half.result.0.now c.copy_from_slice.new.self
    ∙ c.copy_from_slice.ensures.after
