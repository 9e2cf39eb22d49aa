-- Proves the goal of `number_of` that the prover leaves open.
use Rattle.std.proofs.Common.{◌≡◌, List, ℕ, ap, arith, take}
use Rattle.std.proofs.lemmas.List.{take_all}
use Rattle.std.specs.Simd.Lanes.{number_l}
use Rattle.minisign_external.proofs.Words.{number_of_32}
use Rattle.minisign_external.proofs.strict.number_of.Goals as goal

pub returns : goal.returns
returns c =
    let bytes : List ℕ = c.args.bytes.now in
    let whole : number_l 256 (take 32 bytes) ≡ number_l 256 bytes =
    ap (number_l 256) (take_all 32 bytes (omega arith)) in
    omega (arith, whole, number_of_32 bytes c.requires c.type_inv.bytes)
