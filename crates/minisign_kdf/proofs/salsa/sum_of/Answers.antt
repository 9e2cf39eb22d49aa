-- Proves the goal of `sum_of` that the prover leaves open.
use Rattle.std.proofs.Common.{arith}
use Rattle.minisign_kdf.specs.Salsa20.{add32}
use Rattle.minisign_kdf.proofs.Sixteen.{zip2_rows}
use Rattle.minisign_kdf.proofs.salsa.sum_of.Goals as goal

pub returns : goal.returns
returns c =
    let x = c.args.x in
    let y = c.args.y in
    zip2_rows add32 x.a x.b x.c x.d y.a y.b y.c y.d (omega arith) (omega arith) (omega arith) (omega arith)
    (omega arith) (omega arith) (omega arith) (omega arith)
