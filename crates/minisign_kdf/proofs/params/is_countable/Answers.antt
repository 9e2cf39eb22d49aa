-- Proves the goal of `is_countable` that the prover leaves open.
use Rattle.std.proofs.Common.{◌*◌, ◌^◌, sym, arith}
use Rattle.std.proofs.lemmas.Bool.{le-ltb}
use Rattle.minisign_kdf.proofs.ParamsFacts.{table_full}
use Rattle.minisign_kdf.proofs.params.is_countable.Goals as goal

pub returns-then-n_log2-ge64 : goal.returns-then-n_log2-ge64
returns-then-n_log2-ge64 c =
    sym (le-ltb (128 * c.args.r * 2 ^ c.args.n_log2) (2 ^ 64)
    (table_full c.args.n_log2 c.args.r (omega arith) (omega arith)))
