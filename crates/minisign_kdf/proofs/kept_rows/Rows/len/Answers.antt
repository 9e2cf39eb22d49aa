-- Proves the goal of `Rows::len` that the prover leaves open.
use Rattle.std.proofs.Common.{◌^◌, length, sym, ap, ◌∙◌}
use Rattle.std.specs.Int.{div_ceil}
use Rattle.minisign_kdf.specs.Kept.{KeptRows}
use Rattle.minisign_kdf.proofs.Remade.{length-rows_of}
use Rattle.minisign_kdf.proofs.kept_rows.Rows.len.Goals as goal

pub returns-clause-rows : goal.returns-clause-rows
returns-clause-rows c =
    let s = c.self.inside in
    c.kept_count.ensures ∙ sym (length-rows_of s.r (div_ceil (2 ^ s.n_log2) s.k) s.words.items)
    ∙ ap (λ (v : KeptRows). length v.rows) c.self.view_is
