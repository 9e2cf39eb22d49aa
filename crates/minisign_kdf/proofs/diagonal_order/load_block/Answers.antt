-- Proves the goal of `load_block` that the prover leaves open.
use Rattle.std.proofs.Common.{ℕ, List, ap, ◌∙◌}
use Rattle.minisign_kdf.specs.Diagonal.{standard_order}
use Rattle.minisign_kdf.specs.Salsa20.{bytes_of_words32}
use Rattle.minisign_kdf.proofs.diagonal_order.load_block.Goals as goal

pub returns : goal.returns
returns c =
    ap (λ (l : List ℕ). bytes_of_words32 (standard_order l)) c.copy_from_slice.ensures.after
    ∙ ap bytes_of_words32 c.in_diagonal_order.ensures ∙ c.load_words.ensures
