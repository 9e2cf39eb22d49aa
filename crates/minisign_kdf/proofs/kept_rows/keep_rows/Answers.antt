-- Proves the goals of `keep_rows` that the prover leaves open.
use Rattle.std.proofs.Common.{◌≡◌, ℕ, ◌*◌, ◌/◌, ◌<◌, ◌^◌, List, length, ap, ◌∙◌, arith}
use Rattle.std.specs.Int.{div_ceil}
use Rattle.minisign_kdf.specs.Blocks.{block}
use Rattle.minisign_kdf.specs.Diagonal.{diagonal_bytes}
use Rattle.minisign_kdf.specs.Scrypt.{row_at}
use Rattle.minisign_kdf.proofs.Remade.{kept_rows_of}
use Rattle.minisign_kdf.proofs.kept_rows.keep_rows.Goals as goal

pub fill_rows-requires-clause-room : goal.fill_rows-requires-clause-room
fill_rows-requires-clause-room g c =
    let size : length c.args.block.now / 4 / 32 ≡ length c.args.block.now / 128 = omega arith in
    rw (size, c.kept_count.ensures) c.requires.room

pub returns-clause-len : goal.returns-clause-len
returns-clause-len g c =
    let size : length c.args.block.now / 4 / 32 ≡ length c.args.block.now / 128 = omega arith in
    rw (size, c.kept_count.ensures) at c.fill_rows.ensures.len

pub returns-clause-rows : goal.returns-clause-rows
returns-clause-rows g c =
    let b : List ℕ = c.args.block.now in
    let k : ℕ = c.args.k in
    let n : ℕ = 2 ^ c.args.n_log2 in
    let words : List ℕ = g.S.RowMemory.words c.fill_rows.new.rows in
    let size : length b / 4 / 32 ≡ length b / 128 = omega arith in
    let each : (i : ℕ) → i < div_ceil n k → diagonal_bytes (block (32 * (length b / 128)) words i)
    ≡ row_at (length b / 128) b (k * i) =
    λ i lt. rw size at (c.fill_rows.ensures.rows i (rw c.kept_count.ensures lt)
    ∙ ap (λ (l : List ℕ). row_at (length b / 4 / 32) l (k * i)) c.load_part.ensures) in
    kept_rows_of (length b / 128) n k b words each
