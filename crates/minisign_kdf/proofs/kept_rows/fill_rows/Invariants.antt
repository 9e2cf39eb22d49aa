-- The loop invariant of `fill_rows`.
use Rattle.std.proofs.Common.{◌≡◌, ℕ, ◌*◌, ◌<◌, ◌≤◌, length}
use Rattle.minisign_kdf.specs.Blocks.{block}
use Rattle.minisign_kdf.specs.Diagonal.{diagonal_bytes}
use Rattle.minisign_kdf.specs.Scrypt.{row_at}
use Rattle.minisign_kdf.proofs.kept_rows.fill_rows.Given as goal

abbrev pub invariant-rows : goal.invariant-rows
invariant-rows g l = record {
  len : length (g.S.RowMemory.words l.rows) ≡ 32 * l.r * l.i;
  rows : (j : ℕ) → j < l.i → diagonal_bytes (block (32 * l.r) (g.S.RowMemory.words l.rows) j)
      ≡ row_at l.r (diagonal_bytes l.fn.x) (l.k * j);
  room : g.S.RowMemory.room l.fn.rows ≤ g.S.RowMemory.room l.rows;
}
