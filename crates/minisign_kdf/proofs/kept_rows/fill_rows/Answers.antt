-- Proves the goals of `fill_rows` that the prover leaves open.
use Rattle.std.proofs.Common.{◌≡◌, ℕ, List, ◌+◌, ◌-◌, ◌*◌, ◌≤◌, ◌++◌, length, sym, ap, ◌∙◌, refl, arith}
use Rattle.minisign_kdf.specs.Blocks.{block}
use Rattle.minisign_kdf.specs.Diagonal.{diagonal_bytes}
use Rattle.minisign_kdf.specs.Scrypt.{row_at}
use Rattle.minisign_kdf.proofs.Blocks.{block_end, length_end, row_before}
use Rattle.minisign_kdf.proofs.Remade.{first_kept_row, next_kept_row}
use Rattle.minisign_kdf.proofs.kept_rows.fill_rows.Goals as goal

pub rows-init : goal.rows-init
rows-init g c =
    let x : List ℕ = c.args.x.now in
    let items : (g.S.RowMemory.words c.push.new.self) ≡ x = c.push.ensures.words
    ∙ ap (λ (l : List ℕ). l ++ x) c.clear.ensures.words in
    record {
      len = omega arith;
      rows = λ j lt. first_kept_row c.args.r c.args.k j (g.S.RowMemory.words c.push.new.self) x items
          c.requires.x_len lt;
      room = omega arith;
    }

-- Row i - 1 is within the first i rows.
row_made : (r i : ℕ) → 1 ≤ i → 32 * r * (i - 1) + 32 * r ≤ 32 * r * i
row_made r i some = row_before (32 * r) i (i - 1) (omega arith)

pub overflow_mul-len-in-rows : goal.overflow_mul-len-in-rows
overflow_mul-len-in-rows g c = omega (arith, row_made c.args.r c.rows.i (omega arith))

pub offset_bounds-words-len : goal.offset_bounds-words-len
offset_bounds-words-len g c = omega (arith, row_made c.args.r c.rows.i (omega arith))

pub slice_bounds-mix_times-start : goal.slice_bounds-mix_times-start
slice_bounds-mix_times-start g c = omega (arith, row_made c.args.r c.rows.i (omega arith))

pub push-requires-in-rows : goal.push-requires-in-rows
push-requires-in-rows g c = omega (arith, row_before (32 * c.args.r) c.args.count c.rows.i (omega arith))

pub mix_times-requires-clause-from_len : goal.mix_times-requires-clause-from_len
mix_times-requires-clause-from_len g c =
    let len : length c.words.result.now ≡ 32 * c.args.r * c.rows.i = c.words.ensures.len
    ∙ c.rows.invariant.len in
    length_end (32 * c.args.r) c.rows.i _ c.words.result.now len (omega arith) refl

pub rows-preserved : goal.rows-preserved
rows-preserved g c =
    let r : ℕ = c.args.r in
    let k : ℕ = c.args.k in
    let i : ℕ = c.rows.i in
    let xs : List ℕ = g.S.RowMemory.words c.rows.rows in
    let made = c.rows.invariant in
    let seen : length c.words.result.now ≡ 32 * r * i = c.words.ensures.len ∙ made.len in
    let len : length xs ≡ 32 * r * i = ap length (sym c.words.ensures.value) ∙ seen in
    let mixed : diagonal_bytes c.mix_times.new.into ≡ row_at r (diagonal_bytes (block (32 * r) xs (i - 1)))
    k =
    c.mix_times.ensures ∙ ap (λ (l : List ℕ). row_at r (diagonal_bytes l) k)
    (block_end (32 * r) i _ _ c.words.result.now seen (omega arith) refl refl)
    ∙ ap (λ (l : List ℕ). row_at r (diagonal_bytes (block (32 * r) l (i - 1))) k) c.words.ensures.value in
    let wide : length c.mix_times.new.into ≡ 32 * r = omega arith in
    let next : 32 * r * (i + 1) ≡ 32 * r * i + 32 * r = grind arith in
    record {
      len = omega arith;
      rows = λ j lt. ap (λ (l : List ℕ). diagonal_bytes (block (32 * r) l j)) c.push-in-rows.ensures.words
          ∙ next_kept_row r k i j (diagonal_bytes c.args.x.now) xs c.mix_times.new.into made.rows len
          (omega arith) wide mixed lt;
      room = omega arith;
    }
