-- Proves the goals of `mix_parts` that the prover leaves open.
use Rattle.std.proofs.Common.{◌≡◌, ℕ, ◌+◌, ◌-◌, ◌*◌, ◌/◌, ◌^◌, ◌<◌, ◌≤◌, List, length, take, drop, ap, ◌∙◌}
use Rattle.std.proofs.Common.{arith, length-drop}
use Rattle.std.proofs.lemmas.List.{length-take-le}
use Rattle.std.specs.Int.{div_ceil}
use Rattle.minisign_kdf.specs.Scrypt.{rom_mix}
use Rattle.minisign_kdf.proofs.Blocks.{row_before}
use Rattle.minisign_kdf.proofs.Parts.{changed_all, changed_next, changed_none}
use Rattle.minisign_kdf.proofs.key_derivation.mix_parts.Goals as goal

pub parts-init : goal.parts-init
parts-init g c = (changed_none _ _ _, omega arith, λ some. absurd (omega arith))

-- The slice for part i of a list of p parts has the length of a part.
part_size : (len i p : ℕ) (parts : List ℕ) → length parts ≡ len * p → i < p
    → length (take (len * i + len - len * i) (drop (len * i) parts)) ≡ len
part_size len i p parts whole lt =
    length-take-le (len * i + len - len * i) (drop (len * i) parts)
    (omega (arith, row_before len p i lt, length-drop (len * i) parts)) ∙ omega arith

pub overflow_mul-at : goal.overflow_mul-at
overflow_mul-at g c = omega (arith, row_before (128 * c.args.r) c.args.p c.parts.i (omega arith))

pub overflow_add-at : goal.overflow_add-at
overflow_add-at g c = omega (arith, row_before (128 * c.args.r) c.args.p c.parts.i (omega arith))

pub slice_bounds-rom_mix-end : goal.slice_bounds-rom_mix-end
slice_bounds-rom_mix-end g c = omega (arith, row_before (128 * c.args.r) c.args.p c.parts.i (omega arith))

pub rom_mix-requires-clause-some : goal.rom_mix-requires-clause-some
rom_mix-requires-clause-some g c = omega
    (arith, part_size (128 * c.args.r) c.parts.i c.args.p c.parts.parts (omega arith) (omega arith))

pub rom_mix-requires-clause-whole : goal.rom_mix-requires-clause-whole
rom_mix-requires-clause-whole g c = omega
    (arith, part_size (128 * c.args.r) c.parts.i c.args.p c.parts.parts (omega arith) (omega arith))

pub rom_mix-requires-clause-work_len : goal.rom_mix-requires-clause-work_len
rom_mix-requires-clause-work_len g c = omega
    (arith, part_size (128 * c.args.r) c.parts.i c.args.p c.parts.parts (omega arith) (omega arith))

pub rom_mix-requires-clause-room : goal.rom_mix-requires-clause-room
rom_mix-requires-clause-room g c =
    let len : ℕ = 128 * c.args.r in
    let size : length (take (len * c.parts.i + len - len * c.parts.i) (drop (len * c.parts.i) c.parts.parts))
    / 128 ≡ c.args.r =
    omega (arith, part_size len c.parts.i c.args.p c.parts.parts (omega arith) (omega arith)) in
    rw size (omega arith)

pub parts-preserved : goal.parts-preserved
parts-preserved g c =
    let r : ℕ = c.args.r in
    let n : ℕ = 2 ^ c.args.n_log2 in
    let len : ℕ = 128 * r in
    let i : ℕ = c.parts.i in
    let width : len * i + len - len * i ≡ len = omega arith in
    let room : len * i + len ≤ len * c.args.p = row_before len c.args.p i (omega arith) in
    let this : List ℕ = take (len * i + len - len * i) (drop (len * i) c.parts.parts) in
    let size : length this ≡ len = part_size len i c.args.p c.parts.parts (omega arith) (omega arith) in
    let block_size : length this / 128 ≡ r = omega arith in
    let (changed, _, _) = c.parts.invariant in (
      changed_next (rom_mix r n) len i (len * i + len - len * i) c.args.parts.now c.parts.parts
          c.rom_mix.new.part changed width (omega arith)
          (c.rom_mix.auto.part ∙ size)
          (c.rom_mix.ensures.mixed ∙ ap (λ (m : ℕ). rom_mix m n this) block_size),
      omega arith,
      λ _. c.rom_mix.ensures.words_len ∙ ap (λ (m : ℕ). 32 * m * div_ceil n c.args.k) block_size,
    )

pub returns-clause-words_len : goal.returns-clause-words_len
returns-clause-words_len g c = c.parts.invariant.2 (omega arith)

pub returns-clause-mixed : goal.returns-clause-mixed
returns-clause-mixed g c = changed_all (rom_mix c.args.r (2 ^ c.args.n_log2)) (128 * c.args.r) c.parts.i
    c.args.p c.args.parts.now c.parts.parts c.parts.invariant.0 (omega arith) (omega arith)
