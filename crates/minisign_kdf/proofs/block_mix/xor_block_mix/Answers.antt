-- Proves the goals of `xor_block_mix` that the prover leaves open.
use Rattle.std.proofs.Common.{◌≡◌, ℕ, List, ◌+◌, ◌-◌, ◌*◌, length, bit_xor, refl, sym, ap, ◌∙◌, arith}
use Rattle.std.specs.Simd.Lanes.{zip2}
use Rattle.std.proofs.lemmas.Simd.{length-zip2}
use Rattle.minisign_kdf.specs.Diagonal.{block_words, diagonal_bytes}
use Rattle.minisign_kdf.specs.Salsa20.{bytes_of_words32}
use Rattle.minisign_kdf.specs.Scrypt.{mixed_block}
use Rattle.minisign_kdf.proofs.Joined.{joined_lists_none}
use Rattle.minisign_kdf.proofs.Mixing.{previous_block, previous_block_next, previous_block_first, mixed_next}
use Rattle.minisign_kdf.proofs.Mixing.{written_all}
use Rattle.minisign_kdf.proofs.Mixing.{written_next, xored_block}
use Rattle.minisign_kdf.proofs.Ordered.{diagonal_bytes-none}
use Rattle.minisign_kdf.proofs.block_mix.xor_block_mix.Goals as goal

pub pairs-init : goal.pairs-init
pairs-init c =
    let from : List ℕ = c.args.from.now in
    let row : List ℕ = c.args.row.now in
    let len : length (zip2 bit_xor from row) ≡ 32 * c.args.r = length-zip2 bit_xor from row (omega arith)
    ∙ c.requires.from_len in (
      previous_block_first c.args.r (zip2 bit_xor from row) _ 16
          (32 * c.args.r - 16) len c.requires.r_positive refl refl
          (xored_block from row _ (32 * c.args.r - 16) _ _ (omega arith) (omega arith)
          (omega arith) c.load_xored-x.ensures),
      diagonal_bytes-none ∙ sym (joined_lists_none _),
      diagonal_bytes-none ∙ sym (joined_lists_none _),
    )

pub pairs-preserved : goal.pairs-preserved
pairs-preserved c =
    let r = c.args.r in
    let from : List ℕ = c.args.from.now in
    let row : List ℕ = c.args.row.now in
    let same : length from ≡ length row = omega arith in
    let xs : List ℕ = zip2 bit_xor from row in
    let len : length xs ≡ 32 * r = length-zip2 bit_xor from row same ∙ c.requires.from_len in
    let b : List ℕ = diagonal_bytes xs in
    let i = c.pairs.i in
    let (at, even, odd) = c.pairs.invariant in
    let first : bytes_of_words32 (block_words c.mix_block-x.result) ≡ mixed_block r b (2 * i) =
    mixed_next r xs (bytes_of_words32 (block_words c.pairs.x))
    (bytes_of_words32 (block_words c.mix_block-x.result)) _ (2 * i) 16 (32 * i) len (omega arith) at refl
    (omega arith)
    (xored_block from row _ (32 * i) _ _ same (omega arith) (omega arith) c.load_xored.ensures)
    c.mix_block-x.ensures in
    let second : bytes_of_words32 (block_words c.mix_block-x-in-pairs.result) ≡ mixed_block r b (2 * i + 1) =
    mixed_next r xs (bytes_of_words32 (block_words c.mix_block-x.result))
    (bytes_of_words32 (block_words c.mix_block-x-in-pairs.result)) _ (2 * i + 1) 16 (32 * i + 16) len
    (omega arith) (first ∙ sym (previous_block_next r b (2 * i))) refl (omega arith)
    (xored_block from row _ (32 * i + 16) _ _ same (omega arith) (omega arith) c.load_xored-in-pairs.ensures)
    c.mix_block-x-in-pairs.ensures in
    let e : 2 * (i + 1) ≡ 2 * i + 1 + 1 = omega arith in (
      second ∙ sym (previous_block_next r b (2 * i + 1)) ∙ ap (previous_block r b) (sym e),
      written_next (λ (j : ℕ). mixed_block r b (2 * j)) i _ c.pairs.even _ _ even c.store.ensures first
          (omega arith) (omega arith),
      written_next (λ (j : ℕ). mixed_block r b (2 * j + 1)) i _ c.pairs.odd _ _ odd c.store-in-pairs.ensures
          second (omega arith) (omega arith),
    )

pub returns : goal.returns
returns c =
    let (at, even, odd) = c.pairs.invariant in
    written_all c.args.r c.pairs.i (diagonal_bytes (zip2 bit_xor c.args.from.now c.args.row.now)) c.pairs.even
    c.pairs.odd (omega arith) (omega arith) (omega arith) even odd
