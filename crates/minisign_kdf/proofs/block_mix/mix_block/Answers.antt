-- Proves the goal of `mix_block` that the prover leaves open.
use Rattle.std.proofs.Common.{rules, ◌≡◌, ◌<◌, ◌^◌, ℕ, length, slice_index, bit_xor, ap, sym, ◌∙◌, arith}
use Rattle.std.specs.Simd.Lanes.{zip2}
use Rattle.minisign_kdf.specs.Diagonal.{block_words, placed_words, standard_order}
use Rattle.minisign_kdf.specs.Salsa20.{bytes_of_words32, salsa20_8}
use Rattle.minisign_kdf.proofs.Bytes.{bytes_of_words32-xor, salsa20_8-bytes_of_words32}
use Rattle.minisign_kdf.proofs.Diagonal.{standard_order-fits, standard_order-xor}
use Rattle.minisign_kdf.proofs.Sixteen.{length_rows}
use Rattle.minisign_kdf.proofs.block_mix.mix_block.Goals as goal

pub returns : goal.returns
returns c =
    let x = c.args.x in
    let y = c.args.block in
    let z = c.xor_of.result in
    let lx : length (placed_words x) ≡ 16 = length_rows x.a x.b x.c x.d (omega arith) (omega arith)
    (omega arith) (omega arith) in
    let ly : length (placed_words y) ≡ 16 = length_rows y.a y.b y.c y.d (omega arith) (omega arith)
    (omega arith) (omega arith) in
    let fits : (i : ℕ) → slice_index (block_words z) i < 2 ^ 32 = standard_order-fits z.a z.b z.c z.d
    (search rules) (search rules) (search rules) (search rules) in
    let xored : block_words z ≡ zip2 bit_xor (block_words x) (block_words y) = ap standard_order
    c.xor_of.ensures ∙ standard_order-xor (placed_words x) (placed_words y) lx ly in
    ap bytes_of_words32 c.salsa20_8.ensures ∙ sym (salsa20_8-bytes_of_words32 (block_words z) fits)
    ∙ ap salsa20_8 (ap bytes_of_words32 xored ∙ bytes_of_words32-xor (block_words x) (block_words y))
