-- Proves the goal of `compress` that the prover leaves open.
use Rattle.std.proofs.Common.{◌≡◌, ◌+◌, ℕ, List, ap, bit_xor, map, refl, slice_index}
use Rattle.std.specs.List.{range_with_len}
use Rattle.minisign_hash.specs.Blake2b.{compress, rounds, work_vector}
use Rattle.minisign_hash.specs.Words.{words64_of}
use Rattle.minisign_hash.proofs.blake2b.compress.Goals as goal

pub returns : goal.returns
unfolding compress
returns c =
    let h : List ℕ = c.args.h in
    let all : c.twelve_rounds-v.result ≡ rounds (work_vector h c.args.count c.args.last)
    (words64_of c.args.block.now) 12 =
    rw (c.twelve_rounds-v.ensures, c.work_vector.ensures, c.read_words-words.ensures) refl in
    ap (λ (v : List ℕ). map (λ (i : ℕ). bit_xor (bit_xor (slice_index h i) (slice_index v i))
    (slice_index v (i + 8))) (range_with_len 0 8)) all
