-- Proves the goal of `Blake2b::last_state` that the prover leaves open.
use Rattle.std.proofs.Common.{◌≡◌, ◌+◌, ◌*◌, ◌%◌, ◌^◌, ◌<◌, ◌++◌, List, ℕ, refl, drop, length, length-append}
use Rattle.std.proofs.Common.{take, arith, sym, ap, ◌∙◌}
use Rattle.std.proofs.lemmas.List.{length-take-le}
use Rattle.minisign_hash.specs.Words.{bytes_of_words64}
use Rattle.minisign_hash.specs.Fed.{Holds, IsFed}
use Rattle.minisign_hash.proofs.Feeding.{last_block_gives_digest}
use Rattle.minisign_hash.proofs.blake2b.Blake2b.last_state.Goals as goal

pub returns : goal.returns
unfolding Holds IsFed
returns c = λ m ((i, held), lazy).
    let s = c.args.self.now in
    let blocks : List ℕ = c.split_last_block.result.0.now in
    let last : List ℕ = c.split_last_block.result.1.now in
    let parts : take s.used s.buffer ≡ blocks ++ last = c.split_last_block.ensures.bytes in
    let size : length (take s.used s.buffer) ≡ s.used = length-take-le s.used s.buffer (omega arith) in
    let ahead : drop (128 * i) m ≡ blocks ++ last = sym held.rest ∙ parts in
    let joined : length (blocks ++ last) ≡ s.used = sym (ap length parts) ∙ size in
    let some : (0 < length m → 0 < length last) = λ any. c.split_last_block.ensures.some
    (rw size (lazy any)) in
    let whole = c.split_last_block.ensures.whole in
    let counted : ((s.count + length blocks) % 2 ^ 128 + length last) % 2 ^ 128 ≡ length m % 2 ^ 128 =
    omega (arith, held.len, held.counted, joined, length-append blocks last) in
    let before = c.after_blocks-h.ensures.whole_blocks refl refl whole s.outlen m last i ahead held.state
    held.counted in
    ap (λ (h : List ℕ). take s.outlen (bytes_of_words64 h))
    (rw c.padded.ensures at (c.after_blocks.ensures.single_block (omega arith)))
    ∙ last_block_gives_digest s.outlen _ m blocks last i _ ahead
    (rw joined held.len) whole c.split_last_block.ensures.fits
    some before counted
