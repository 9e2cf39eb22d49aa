-- Proves the goal of `Blake2b::take_in` that the prover leaves open.
use Rattle.std.proofs.Common.{◌≡◌, ◌+◌, ◌*◌, ◌/◌, ◌++◌, ℕ, List, [], drop, length, refl, arith, sym, ◌∙◌}
use Rattle.std.proofs.Common.{length-append}
use Rattle.std.proofs.lemmas.List.{append-nil, drop_at}
use Rattle.minisign_hash.specs.Fed.{Holds}
use Rattle.minisign_hash.proofs.Feeding.{holds_after_blocks, state_after-append}
use Rattle.minisign_hash.proofs.blake2b.Blake2b.take_in.Goals as goal

pub returns-clause-holds : goal.returns-clause-holds
unfolding Holds
returns-clause-holds c = λ m (i, held).
    let s = c.args.self.now in
    let blocks : List ℕ = c.args.blocks.now in
    let len : length m ≡ 128 * i = omega (arith, held.len) in
    let ahead : drop (128 * i) (m ++ blocks) ≡ blocks ++ [] = drop_at m blocks (128 * i) len
    ∙ sym (append-nil blocks) in
    let before = held.state ∙ sym (state_after-append s.outlen m blocks i (omega (arith, len))) in (
      i + length blocks / 128,
      holds_after_blocks s.outlen _ s.count _ s.buffer s.used (m ++ blocks) i (length blocks) c.requires.empty
          (omega (arith, len, length-append m blocks)) c.requires.whole held.counted refl
          (c.after_blocks-self.ensures.whole_blocks refl refl c.requires.whole s.outlen
          (m ++ blocks) [] i ahead
          before held.counted),
    )
