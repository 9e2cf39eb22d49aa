-- Proves the goal of `Blake2b::take_in_buffer` that the prover leaves open.
use Rattle.std.proofs.Common.{◌≡◌, ◌+◌, ◌*◌, ◌/◌, ◌++◌, [], drop, length, take, refl, arith, sym, ◌∙◌}
use Rattle.std.proofs.lemmas.List.{append-nil, length-take-le}
use Rattle.minisign_hash.specs.Fed.{Holds}
use Rattle.minisign_hash.proofs.Feeding.{holds_after_blocks}
use Rattle.minisign_hash.proofs.blake2b.Blake2b.take_in_buffer.Goals as goal

pub returns-clause-holds : goal.returns-clause-holds
unfolding Holds
returns-clause-holds c = λ m (i, held).
    let s = c.args.self.now in
    let size : length (take s.used s.buffer) ≡ s.used = length-take-le s.used s.buffer (omega arith) in
    let ahead : drop (128 * i) m ≡ take s.used s.buffer ++ [] = sym held.rest
    ∙ sym (append-nil (take s.used s.buffer)) in (
      i + s.used / 128,
      holds_after_blocks s.outlen _ s.count _ s.buffer 0 m i s.used refl held.len c.requires held.counted refl
          (rw size at (c.after_blocks-self.ensures.whole_blocks refl refl (omega
          (arith, size, c.requires)) s.outlen
          m [] i ahead held.state held.counted)),
    )
