-- Proves the goal of `read_u64v_le` that the prover leaves open.
use Rattle.std.proofs.Common.{◌*◌, ◌/◌, drop, length, take, w64, arith}
use Rattle.std.specs.Int.{from_le_bytes}
use Rattle.std.proofs.lemmas.List.FromFn.{fill_by_all}
use Rattle.minisign_hash.specs.Words.{words64_of}
use Rattle.minisign_hash.proofs.cryptoutil.read_u64v_le.Goals as goal

pub returns : goal.returns
unfolding words64_of
returns c = fill_by_all (λ i. from_le_bytes w64 (take 8 (drop (8 * i) c.args.input.now))) c.words.dst
    (length c.args.input.now / 8) 0 (omega arith) (λ k lt. c.words.invariant k (omega arith))
