-- Proves the goal of `Block::store` that the prover leaves open.
use Rattle.std.proofs.Common.{◌++◌, sym, ◌∙◌, append_assoc, arith}
use Rattle.std.proofs.lemmas.Simd.{put_chunk_whole}
use Rattle.minisign_kdf.proofs.salsa.Block.store.Goals as goal

pub returns : goal.returns
returns c =
    let x = c.args.self in
    let a = put_chunk_whole c.split_at_mut-a.result.0.now x.a (omega arith) in
    let b = put_chunk_whole c.split_at_mut-a.result.1.now x.b (omega arith) in
    let c' = put_chunk_whole c.split_at_mut-c.result.0.now x.c (omega arith) in
    let d = put_chunk_whole c.split_at_mut-c.result.1.now x.d (omega arith) in
    (λ t. (a t ++ b t) ++ (c' t ++ d t)) ∙ sym (append_assoc (x.a ++ x.b) x.c x.d)
