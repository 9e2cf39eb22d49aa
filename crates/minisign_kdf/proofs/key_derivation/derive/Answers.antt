-- Proves the goals of `derive` that the prover leaves open.
use Rattle.std.proofs.Common.{◌*◌, ◌<◌, sym, ◌∙◌, arith}
use Rattle.minisign_kdf.proofs.Derivation.{scrypt_is}
use Rattle.minisign_kdf.proofs.ParamsFacts.{n_log2_small}
use Rattle.minisign_kdf.proofs.key_derivation.derive.Goals as goal

pub mix_parts-requires-clause-cost : goal.mix_parts-requires-clause-cost
mix_parts-requires-clause-cost g c =
    let p = c.args.params.now in
    let small : p.n_log2 < 64 = n_log2_small p c.r-r.ensures.accepted in
    omega arith

pub returns-clause-derived : goal.returns-clause-derived
returns-clause-derived g c =
    let p = c.args.params.now in
    scrypt_is c.args.password.now c.args.salt.now p.n_log2 p.r p.p _ _ _ _ _ c.pbkdf2_once.new.out
    c.mix_parts.new.parts c.pbkdf2_once-2.new.out
    c.n_log2.ensures.number c.r-r.ensures.number c.p-p.ensures.number
    (c.requires.parts_len ∙ (λ t. 128 * sym c.r-r.ensures.number t * sym c.p-p.ensures.number t))
    c.pbkdf2_once.ensures c.mix_parts.ensures.mixed c.pbkdf2_once-2.ensures
