-- Proves the goals of `scrypt_keeping` that the prover leaves open.
use Rattle.std.proofs.Common.{length, ap, ◌∙◌, arith}
use Rattle.minisign_kdf.proofs.key_derivation.scrypt_keeping.Goals as goal

pub derive-requires-clause-room : goal.derive-requires-clause-room
derive-requires-clause-room c = omega (arith, c.in_ok-rows.ensures.capacity)

pub returns-clause-derived : goal.returns-clause-derived
returns-clause-derived c = c.derive.ensures.derived

pub returns-clause-count : goal.returns-clause-count
returns-clause-count c =
    c.rows_in.ensures _ (ap length c.deref.ensures.value ∙ rw c.r.ensures.number c.derive.ensures.words_len)

pub returns-clause-rows_fit : goal.returns-clause-rows_fit
returns-clause-rows_fit c = c.in_ok-rows.ensures.rows_fit
