-- Proves the goals of `read_bare_public_key` that the prover leaves open.
use Rattle.std.proofs.Common.{length, ap, sym, ◌∙◌}
use Rattle.minisign.proofs.PublicKeyTexts.{bare_length, other_bare_length}
use Rattle.minisign.proofs.in_place.read_bare_public_key.Goals as goal

pub returns-then-trim-ne-ENCODED_BYTES : goal.returns-then-trim-ne-ENCODED_BYTES
returns-then-trim-ne-ENCODED_BYTES c =
    let differs = rw c.trim.ensures.trim at c.if-trim-ne-ENCODED_BYTES.true in
    rw c.into.ensures (sym (other_bare_length _ differs))

pub returns : goal.returns
returns c =
    c.decode_key.ensures ∙ sym
    (bare_length _ (ap length (sym c.trim.ensures.trim) ∙ c.if-trim-ne-ENCODED_BYTES.false))
