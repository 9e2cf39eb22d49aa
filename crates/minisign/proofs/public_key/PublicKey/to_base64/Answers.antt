-- Proves the goal of `PublicKey::to_base64` that the prover leaves open.
use Rattle.std.proofs.Common.{◌∙◌, sym}
use Rattle.minisign.proofs.PublicKeyTexts.{bare_is_read, written_base64}
use Rattle.minisign.proofs.public_key.PublicKey.to_base64.Goals as goal

pub returns-clause-reads_back : goal.returns-clause-reads_back
returns-clause-reads_back c =
    bare_is_read _ _ (written_base64 _ _ _ c.in_ok-text.ensures.base64
    (c.deref.ensures.value ∙ c.in_ok-bytes.ensures.bytes)
    (rw (sym c.deref.ensures.value) at c.in_ok-bytes.ensures.reads_back))
