-- Proves the goals of `texts_are_decided` that the prover leaves open.
use Rattle.minisign.proofs.RecordFields.{one_public_key, one_signature}
use Rattle.minisign.proofs.texts.texts_are_decided.Goals as goal

pub returns-clause-public_key_bytes : goal.returns-clause-public_key_bytes
returns-clause-public_key_bytes c = one_public_key

pub returns-clause-signature_bytes : goal.returns-clause-signature_bytes
returns-clause-signature_bytes c = one_signature
