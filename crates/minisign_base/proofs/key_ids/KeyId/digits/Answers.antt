-- Proves the goal of `KeyId::digits` that the prover leaves open.
use Rattle.std.proofs.Common.{rules}
use Rattle.minisign_base.proofs.Digits.{key_id_by_digits}
use Rattle.minisign_base.proofs.key_ids.KeyId.digits.Goals as goal

pub returns : goal.returns
returns c = search (rules, key_id_by_digits)
