-- Proves the goal of `minisign_open_sealed_key_in_place` that the prover leaves open.
use Rattle.std.proofs.Common.{length}
use Rattle.minisign_external.specs.SecretKeys.{opened_in_place}
use Rattle.minisign_c.proofs.OpeningErrors.{opening_refusal}
use Rattle.minisign_c.proofs.minisign_open_sealed_key_in_place.Goals as goal

pub returns-in-Err-clause-opened : goal.returns-in-Err-clause-opened
returns-in-Err-clause-opened c = opening_refusal
    (opened_in_place c.args.unopened.now c.args.password.now c.args.keep_every c.args.most_rows
    (length c.args.words.now) (length c.args.bytes.now))
    c.in-Err.error c.args.key.now c.open_sealed_key_in_place.new.value c.number.result c.number.ensures
    c.in-Err.ensures.opened
