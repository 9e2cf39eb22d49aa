-- Proves the goals of `SecretKey::open_in_place` that the prover leaves open.
use Rattle.std.proofs.Common.{sym, ◌∙◌}
use Rattle.minisign.proofs.Openings.{open_text, sealed_passed, sealed_text, unopened_text}
use Rattle.minisign.proofs.ReadTexts.{same_end}
use Rattle.minisign.proofs.secret_key.SecretKey.open_in_place.Goals as goal

pub returns-in-Ok-clause-opens : goal.returns-in-Ok-clause-opens
returns-in-Ok-clause-opens c = λ text read.
    let sealed = sealed_passed _ c.in-Ok.ensures in
    c.open_sealed_in_place.ensures.result
    ∙ sym (open_text _ _ _ _ (sealed_text _ _ _ read sealed))

pub returns-in-Err-clause-opens : goal.returns-in-Err-clause-opens
returns-in-Err-clause-opens c = λ text read.
    sym (unopened_text _ _ _ _ (sealed_text _ _ _ read (same_end _ _ c.in-Err.ensures)))
