-- Proves the goals of `derive` that the prover leaves open.
use Rattle.std.proofs.Common.{◌≡◌, ◌∙◌, inl}
use Rattle.minisign_external.specs.SecretKeys.{open_within, unopened_record}
use Rattle.minisign_external.proofs.Utf8.{no_text}
use Rattle.minisign_external.proofs.WithinRows.{opens_or_none}
use Rattle.minisign_external.proofs.unopened_keys.derive.Goals as goal

pub returns-in_default : goal.returns-in_default
returns-in_default c =
    inl (rw c.into-fault.ensures
    (no_text (λ p. open_within (unopened_record c.args.unopened.now) p c.args.most_rows)
    c.args.password.now c.in_default.ensures.cases.0))

pub returns : goal.returns
returns c =
    let (same, utf8) = c.in-Ok.ensures.cases in
    let held = c.in_ok-key.ensures in
    let is : c.in_ok-key.key ≡ unopened_record c.args.unopened.now = cc held in
    opens_or_none c.in_ok-key.key (unopened_record c.args.unopened.now) c.as_bytes.result.now
    c.args.password.now c.times_within-times.result c.args.most_rows
    c.open_keeping_within.result is (c.as_bytes.ensures.value ∙ same) utf8 c.times_within-times.ensures
    c.open_keeping_within.ensures
