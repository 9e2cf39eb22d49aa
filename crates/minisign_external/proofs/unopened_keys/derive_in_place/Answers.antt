-- Proves the goals of `derive_in_place` that the prover leaves open.
use Rattle.std.proofs.Common.{◌≡◌, ◌∙◌, ap, sym}
use Rattle.minisign.specs.Records.{SecretKeyRecord}
use Rattle.minisign_external.specs.PublicKeys.{read_utf8}
use Rattle.minisign_external.specs.SecretKeys.{open_within, unopened_record}
use Rattle.minisign_external.proofs.Utf8.{no_text, of_text}
use Rattle.minisign_external.proofs.WithinRows.{opens_text}
use Rattle.minisign_external.proofs.unopened_keys.derive_in_place.Goals as goal

pub returns-in_default-clause-opened : goal.returns-in_default-clause-opened
returns-in_default-clause-opened c =
    rw c.into-refused.ensures
    (no_text (λ p. open_within (unopened_record c.args.unopened.now) p c.args.most_rows)
    c.args.password.now c.in_default.ensures.cases.0)

pub returns-then-not-computes_at_most-clause-opened : goal.returns-then-not-computes_at_most-clause-opened
returns-then-not-computes_at_most-clause-opened c =
    let (same, utf8) = c.in-Ok.ensures.cases in
    let held = c.in_ok-key.ensures in
    let is : c.in_ok-key.key ≡ unopened_record c.args.unopened.now = cc held in
    sym (ap (λ (k : SecretKeyRecord). read_utf8 (λ p. open_within k p c.args.most_rows) c.args.password.now)
    (sym is)
    ∙ sym (of_text (λ p. open_within c.in_ok-key.key p c.args.most_rows) c.args.password.now
    c.in-Ok.typed.now same utf8)
    ∙ c.too_many_rows_error.ensures c.in-Ok.typed.now)

pub returns-clause-opened : goal.returns-clause-opened
returns-clause-opened c =
    let (same, utf8) = c.in-Ok.ensures.cases in
    let held = c.in_ok-key.ensures in
    let is : c.in_ok-key.key ≡ unopened_record c.args.unopened.now = cc held in
    c.open_in_place.ensures.result
    ∙ opens_text c.in_ok-key.key (unopened_record c.args.unopened.now) c.as_bytes.result.now
    c.args.password.now c.times_within-times.result c.args.most_rows
    is (c.as_bytes.ensures.value ∙ same) utf8 c.times_within-times.ensures
