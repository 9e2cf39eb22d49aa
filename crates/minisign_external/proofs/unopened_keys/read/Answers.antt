-- Proves the goals of `read` that the prover leaves open.
use Rattle.std.proofs.Common.{◌∙◌, sym}
use Rattle.minisign.specs.KeyTexts.{read_secret_key}
use Rattle.minisign_external.proofs.Utf8.{no_text, of_text}
use Rattle.minisign_external.proofs.unopened_keys.read.Goals as goal

pub returns-in-Ok : goal.returns-in-Ok
returns-in-Ok c =
    let (same, utf8) = c.in-Ok.ensures.cases in
    sym (of_text read_secret_key c.args.sk_text.now c.in-Ok.text.now same utf8) ∙ c.read_secret_key.ensures

pub returns-in-Err : goal.returns-in-Err
returns-in-Err c = rw c.into.ensures
    (sym (no_text read_secret_key c.args.sk_text.now c.in-Err.ensures.cases.0))
