-- Proves the goals of `read` that the prover leaves open.
use Rattle.std.proofs.Common.{◌∙◌}
use Rattle.minisign.specs.KeyTexts.{read_public_key}
use Rattle.minisign_external.proofs.Utf8.{no_text, of_text}
use Rattle.minisign_external.proofs.public_keys.read.Goals as goal

pub returns-in-Ok : goal.returns-in-Ok
returns-in-Ok c =
    let (same, utf8) = c.in-Ok.ensures.cases in
    c.read_public_key.ensures ∙ of_text read_public_key c.args.text.now c.in-Ok.text.now same utf8

pub returns-in-Err : goal.returns-in-Err
returns-in-Err c = rw c.into.ensures (no_text read_public_key c.args.text.now c.in-Err.ensures.cases.0)
