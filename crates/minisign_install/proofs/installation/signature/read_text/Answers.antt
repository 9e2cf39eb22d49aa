-- Proves the goals of `read_text` that the prover leaves open.
use Rattle.std.proofs.Common.{◌∙◌}
use Rattle.minisign_install.proofs.SignatureFiles.{no_text_read, same_as_bytes}
use Rattle.minisign_install.proofs.installation.signature.read_text.Goals as goal

pub returns-in-Ok : goal.returns-in-Ok
returns-in-Ok c =
    let (same, utf8) = c.in-Ok.ensures.cases in
    c.read_signature.ensures.view ∙ same_as_bytes c.in-Ok.text.now c.args.sig_text.now same utf8

pub returns-in-Err : goal.returns-in-Err
returns-in-Err c = rw c.not_utf8.ensures (no_text_read c.args.sig_text.now c.in-Err.ensures.cases.0)
