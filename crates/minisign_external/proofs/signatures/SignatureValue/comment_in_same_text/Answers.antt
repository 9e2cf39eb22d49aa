-- Proves the goals of `SignatureValue::comment_in_same_text` that the prover leaves open.
use Rattle.std.proofs.Common.{◌≡◌, ◌∙◌, rules, true}
use Rattle.std.specs.Prelude.{bytes_eq}
use Rattle.minisign_hash.specs.Blake2b.{blake2b_digest}
use Rattle.minisign_external.proofs.ReadValues.{is_other, is_same}
use Rattle.minisign_external.proofs.signatures.SignatureValue.comment_in_same_text.Goals as goal

pub returns-in-Ok : goal.returns-in-Ok
returns-in-Ok c =
    let (fits, part) = c.in_ok-comment.ensures in
    let (same, utf8) = c.in-Ok.ensures.cases in
    let digest : bytes_eq (blake2b_digest 32 c.args.sig_text.now) c.args.self.now.text_digest
    ≡ true = search rules in (
      is_same c.args.self.now c.args.sig_text.now c.in_ok-comment.comment.now digest fits part utf8,
      same ∙ part,
    )

pub returns-in-Err : goal.returns-in-Err
returns-in-Err c =
    let (fits, part) = c.in_ok-comment.ensures in
    is_other c.args.self.now c.args.sig_text.now c.in_ok-comment.comment.now part c.in-Err.ensures.cases.0
