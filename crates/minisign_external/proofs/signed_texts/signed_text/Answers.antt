-- Proves the goal of `signed_text` that the prover leaves open.
use Rattle.std.proofs.Common.{◌≡◌, length, arith}
use Rattle.std.proofs.lemmas.Str.{IsUtf8-string_bytes}
use Rattle.minisign_external.specs.Signing.{comments_of}
use Rattle.minisign_external.proofs.BoxesOfSignatures.{answered_text}
use Rattle.minisign_external.proofs.signed_texts.signed_text.Goals as goal

pub returns-clause-text : goal.returns-clause-text
returns-clause-text c =
    let long : length c.args.second.now ≡ 64 = omega arith in
    answered_text c.args.key_id.now (comments_of c.args.trusted.now c.args.untrusted.now) c.args.first.now
    c.args.second.now _ long
    (IsUtf8-string_bytes c.in_ok-written.field-0) c.in_ok-written.ensures.text
    (c.in_ok-written.ensures.reads_back c.in_ok-check_comments.ensures.0)
