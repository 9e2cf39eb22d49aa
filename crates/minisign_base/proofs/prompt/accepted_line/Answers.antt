-- Proves the goals of `accepted_line` that the prover leaves open.
use Rattle.std.proofs.Common.{◌≡◌, Err, string_bytes, sym, ap, ◌∙◌, arith}
use Rattle.std.proofs.lemmas.Str.{IsUtf8-string_bytes}
use Rattle.minisign_base.specs.Passwords.{accepted_line}
use Rattle.minisign_base.proofs.PromptLines.{accepted_line-long, accepted_line-other, accepted_line-text}
use Rattle.minisign_base.proofs.prompt.accepted_line.Goals as goal

pub returns-in_default : goal.returns-in_default
returns-in_default c = record {
  outcome = accepted_line-other c.args.line.items c.in_default.ensures.succeeds
      ∙ sym (ap Err c.into.ensures);
}

pub returns-then-len-gt-PASSWORD_BYTES : goal.returns-then-len-gt-PASSWORD_BYTES
returns-then-len-gt-PASSWORD_BYTES c =
    let text = c.in-Ok.password in
    let same : c.args.line.items ≡ string_bytes text = sym (ap (λ v. v.items) c.in-Ok.ensures.ok) in
    record {
      outcome = ap accepted_line same ∙ accepted_line-long (string_bytes text)
          (IsUtf8-string_bytes text) (omega arith) ∙ sym (ap Err c.into-then-len-gt-PASSWORD_BYTES.ensures);
    }

pub returns : goal.returns
returns c =
    let text = c.in-Ok.password in
    let same : c.args.line.items ≡ string_bytes text = sym (ap (λ v. v.items) c.in-Ok.ensures.ok) in
    record {
      outcome = ap accepted_line same ∙ accepted_line-text (string_bytes text)
          (IsUtf8-string_bytes text) (omega arith);
    }
