-- Proves the goal of `write_record` that the prover leaves open.
use Rattle.std.proofs.Common.{◌≡◌, ◌++◌, ◌∙◌, ap, arith, length, length-append, refl}
use Rattle.std.specs.Fmt.{decimal}
use Rattle.minisign_install.specs.RecordTexts.{last_lines}
use Rattle.minisign_install.specs.Comments.{number_label}
use Rattle.minisign_install.proofs.RecordTexts.{length-last_lines}
use Rattle.minisign_install.proofs.recording.write_record.Goals as goal

pub returns-then-to-line-clause-unwritten : goal.returns-then-to-line-clause-unwritten
returns-then-to-line-clause-unwritten c = λ nothing.
    let label = ap length (c.as_bytes-label.ensures.value ∙ c.label.ensures) in
    let digits = ap length (c.as_bytes-digits.ensures.value ∙ c.format.ensures.text) in
    let key : length c.args.values.now.key ≡ 32 = omega arith in
    let digest : length c.args.values.now.digest ≡ 64 = omega arith in
    let line = number_label c.args.numbering ++ decimal c.args.number in
    let marked = last_lines c.args.values.now.key c.args.values.now.digest in (
      refl,
      omega (
        arith,
        c.if-to-line.true,
        label,
        digits,
        key,
        digest,
        length-last_lines c.args.values.now.key c.args.values.now.digest,
        length-append line marked,
        length-append (number_label c.args.numbering) (decimal c.args.number),
      ),
    )
