-- Proves the goals of `judge_record` that the prover leaves open.
use Rattle.std.proofs.Common.{◌∙◌, ap, sym}
use Rattle.minisign_install.specs.Decisions.{judge_version}
use Rattle.minisign_install.specs.Installations.{options_of}
use Rattle.minisign_install.proofs.installation.recorded.judge_record.Goals as goal

pub returns-in-Some : goal.returns-in-Some
returns-in-Some c = λ file.
    ap (judge_version (options_of c.args.chosen.now file) c.args.bytes.now)
    (sym (rw c.numbering.ensures at c.in-Some.ensures)) ∙ c.used_record.ensures file

pub returns-in-None : goal.returns-in-None
returns-in-None c = λ file.
    ap (judge_version (options_of c.args.chosen.now file) c.args.bytes.now)
    (sym (rw c.numbering.ensures at c.in-None.ensures)) ∙ c.judge_unnumbered.ensures file
