-- Proves the goal of `judge_keys` that the prover leaves open.
use Rattle.std.proofs.Common.{◌∙◌, sym}
use Rattle.minisign_install.specs.Installations.{given, options_of}
use Rattle.minisign_install.proofs.SignatureFiles.{form_judged}
use Rattle.minisign_install.proofs.installation.signature.judge_keys.Goals as goal

pub returns-then-may_have_signed : goal.returns-then-may_have_signed
returns-then-may_have_signed c = λ t file view.
    form_judged (options_of c.args.chosen.now file) (given c.args.chosen.now t) t c.judge_form.result
    (sym (c.may_have_signed.ensures t view) ∙ c.if-may_have_signed.true)
    (c.judge_form.ensures t (given c.args.chosen.now t) view)
