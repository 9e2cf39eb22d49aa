-- Proves the goal of `Progress::keep_signature` that the prover leaves open.
use Rattle.std.proofs.Common.{◌∙◌, ap, bytes_eq, subst}
use Rattle.minisign_install.specs.Installations.{IsReadAs, options_of}
use Rattle.minisign_install.proofs.SignatureFiles.{same_file, with_signature}
use Rattle.minisign_install.proofs.installation.progress.Progress.keep_signature.Goals as goal

pub returns : goal.returns
returns c = λ s t state_held file view whole.
    c.go.ensures _
    (with_signature c.args.self.now s t c.args.second.now c.of-self.result c.version-recorded.result
    c.args.time _ _ state_held c.version-recorded.ensures
    (subst (λ f.
    IsReadAs c.of-self.result
    (options_of c.args.self.now.chosen f) t c.args.second.now c.version-recorded.result
    c.args.time) (same_file c.args.self.now s state_held c.args.file.now file)
    (c.of-self.ensures t view)) whole
    (c.flag-self.ensures ∙ c.has_key_id.ensures
    ∙ ap (λ v. bytes_eq v.signature.keynum c.args.self.now.chosen.key.key_id) view)
    (c.flag-self-2.ensures ∙ c.has_key_id-2.ensures
    ∙ ap (λ v. bytes_eq v.signature.keynum c.args.self.now.chosen.other.key_id) view))
