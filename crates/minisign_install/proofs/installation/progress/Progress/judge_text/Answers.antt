-- Proves the goals of `Progress::judge_text` that the prover leaves open.
use Rattle.std.proofs.Common.{◌∙◌, Err, ap, subst, sym}
use Rattle.std.specs.Str.{is_utf8}
use Rattle.std.proofs.lemmas.Str.{is_utf8-from_IsUtf8}
use Rattle.minisign_install.specs.Installations.{SignatureLeads}
use Rattle.minisign_install.proofs.HeldStates.{options_are}
use Rattle.minisign_install.proofs.SignatureFiles.{bad_name_result, not_utf8, parsed_result, parsing_failed}
use Rattle.minisign_install.proofs.SignatureFiles.{reads_view, unparsed_result}
use Rattle.minisign_install.proofs.SignatureFiles.{refused}
use Rattle.minisign_install.proofs.installation.progress.Progress.judge_text.Goals as goal

pub returns-in-Ok-read_text-clause-next_state : goal.returns-in-Ok-read_text-clause-next_state
returns-in-Ok-read_text-clause-next_state c = λ s state_held file.
    let (same, utf8) = c.in-Ok.ensures.cases in
    let (t, read, view) = reads_view c.args.sig_text.now _ c.in-Ok-read_text.ensures in
    subst (λ j.
    SignatureLeads j c.args.time s c.judge_view.result c.judge_view.new.self c.args.message.now
    c.judge_view.new.message)
    (sym
    (parsed_result s c.args.sig_text.now t c.args.self.now.chosen state_held.file
    (options_are c.args.self.now s state_held)
    (ap is_utf8 file ∙ is_utf8-from_IsUtf8 c.args.file.now utf8) read))
    (c.judge_view.ensures.next_state s t state_held (file ∙ sym same) view)

pub returns-in-Err-read_text-clause-next_state : goal.returns-in-Err-read_text-clause-next_state
returns-in-Err-read_text-clause-next_state c = λ s state_held file.
    let (same, utf8) = c.in-Ok.ensures.cases in
    subst (λ j.
    SignatureLeads j c.args.time s c.refuse.result c.refuse.new.self c.args.message.now c.args.message.now)
    (sym (unparsed_result s c.args.sig_text.now _ (ap is_utf8 file ∙ is_utf8-from_IsUtf8 c.args.file.now utf8)
    (parsing_failed _ _ c.in-Err-read_text.ensures)))
    (refused _ _ s _ _ _
    (c.refuse.ensures.next_state s state_held) c.refuse.ensures.is_zero c.refuse.ensures.refused)

pub returns-in-Err-clause-next_state : goal.returns-in-Err-clause-next_state
returns-in-Err-clause-next_state c = λ s state_held file.
    subst (λ j.
    SignatureLeads j c.args.time s c.refuse-in-Err.result c.refuse-in-Err.new.self c.args.message.now
    c.args.message.now)
    (sym (bad_name_result s c.args.sig_text.now
    (ap is_utf8 file ∙ not_utf8 c.args.file.now c.in-Err.ensures.cases.0)
    ∙ ap (λ e. Err e) (sym c.into.ensures)))
    (refused _ _ s _ _ _ (c.refuse-in-Err.ensures.next_state s state_held) c.refuse-in-Err.ensures.is_zero
    c.refuse-in-Err.ensures.refused)
