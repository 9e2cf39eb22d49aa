-- Proves the goals of `ask_once` that the prover leaves open.
use Rattle.std.proofs.Common.{◌∙◌, ap, length, sym}
use Rattle.minisign_external.specs.StrictCalls.{asked_strictly, is_strict_text, is_strict_value}
use Rattle.minisign_lists.proofs.AskedLists.{asks, asks_under, room_is_enough}
use Rattle.minisign_lists.proofs.values.ask_once.Goals as goal

pub returns-clause-value : goal.returns-clause-value
returns-clause-value c =
    let a = c.args in
    c.ask_strictly.ensures.value
    ∙ ap (asked_strictly (is_strict_value a.key.now a.signature.now))
    (asks _ c.new-state.ensures.fed c.new-state.ensures.blank a.key.now a.signature.now a.sig_text.now
    (length a.message.now))

pub returns-clause-text : goal.returns-clause-text
returns-clause-text c = λ t from.
    let a = c.args in
    c.ask_strictly.ensures.text t from
    ∙ ap (asked_strictly (is_strict_text a.key.now t))
    (asks_under _ c.new-state.ensures.fed c.new-state.ensures.blank a.key.now a.sig_text.now
    (length a.message.now))

pub returns-clause-room : goal.returns-clause-room
returns-clause-room c = λ is.
    let a = c.args in
    room_is_enough (is_strict_value a.key.now a.signature.now) a.key.now a.signature.now a.sig_text.now
    (length a.message.now)
    (sym (ap (asked_strictly (is_strict_value a.key.now a.signature.now))
    (asks _ c.new-state.ensures.fed c.new-state.ensures.blank a.key.now a.signature.now a.sig_text.now
    (length a.message.now))) ∙ sym c.ask_strictly.ensures.value ∙ is)
