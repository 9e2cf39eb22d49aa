-- Proves the goals of `SecretKey::open_asking` that the prover leaves open.
use Rattle.std.proofs.Common.{Ok, Err, string_bytes, sym, subst}
use Rattle.minisign.proofs.Common.{prompt_call, second_ended, stopped_first, typed_is, ConversationEnds}
use Rattle.minisign.proofs.Common.{asking_steps, typed_password}
use Rattle.minisign.proofs.ErrorsAndPrefixes.{passed_up, on_fault, on_value}
use Rattle.minisign.specs.Sealing.{decrypting_steps, asking_text}
use Rattle.minisign.proofs.secret_key.SecretKey.open_asking.Goals as goal

pub returns-in_err-password-clause-refused : goal.returns-in_err-password-clause-refused
returns-in_err-password-clause-refused g c =
    let (bytes, stopped) = c.in_err-password.ensures.refused in
    passed_up _ _ _ c.from_residual.ensures.1 (
      bytes,
      stopped_first (prompt_call g.R.Source g.W.Sink c.args.prompt.now c.ask_password.new.prompt)
          (asking_steps asking_text bytes)
          (decrypting_steps c.args.self (typed_password bytes) c.args.derivation.bound) _ stopped,
    )

pub returns-clause-opened : goal.returns-clause-opened
returns-clause-opened g c =
    let (bytes, answered, asked) = c.in_ok-password.ensures.asked in
    let opened = rw c.as_bytes.ensures.value at c.open_with_reports.ensures.opened in
    let ended = rw c.as_bytes.ensures.value at c.open_with_reports.ensures.conversation_ends in
    let p = prompt_call g.R.Source g.W.Sink c.args.prompt.now c.open_with_reports.new.prompt in
    let telling = decrypting_steps c.args.self (string_bytes c.in_ok-password.password)
    c.args.derivation.bound in
    on_value c.open_with_reports.result _
    (ConversationEnds (record p { old = c.ask_password.new.prompt }) telling) _ opened ended
    (λ v opens said. (
      bytes,
      string_bytes c.in_ok-password.password,
      answered,
      opens,
      second_ended p c.ask_password.new.prompt (asking_steps asking_text bytes)
          (decrypting_steps c.args.self (typed_password bytes) c.args.derivation.bound) (Ok tt) asked
          (subst (λ password. ConversationEnds (record p { old = c.ask_password.new.prompt })
          (decrypting_steps c.args.self password c.args.derivation.bound) (Ok tt))
          (sym (typed_is bytes _ answered)) said),
    ))

pub returns-clause-refused : goal.returns-clause-refused
returns-clause-refused g c =
    let (bytes, answered, asked) = c.in_ok-password.ensures.asked in
    let ended = rw c.as_bytes.ensures.value at c.open_with_reports.ensures.conversation_ends in
    let p = prompt_call g.R.Source g.W.Sink c.args.prompt.now c.open_with_reports.new.prompt in
    let telling = decrypting_steps c.args.self (string_bytes c.in_ok-password.password)
    c.args.derivation.bound in
    on_fault c.open_with_reports.result
    (ConversationEnds (record p { old = c.ask_password.new.prompt }) telling) _ ended (λ e stopped. (
      bytes,
      second_ended p c.ask_password.new.prompt (asking_steps asking_text bytes)
          (decrypting_steps c.args.self (typed_password bytes) c.args.derivation.bound) (Err e) asked
          (subst (λ password. ConversationEnds (record p { old = c.ask_password.new.prompt })
          (decrypting_steps c.args.self password c.args.derivation.bound) (Err e))
          (sym (typed_is bytes _ answered)) stopped),
    ))
