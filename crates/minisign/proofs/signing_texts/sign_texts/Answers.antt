-- Proves the goals of `sign_texts` that the prover leaves open.
use Rattle.std.proofs.Common.{Ok, subst}
use Rattle.minisign.proofs.Common.{IfOk-weaker, prompt_call}
use Rattle.minisign.proofs.Openings.{key_of_given}
use Rattle.minisign.specs.Signing.{GivesKey}
use Rattle.minisign.proofs.signing_texts.sign_texts.Goals as goal

pub returns-clause-headline : goal.returns-clause-headline
returns-clause-headline g c =
    let p = prompt_call g.P.Source g.Q.Sink c.args.prompt.now c.key_of_text.new.prompt in
    let gives =
    subst (λ given. GivesKey p given c.args.sk_text.now (Ok c.in_ok-sk.sk)) c.as_deref.ensures.value
    c.in_ok-sk.ensures.gives in
    IfOk-weaker c.sign_opened.result _ _ (λ t (message, read, (signed, headline)). (
      c.in_ok-sk.sk,
      message,
      read.known_bytes,
      key_of_given p _ _ _ gives,
      headline,
    )) c.sign_opened.ensures.signed

pub returns-clause-signed : goal.returns-clause-signed
returns-clause-signed g c =
    let gives =
    rw c.as_deref.ensures.value at c.in_ok-sk.ensures.gives in
    IfOk-weaker c.sign_opened.result _ _
    (λ t signed. (c.in_ok-sk.sk, gives, signed))
    c.sign_opened.ensures.signed
