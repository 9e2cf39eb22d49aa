-- Proves the goals of `verify_read` that the prover leaves open.
use Rattle.std.proofs.Common.{◌≡◌, ◌∙◌, ◌<◌, arith, false, length, rules}
use Rattle.minisign_external.specs.Questions.{verdict_under}
use Rattle.minisign_external.specs.Signing.{joined}
use Rattle.minisign_external.specs.States.{verdict_number}
use Rattle.minisign_c.proofs.StrictVerdicts.{strict_number, failed_ask_number}
use Rattle.minisign_c.proofs.sequences.verify_read.Goals as goal

pub returns-then-number-ne0 : goal.returns-then-number-ne0
returns-then-number-ne0 g c =
    let (t, from) = c.requires.read in
    let some : 0 < c.minisign_ask-number.result = omega arith in
    failed_ask_number (g.S.Scheme.accepts c.args.scheme.now) c.args.key.now c.args.sig_text.now
    (joined c.args.pieces.now) (length c.args.room.now) t from.read
    (omega (arith, from.room, c.requires.room)) _ c.minisign_ask-number.result
    c.requires.key c.minisign_init.ensures.fed c.minisign_init.ensures.blank
    (c.minisign_ask-number.ensures.text t from (omega arith)) some

pub returns : goal.returns
returns g c =
    let (t, from) = c.requires.read in
    let none : c.minisign_ask-number.result ≡ 0 = omega arith in
    let (read, asked, has_asked) = c.minisign_ask-number.ensures.asked none t from in
    let returned : c.answer.result ≡ verdict_number (verdict_under (g.S.Scheme.accepts c.args.scheme.now)
    c.args.key.now c.args.sig_text.now (joined c.args.pieces.now) false) = search rules in
    returned ∙ strict_number (g.S.Scheme.accepts c.args.scheme.now) c.args.key.now c.args.sig_text.now
    (joined c.args.pieces.now) t read (c.minisign_ask-number.ensures.strict none t from)
