-- Proves the goals of `utf8` that the prover leaves open.
use Rattle.std.specs.Str.{is_utf8}
use Rattle.std.proofs.Common.{ap, Ok, refl}
use Rattle.std.proofs.lemmas.Str.{IsUtf8-from_is_utf8, is_utf8-from_IsUtf8}
use Rattle.minisign_external.proofs.Laws.{not_true}
use Rattle.minisign_lists.proofs.values.utf8.Goals as goal

pub returns-in-Ok : goal.returns-in-Ok
returns-in-Ok c =
    let (same, utf8) = c.in-Ok.ensures.cases in
    rw (is_utf8-from_IsUtf8 c.args.text.now utf8) (ap Ok same)

pub returns-in-Err : goal.returns-in-Err
returns-in-Err c =
    let text = c.args.text.now in
    let other = not_true (is_utf8 text) (λ is. c.in-Err.ensures.cases.0 (IsUtf8-from_is_utf8 text is)) in
    rw (c.from.ensures, other) refl
