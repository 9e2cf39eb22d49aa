-- Proves the goals of `open_asking` that the prover leaves open.
use Rattle.std.proofs.Common.{refl}
use Rattle.minisign_examples.proofs.AskedAgain.{answered, asked_again, last_time}
use Rattle.minisign_examples.proofs.asking.+open_asking.Goals as goal

pub returns-then-more-eq0 : goal.returns-then-more-eq0
returns-then-more-eq0 g t c = last_time _ _ _ _ _ _ _ c.if-more-eq0.true c.open_once.ensures

pub returns-then-not-is_password_wrong : goal.returns-then-not-is_password_wrong
returns-then-not-is_password_wrong g t c = answered _ _ _ _ _ _ _ c.open_once-opened.ensures
    (c.if-not-is_password_wrong.ensures.other refl)

pub returns : goal.returns
returns g t c =
    asked_again _ _ _ _ _ _ _ _ _ c.if-more-eq0.false c.open_once-opened.ensures
    (c.if-not-is_password_wrong.ensures.wrong refl) c.open_asking.ensures
