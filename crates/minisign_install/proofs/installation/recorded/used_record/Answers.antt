-- Proves the goals of `used_record` that the prover leaves open.
use Rattle.std.proofs.Common.{◌∙◌, refl, sym}
use Rattle.minisign_install.proofs.installation.recorded.used_record.Goals as goal

pub returns-then-is_ignored : goal.returns-then-is_ignored
returns-then-is_ignored c = λ file.
    rw (sym (c.is_ignored.ensures file) ∙ c.if-is_ignored.true, c.nothing.ensures) refl

pub returns-else-is_ignored : goal.returns-else-is_ignored
returns-else-is_ignored c = λ file.
    rw (sym (c.is_ignored.ensures file) ∙ c.if-is_ignored.false, c.of.ensures) refl
