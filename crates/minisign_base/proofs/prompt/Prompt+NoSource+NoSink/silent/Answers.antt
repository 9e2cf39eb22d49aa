-- Proves the goal of `Prompt::silent` that the prover leaves open.
use Rattle.std.proofs.Common.{◌≡◌, Err, refl, subst}
use Rattle.minisign_base.specs.Fault.{Named}
use Rattle.minisign_base.specs.declared.faults.NamedFault.TheVariants.{EndOfInput}
use Rattle.minisign_base.specs.Passwords.{password_of}
use Rattle.minisign_base.proofs.prompt.Prompt+NoSource+NoSink.silent.Goals as goal

pub returns : goal.returns
unfolding password_of
returns c = λ old new bytes read. subst (λ b. password_of b ≡ Err (Named EndOfInput)) read.ahead refl
