-- Proves that no error of the library has the number 0, which means success.
use Rattle.std.proofs.Common.{◌<◌, lit<}
use Rattle.minisign_base.specs.Fault.{Fault, Named, Custom}
use Rattle.minisign_base.specs.Faults.{fault_row}
use Rattle.minisign_base.specs.declared.faults.NamedFault.{NamedFault}
use Rattle.minisign_base.specs.declared.faults.NamedFault.TheVariants.{OutOfMemory}
use Rattle.minisign_external.specs.Numbers.{fault_number}

named_positive : (f : NamedFault) → 0 < (fault_row f).number
named_positive OutOfMemory = lit< tt
named_positive _ = lit< tt

pub positive : (e : Fault) → 0 < fault_number e
positive (Named f) = named_positive f
positive (Custom kind text) = lit< tt
