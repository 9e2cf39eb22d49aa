-- Maps the errors of key derivation to named errors.
use Rattle.minisign_kdf.specs.declared.errors.KdfError.{KdfError}
use Rattle.minisign_kdf.specs.declared.errors.KdfError.TheVariants.{OutOfMemory, InvalidOutputLen}
use Rattle.minisign_base.specs.Fault.{Fault, Named}
use Rattle.minisign_base.specs.declared.faults.NamedFault.TheVariants as named

abbrev pub derivation_fault : KdfError → Fault
derivation_fault OutOfMemory = Named named.OutOfMemory
derivation_fault InvalidOutputLen = Named named.InvalidOutputLength
