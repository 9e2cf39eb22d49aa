-- Maps the errors of decoding base64 to named errors, namely those for the second line of a secret
-- key.
use Rattle.base64.specs.declared.decode.DecodeAllocError.{DecodeAllocError}
use Rattle.base64.specs.declared.decode.DecodeAllocError.TheVariants.{DecodeError, OutOfMemory}
use Rattle.minisign_base.specs.Fault.{Fault, Named}
use Rattle.minisign_base.specs.declared.faults.NamedFault.TheVariants as named

abbrev pub decoding_fault : DecodeAllocError → Fault
decoding_fault (DecodeError _) = Named named.SecretKeyNotBase64
decoding_fault OutOfMemory = Named named.OutOfMemory
