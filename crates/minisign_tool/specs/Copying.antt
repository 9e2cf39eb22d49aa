-- The error of `cat` for data that it does not read.
use Rattle.std.specs.Prelude.{codes}
use Rattle.minisign.specs.Fault.{Fault, Custom}
use Rattle.minisign.specs.ErrorKinds.{Io}

-- The error if the data comes from the file that standard output is redirected to.
unfoldable pub input_is_output : Fault
input_is_output = Custom Io (codes "input file is output file")
