-- The texts of the errors of key derivation.
use Rattle.std.specs.Prelude.{ℕ, List, codes}
use Rattle.minisign_kdf.specs.declared.errors.KdfError.{KdfError}
use Rattle.minisign_kdf.specs.declared.errors.KdfError.TheVariants.{OutOfMemory, InvalidOutputLen}

-- The text that Display writes.
abbrev pub error_text : KdfError → List ℕ
error_text OutOfMemory = codes "out of memory"
error_text InvalidOutputLen = codes "invalid output length"
