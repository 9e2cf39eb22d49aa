-- The numbers of hash functions for programs in other languages.
use Rattle.std.specs.Prelude.{ℕ}
use Rattle.minisign_lists.specs.Digests.{Algorithm}
use Rattle.minisign_lists.specs.declared.digests.Algorithm.TheVariants.{Sha256, Sha512, Blake2b}
use Rattle.minisign_lists.specs.declared.lines.LongDigest.{LongDigest}
use Rattle.minisign_lists.specs.declared.lines.LongDigest.TheVariants as long

-- The number of a hash function.
abbrev pub hash_number : Algorithm → ℕ
hash_number Sha256 = 1
hash_number Sha512 = 2
hash_number Blake2b = 3

-- The number for a hash function of 128 digits, or 0 if lines with 128 digits are rejected.
abbrev pub long_number : LongDigest → ℕ
long_number long.Rejected = 0
long_number long.Sha512 = 2
long_number long.Blake2b = 3
