-- The digests in a list: how hexadecimal digits encode them, and which data has them.
use Rattle.std.specs.Prelude.{ℕ, Bool, List, Option, option_map, bytes_eq}
use Rattle.std.specs.Result.{result_ok}
use Rattle.hex.specs.Hex.{decode_sized}
use Rattle.sha2.specs.Sha256.{sha256}
use Rattle.sha2.specs.Sha512.{sha512}
use Rattle.minisign_hash.specs.Blake2b.{blake2b_digest}
pub use Rattle.minisign_lists.specs.declared.digests.Algorithm.{Algorithm}
use Rattle.minisign_lists.specs.declared.digests.Algorithm.TheVariants as algorithm
pub use Rattle.minisign_lists.specs.declared.digests.ListedDigest.{ListedDigest}
use Rattle.minisign_lists.specs.declared.digests.ListedDigest.TheVariants as listed

-- The bytes that hexadecimal digits of either case encode, if there are two digits for each of size
-- bytes.
abbrev pub hex_bytes : ℕ → List ℕ → Option (List ℕ)
hex_bytes size digits = result_ok (decode_sized digits size)

-- The digest that hexadecimal digits encode.
abbrev pub digest_of_digits : Algorithm → List ℕ → Option ListedDigest
digest_of_digits algorithm.Sha256 digits = option_map listed.Sha256 (hex_bytes 32 digits)
digest_of_digits algorithm.Sha512 digits = option_map listed.Sha512 (hex_bytes 64 digits)
digest_of_digits algorithm.Blake2b digits = option_map listed.Blake2b (hex_bytes 64 digits)

-- The data has the digest.
abbrev pub has_digest : ListedDigest → List ℕ → Bool
has_digest (listed.Sha256 digest) m = bytes_eq (sha256 m) digest
has_digest (listed.Sha512 digest) m = bytes_eq (sha512 m) digest
has_digest (listed.Blake2b digest) m = bytes_eq (blake2b_digest 64 m) digest
