-- Facts that relate the definitions of two crates.
use Rattle.std.proofs.Common.{◌≡◌, refl}
use Rattle.sha2.specs.Sha512.{initial_hash_512}
use Rattle.minisign_hash.specs.Blake2b.{iv}

-- The initialization vector of Blake2b is the initial hash value of SHA-512 (RFC 7693, section
-- 2.6).
pub same_vector : iv ≡ initial_hash_512
unfolding iv
same_vector = refl
