-- The definitions that the contracts of minisign_sha2 use. SHA-256 and SHA-512 themselves are those
-- of the crate sha2 of the kit.
pub mod Fed256
pub mod Fed512
pub mod Hashers
