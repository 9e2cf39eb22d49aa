-- The definitions that the contracts of minisign_kdf use.
pub mod Blocks
pub mod Salsa20
pub mod Hmac
pub mod Pbkdf2
pub mod Diagonal
pub mod Scrypt
pub mod Kept
pub mod Params
pub mod Memory
pub mod Faults
