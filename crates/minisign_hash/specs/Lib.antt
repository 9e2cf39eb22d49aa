-- The definitions that the contracts of minisign_hash use.
pub mod Words
pub mod Blake2b
pub mod Blocks
pub mod Fed
pub mod Stored
