-- The lemmas that the proofs of minisign_hash use.
pub mod Bits
pub mod Lists
pub mod Lanes
pub mod Feeding
pub mod Facts
