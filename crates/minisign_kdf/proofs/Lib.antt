-- The lemmas that the proofs of minisign_kdf use.
pub mod Sixteen
pub mod Diagonal
pub mod Bytes
pub mod Joined
pub mod Blocks
pub mod Ordered
pub mod Keys
pub mod Mixing
pub mod Derivation
pub mod ParamsFacts
pub mod RowMixing
pub mod Parts
pub mod Kept
pub mod Remade
pub mod KeyFacts
pub mod RowsOnce
pub mod Facts
