-- The lemmas that the proofs of minisign_tool use.
mod Outcomes
pub mod Unused
