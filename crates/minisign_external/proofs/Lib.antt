-- The lemmas that the proofs of minisign_external use.
mod Words
pub mod BoxesOfSignatures
pub mod Facts
pub mod ResultsOfQuestions
pub mod Laws
pub mod OpenedKeys
pub mod SignedFiles
pub mod PublicHalves
pub mod ReadValues
pub mod Strictness
pub mod UnopenedKeys
pub mod Utf8
pub mod Verdicts
pub mod WithinRows
