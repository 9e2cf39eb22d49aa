-- The definitions that the contracts of minisign_external use.
pub mod Questions
pub mod Numbers
pub mod States
pub mod SecretKeys
pub mod Signing
pub mod PublicKeys
pub mod Signatures
pub mod Making
pub mod StrictEd25519
pub mod StrictCalls
pub mod ValueRecords
pub mod Bare
