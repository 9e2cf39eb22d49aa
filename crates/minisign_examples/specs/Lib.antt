-- The definitions that the contracts of minisign_examples use.
pub mod Asking
pub mod Downloading
pub mod NewKeys
pub mod Releasing
pub mod Updating
