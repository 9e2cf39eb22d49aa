-- The definitions that the contracts of minisign_fixtures use.
pub mod Turns
