-- The definitions that the contracts of minisign_compare use.
pub mod Fields
