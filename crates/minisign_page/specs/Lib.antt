-- The definitions that the contracts of minisign_page use.
pub mod ListCalls
