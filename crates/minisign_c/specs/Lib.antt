-- The definitions that the contracts of minisign_c use.
pub mod InstallCalls
pub mod KeyTexts
pub mod ListCalls
pub mod ListSequences
pub mod StateCalls
