-- The definitions that the contracts of minisign_tool use.
pub mod Commands
pub mod Copying
pub mod Endings
pub mod Keygen
pub mod Permissions
pub mod Replacing
pub mod Report
pub mod Sign
pub mod TextFiles
pub mod Verify
pub mod VerifyRaw
