-- The definitions that the contracts of minisign_lists use.
pub mod Faults
pub mod Names
pub mod Digests
pub mod Lines
pub mod Lists
pub mod Comments
pub mod Verdicts
pub mod Pieces
pub mod Numbers
pub mod Positions
pub mod Values
pub mod Writing
