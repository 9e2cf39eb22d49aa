-- The definitions that the contracts of minisign_install use.
pub mod Applications
pub mod CommentChecks
pub mod Comments
pub mod Decisions
pub mod Faults
pub mod Histories
pub mod Installations
pub mod Listings
pub mod RecordTexts
pub mod Step
pub mod StepRuns
pub mod Traces
