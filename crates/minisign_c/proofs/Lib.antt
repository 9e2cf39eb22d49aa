-- The lemmas that the proofs of minisign_c use.
pub mod ListVerdicts
pub mod ListedVerdicts
pub mod MakingNumbers
pub mod Positive
pub mod PublicHalves
pub mod Refusals
pub mod StrictVerdicts
pub mod OpeningErrors
