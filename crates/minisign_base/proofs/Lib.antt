-- The lemmas that the proofs of minisign_base use.
mod Digits
mod Filled
mod Folding
mod ReadParts
mod HandedOn
pub mod LeastCost
pub mod Facts
mod PromptLines
pub mod SinkLaws
pub mod StepLaws
pub mod PromptLaws
mod ConversationTexts
pub mod Laws
