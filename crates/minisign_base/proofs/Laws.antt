-- The lemmas that the proofs of other crates use: about a sink that is written to in parts, about a call that
-- makes two calls one after the other, and about the texts that a prompt shows and reads.
pub use Rattle.minisign_base.proofs.SinkLaws.{AppendsPrefix-after, AppendsPrefix-keeps, AppendsPrefix-more}
pub use Rattle.minisign_base.proofs.StepLaws.{first_stopped, second_ends}
pub use Rattle.minisign_base.proofs.PromptLaws.{second_ended, stopped_first, typed_is}
