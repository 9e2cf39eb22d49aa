-- The laws that the proofs of other crates use: the results of the two checks decide the verdict (`decided`),
-- the scheme's results for the inputs that asking returns are these results (`results_of_questions`), and a
-- Boolean that is not true is false (`not_true`).
pub use Rattle.minisign_external.proofs.Verdicts.{decided}
pub use Rattle.minisign_external.proofs.ResultsOfQuestions.{results_of_questions}
pub use Rattle.minisign_external.proofs.Utf8.{not_true}
