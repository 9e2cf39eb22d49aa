-- The laws that the proofs of other crates use: about checking a signature box, about the verdict
-- on texts that are valid for a message, about verification without an output, and about a sink that
-- is written to in parts.
use Rattle.std.proofs.Common.{◌≡◌, ℕ, Bool, List, sym, ◌∙◌, inl, inr, Ok, Err}
use Rattle.minisign.proofs.Common.{Fault, Named, OutOfMemory}
use Rattle.minisign.specs.Acceptance.{Verifier}
use Rattle.minisign.specs.Headline.{TextsVouchFor, verdict}
use Rattle.minisign.specs.Texts.{IsValueOrNoMemory}
use Rattle.minisign.proofs.ReadTexts.{read_value}
use Rattle.minisign.proofs.Verdicts.{vouching_verdict}
pub use Rattle.minisign.proofs.Verdicts.{judged_vouches, vouched, vouched_verdict, vouches_judged}
pub use Rattle.minisign.proofs.VerifyingStages.{fails_without_output}
pub use Rattle.minisign_base.proofs.Laws.{AppendsPrefix-after, AppendsPrefix-more}

module _ (accepts : Verifier) (pk_text sig_text message : List ℕ) (legacy : Bool) where
  -- Texts that are valid for a message are rejected only if an allocation fails.
  pub only_memory : (e : Fault) → TextsVouchFor accepts pk_text sig_text message legacy
      → IsValueOrNoMemory {V = List ℕ} (Err e) (verdict accepts pk_text sig_text message legacy)
      → e ≡ Named OutOfMemory
  only_memory e v (inl is) = let differ = is ∙ vouching_verdict _ _ _ _ _ v in
      cc differ
  only_memory e v (inr memory) = cc memory

  -- Texts that are accepted are valid for the message.
  pub accepted_vouches : (comment : List ℕ)
      → IsValueOrNoMemory (Ok comment) (verdict accepts pk_text sig_text message legacy)
      → TextsVouchFor accepts pk_text sig_text message legacy
  accepted_vouches _ given =
      (vouched _ _ _ _ _ _ (read_value _ _ given)).vouched

  -- Texts that are rejected are not valid for the message.
  pub refused_unvouched : (e : Fault) → verdict accepts pk_text sig_text message legacy ≡ Err e
      → ¬ (TextsVouchFor accepts pk_text sig_text message legacy)
  refused_unvouched e is v = let differ = sym is ∙ vouching_verdict _ _ _ _ _ v in cc differ
