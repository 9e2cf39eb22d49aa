-- Proves the goal of `expiry_fault` that the prover leaves open.
use Rattle.std.proofs.Common.{◌∷◌, ◌∙◌, List, ℕ, ap, sym}
use Rattle.minisign_install.specs.Comments.{expiry_label, value_of}
use Rattle.minisign_install.specs.Decisions.{expiry_fault, number_of}
use Rattle.minisign_install.proofs.installation.judging.expiry_fault.Goals as goal

pub returns-in-None-first_expiry-clause-value : goal.returns-in-None-first_expiry-clause-value
returns-in-None-first_expiry-clause-value c =
    let (v, one) = c.in-Some.ensures in
    c.expiry_at.ensures.value c.args.must_expire v
    ∙ ap (λ (l : List (List ℕ)).
    expiry_fault c.args.must_expire c.args.time l (number_of (value_of expiry_label c.args.comment.now)))
    (sym (one ∙ ap (λ (l : List (List ℕ)). v ∷ l) c.in-None-first_expiry.ensures))
