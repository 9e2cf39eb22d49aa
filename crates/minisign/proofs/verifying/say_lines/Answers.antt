-- Proves the goals of `say_lines` that the prover leaves open.
use Rattle.std.proofs.Common.{◌≡◌, List, ℕ, [], ◌∷◌, ◌++◌, None, Some, codes, ap, sym, ◌∙◌, refl}
use Rattle.minisign.specs.Records.{CommentsRecord, SignatureBoxRecord}
use Rattle.minisign.specs.Acceptance.{verified_text, trusted_comment_text, status_lines}
use Rattle.minisign.proofs.verifying.say_lines.Goals as goal

-- The two status lines of a box with comments.
both_lines : (x : SignatureBoxRecord) (c : CommentsRecord) (t : List ℕ) → x.comments ≡ Some c → t ≡ c.trusted
    → codes "Signature and comment signature verified\nTrusted comment: " ++ t ++ 10 ∷ [] ≡ status_lines x
unfolding verified_text trusted_comment_text
both_lines x c t both same = rw (both, same) refl

-- The status line of a box without comments.
one_line : (x : SignatureBoxRecord) → x.comments ≡ None → codes "Signature and comment signature verified"
    ++ [] ++ 10 ∷ [] ≡ status_lines x
unfolding verified_text
one_line x bare = rw bare refl

pub returns-in-Some-clause-status_received : goal.returns-in-Some-clause-status_received
returns-in-Some-clause-status_received g c =
    let lines = both_lines c.args.signature_box.now _ _
    (sym (ap (λ b. b.comments) c.signature_box.view_is) ∙ c.in-Some.is)
    (c.as_bytes.ensures.value ∙ ap (λ x. x.trusted) c.comments.view_is) in
    rw lines at c.put_line.ensures.bytes

pub returns-in-Some-clause-prefix_received : goal.returns-in-Some-clause-prefix_received
returns-in-Some-clause-prefix_received g c =
    let lines = both_lines c.args.signature_box.now _ _
    (sym (ap (λ b. b.comments) c.signature_box.view_is) ∙ c.in-Some.is)
    (c.as_bytes.ensures.value ∙ ap (λ x. x.trusted) c.comments.view_is) in
    rw lines at c.put_line.ensures.prefix_received

pub returns-in-None-clause-status_received : goal.returns-in-None-clause-status_received
returns-in-None-clause-status_received g c =
    let lines = one_line c.args.signature_box.now
    (sym (ap (λ b. b.comments) c.signature_box.view_is) ∙ c.in-None.is) in
    rw lines at c.put_line-in-None.ensures.bytes

pub returns-in-None-clause-prefix_received : goal.returns-in-None-clause-prefix_received
returns-in-None-clause-prefix_received g c =
    let lines = one_line c.args.signature_box.now
    (sym (ap (λ b. b.comments) c.signature_box.view_is) ∙ c.in-None.is) in
    rw lines at c.put_line-in-None.ensures.prefix_received
