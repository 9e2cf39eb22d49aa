-- Proves the goals of `PublicKey::to_box` that the prover leaves open.
use Rattle.std.proofs.Common.{◌∙◌, ap, sym}
use Rattle.minisign.proofs.PublicKeyTexts.{read_bare, spelled_text, written_text}
use Rattle.minisign.proofs.public_key.PublicKey.to_box.Goals as goal

pub returns-clause-text : goal.returns-clause-text
returns-clause-text c =
    let id = ap (λ k. k.keynum) c.self.view_is in
    c.from.ensures ∙ c.in_ok-text.ensures.ok
    ∙ spelled_text c.args.self.now _ _ id c.in_ok-encoded.ensures.text

pub returns-clause-reads_back : goal.returns-clause-reads_back
returns-clause-reads_back c =
    let k = c.args.self.now in
    let bare = read_bare _ k (rw c.in_ok-encoded.ensures.text at c.in_ok-encoded.ensures.reads_back) in
    rw (sym (returns-clause-text c)) at (written_text k bare)
