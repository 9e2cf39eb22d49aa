-- Proves the goals of `PublicKey::to_box_with_comment` that the prover leaves open.
use Rattle.std.proofs.Common.{rules}
use Rattle.minisign.specs.Texts.{untrusted_comment_label}
use Rattle.minisign.proofs.PublicKeyTexts.{read_bare}
use Rattle.minisign.proofs.WrittenKeys.{commented_public_key, public_key_size}
use Rattle.minisign.proofs.public_key.PublicKey.to_box_with_comment.Goals as goal

pub returns-clause-text : goal.returns-clause-text
unfolding untrusted_comment_label
returns-clause-text c = search rules

pub returns-clause-reads_back : goal.returns-clause-reads_back
returns-clause-reads_back c = λ lacks.
    let k = c.args.self.now in
    let bare = read_bare _ k (rw c.in_ok-encoded.ensures.text at c.in_ok-encoded.ensures.reads_back) in
    commented_public_key k _ _ bare lacks (returns-clause-text c)

pub returns-clause-size : goal.returns-clause-size
returns-clause-size c =
    let k = c.args.self.now in
    let bare = read_bare _ k (rw c.in_ok-encoded.ensures.text at c.in_ok-encoded.ensures.reads_back) in
    public_key_size _ _ k bare (returns-clause-text c)
