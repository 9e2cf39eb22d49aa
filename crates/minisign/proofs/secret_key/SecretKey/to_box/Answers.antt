-- Proves the goals of `SecretKey::to_box` that the prover leaves open.
use Rattle.minisign.specs.KeyTexts.{default_secret_key_comment, secret_key_text}
use Rattle.minisign.proofs.WrittenKeys.{default_comment_lacks_feed}
use Rattle.minisign.proofs.secret_key.SecretKey.to_box.Goals as goal

pub returns-in-None-clause-text : goal.returns-in-None-clause-text
unfolding secret_key_text default_secret_key_comment
returns-in-None-clause-text c = rw c.in-None.is c.write_box-in-None.ensures.text

pub returns-in-None-clause-reads_back : goal.returns-in-None-clause-reads_back
unfolding default_secret_key_comment
returns-in-None-clause-reads_back c = λ lacks.
    c.write_box-in-None.ensures.reads_back default_comment_lacks_feed
