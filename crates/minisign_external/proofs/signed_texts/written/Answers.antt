-- Proves the goal of `written` that the prover leaves open.
use Rattle.minisign_external.proofs.signed_texts.written.Goals as goal

pub returns-clause-reads_back : goal.returns-clause-reads_back
returns-clause-reads_back c = λ keeps.
    let read_back = rw c.in_ok-signature_box.ensures.parts at c.into_string.ensures.reads_back in
    read_back keeps
