-- Proves the goals of `Progress::record_text` that the prover leaves open.
use Rattle.std.proofs.Common.{refl, sym}
use Rattle.minisign_install.proofs.HeldStates.{due_is, key_is, not_writing, writing}
use Rattle.minisign_install.proofs.installation.progress.Progress.record_text.Goals as goal

pub returns-then-not-is_writing_record-clause-written : goal.returns-then-not-is_writing_record-clause-written
returns-then-not-is_writing_record-clause-written c = λ s state_held.
    let is = rw (c.is_writing_record.ensures, c.due.ensures) at c.if-not-is_writing_record.true in
    not_writing s _ _ _ _ (due_is c.args.self.now s state_held) is refl refl

pub returns-in-Some-clause-written : goal.returns-in-Some-clause-written
returns-in-Some-clause-written c = λ s state_held.
    let is = rw (c.is_writing_record.ensures, c.due.ensures) at c.if-not-is_writing_record.false in
    let first = sym (c.in-Some.ensures s state_held) in
    writing s _ _ _ _ _ (due_is c.args.self.now s state_held) is first
    (c.write_new_record.ensures.written s state_held (key_is s.signers _ first))

pub returns-in-None-clause-written : goal.returns-in-None-clause-written
returns-in-None-clause-written c = λ s state_held.
    let is = rw (c.is_writing_record.ensures, c.due.ensures) at c.if-not-is_writing_record.false in
    writing s _ _ _ _ _ (due_is c.args.self.now s state_held) is (sym (c.in-None.ensures s state_held))
    (refl, refl)

pub returns-in-Some-clause-reads_back : goal.returns-in-Some-clause-reads_back
returns-in-Some-clause-reads_back c = λ s state_held some.
    c.write_new_record.ensures.reads_back s state_held (key_is s.signers _ (sym
    (c.in-Some.ensures s state_held))) some
