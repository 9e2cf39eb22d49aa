-- Proves the goals of `Follower::has_performed` that the prover leaves open.
use Rattle.std.proofs.Common.{◌∙◌, refl, sym}
use Rattle.minisign_install.specs.Traces.{world_of}
use Rattle.minisign_install.proofs.FullTraces.{answer_leaves, content_is, copy_found, in_use_found, none_seen}
use Rattle.minisign_install.proofs.FullTraces.{piece_leaves, record_found, target_missed}
use Rattle.minisign_install.proofs.Tracing.{bytes_are, is_nothing_effect, signature_is, some_of}
use Rattle.minisign_install.proofs.traces.Follower.has_performed.Goals as goal

pub returns-in-Done-clause-sound : goal.returns-in-Done-clause-sound
returns-in-Done-clause-sound c = λ is file s m knows follows.
    rw c.in-Done.is (c.is_done.ensures.sound is c.args.message.now s m follows)

pub returns-in-InUse-clause-sound : goal.returns-in-InUse-clause-sound
returns-in-InUse-clause-sound c = λ is file s m knows follows.
    rw c.in-InUse.is (c.is_in_use.ensures.sound is
    (world_of c.args.inputs.now) c.args.message.now s m follows)

pub returns-in-Failed-clause-sound : goal.returns-in-Failed-clause-sound
returns-in-Failed-clause-sound c = λ is file s m knows follows.
    rw c.in-Failed.is (c.has_failed.ensures.sound is
    (world_of c.args.inputs.now) c.args.message.now s m follows)

pub returns-then-is_nothing-clause-sound : goal.returns-then-is_nothing-clause-sound
returns-then-is_nothing-clause-sound c = λ is file s m knows follows.
    let none = is_nothing_effect c.args.effect.now (sym c.is_nothing.ensures ∙ c.if-is_nothing.true) in
    rw (c.in-Recorded.is, none) (c.has_read_record.ensures.sound is c.args.message.now s m follows)

pub returns-then-is_nothing-2-clause-sound : goal.returns-then-is_nothing-2-clause-sound
returns-then-is_nothing-2-clause-sound c = λ is file s m knows follows.
    let same = sym c.is_nothing-in-Signature.ensures ∙ c.if-is_nothing-2.true in
    let none = is_nothing_effect c.args.effect.now same in
    rw (c.in-Signature.is, none) (c.has_read_signature.ensures.sound is _ c.args.message.now s m follows)

pub returns-then-is_nothing-4-clause-sound : goal.returns-then-is_nothing-4-clause-sound
returns-then-is_nothing-4-clause-sound c = λ is file s m knows follows.
    let none = is_nothing_effect c.args.effect.now (sym c.is_nothing-in-NoTarget.ensures
    ∙ c.if-is_nothing-4.true) in
    rw (c.in-NoTarget.is, none)
    (c.has_no_target.ensures.sound is (world_of c.args.inputs.now) c.args.message.now s m follows)

pub returns-then-is_nothing-5-clause-sound : goal.returns-then-is_nothing-5-clause-sound
returns-then-is_nothing-5-clause-sound c = λ is file s m knows follows.
    let none = is_nothing_effect c.args.effect.now (sym c.is_nothing-in-Piece.ensures
    ∙ c.if-is_nothing-5.true) in
    rw (c.in-Piece.is, none)
    ((some_of c.next_read.result _ c.next_read.ensures.sound (sym c.is_some.ensures ∙ is)).1
    (world_of c.args.inputs.now) c.args.message.now s m refl follows).1

pub returns-in-Copied-clause-sound : goal.returns-in-Copied-clause-sound
returns-in-Copied-clause-sound c = λ is file s m knows follows.
    rw c.in-Copied.is
    (c.has_copied.ensures.sound is (world_of c.args.inputs.now) c.args.message.now s m refl follows)

pub returns-in-Done-clause-complete : goal.returns-in-Done-clause-complete
returns-in-Done-clause-complete c = λ file s m knows follows done noted.
    c.is_done.ensures.complete c.args.message.now s m follows (rw c.in-Done.is at done)
    (rw c.in-Done.is at noted)

pub returns-in-InUse-clause-complete : goal.returns-in-InUse-clause-complete
returns-in-InUse-clause-complete c = λ file s m knows follows done noted.
    let w = world_of c.args.inputs.now in
    let (at, busy) = in_use_found w s s.due m _ (rw c.in-InUse.is at done) in
    c.is_in_use.ensures.complete s follows.stored at (sym follows.seen.busy
    ∙ busy) (rw c.in-InUse.is at noted)

pub returns-in-Failed-clause-complete : goal.returns-in-Failed-clause-complete
returns-in-Failed-clause-complete c = λ file s m knows follows done noted.
    c.has_failed.ensures.complete s follows.stored (rw c.in-Failed.is at noted)

pub returns-then-is_nothing-clause-complete : goal.returns-then-is_nothing-clause-complete
returns-then-is_nothing-clause-complete c = λ file s m knows follows done noted.
    let w = world_of c.args.inputs.now in
    let (at, inputs, present) = record_found w s s.due _ m _ (rw c.in-Recorded.is at done) in
    c.has_read_record.ensures.complete s follows.stored at inputs
    (present ∙ content_is m.recorded c.args.self.now.files.recorded follows.seen.recorded)

pub returns-then-is_nothing-2-clause-complete : goal.returns-then-is_nothing-2-clause-complete
returns-then-is_nothing-2-clause-complete c = λ file s m knows follows done noted.
    let w = world_of c.args.inputs.now in
    let (at, same) = signature_is w s s.due _ _ m _ (rw c.in-Signature.is at done) in
    c.has_read_signature.ensures.complete s follows.stored at (rw c.in-Signature.is at noted).1

pub returns-then-is_nothing-3-clause-complete : goal.returns-then-is_nothing-3-clause-complete
returns-then-is_nothing-3-clause-complete c = λ file s m knows follows done noted.
    let w = world_of c.args.inputs.now in
    c.has_answered.ensures.complete file s m knows follows
    (answer_leaves w s s.due _ m _ (rw c.in-Answered.is at done)) (rw c.in-Answered.is at noted).1

pub returns-then-is_nothing-4-clause-complete : goal.returns-then-is_nothing-4-clause-complete
returns-then-is_nothing-4-clause-complete c = λ file s m knows follows done noted.
    let w = world_of c.args.inputs.now in
    let (at, none) = target_missed w s s.due m _ (rw c.in-NoTarget.is at done) in
    c.has_no_target.ensures.complete s follows.stored at
    (none_seen m.target c.args.self.now.files.target follows.seen.target none)

pub returns-then-is_nothing-5-clause-complete : goal.returns-then-is_nothing-5-clause-complete
returns-then-is_nothing-5-clause-complete c = λ file s m knows follows done noted.
    let w = world_of c.args.inputs.now in
    c.is_some.ensures
    ∙ c.next_read.ensures.complete w c.args.message.now s m refl follows
    (piece_leaves w s s.due _ m _ (rw c.in-Piece.is at done)) (rw c.in-Piece.is at noted).1

pub returns-in-Copied-clause-complete : goal.returns-in-Copied-clause-complete
returns-in-Copied-clause-complete c = λ file s m knows follows done noted.
    let w = world_of c.args.inputs.now in
    let copied = rw c.in-Copied.is at noted in
    c.has_copied.ensures.complete s follows.stored (copy_found w s s.due _ m _ (rw c.in-Copied.is at done))
    (rw (bytes_are m.data_file c.args.self.now.files.data_file follows.seen.data_file) at copied)
