-- Lemmas about what a prompt writes in the steps of a conversation.
use Rattle.std.proofs.Common.{◌≡◌, ℕ, List, [], ◌∷◌, Ok, Err, ap, inl, inr, subst, sym, ◌∙◌}
use Rattle.std.proofs.KnownBytes.{Appends-nil, Appends-trans, Keeps-refl}
use Rattle.std.specs.Io.KnownBytes.{Appends}
use Rattle.minisign_base.specs.Devices.{AppendsPrefix}
use Rattle.minisign_base.specs.Fault.{Fault}
use Rattle.minisign_base.specs.DeviceCalls.{PromptCall}
use Rattle.minisign_base.specs.Prompts.{Allocate, ConversationEnds, ReadLine, Say, Step, Test, written}
use Rattle.minisign_base.proofs.SinkLaws.{AppendsPrefix-after, AppendsPrefix-keeps, AppendsPrefix-more}

-- An unchanged writer received a prefix of any text, namely nothing.
unchanged_writer_received_prefix : {R W : Type 0} (p : PromptCall R W) (bytes : List ℕ)
    → p.new.writer ≡ p.old.writer
    → AppendsPrefix (p.sink.taken p.old.writer) (p.sink.taken p.new.writer) bytes
unchanged_writer_received_prefix p bytes same =
    subst (λ w. AppendsPrefix (p.sink.taken p.old.writer) (p.sink.taken w) bytes) (sym same)
    (AppendsPrefix-keeps (p.sink.taken p.old.writer) (p.sink.taken p.old.writer) bytes
    (Keeps-refl (p.sink.taken p.old.writer)))

-- The writer received all that the conversation writes, without an error.
pub writer_received_all : {R W : Type 0} (p : PromptCall R W) (steps : List Step)
    → ConversationEnds p steps (Ok tt)
    → Appends (p.sink.taken p.old.writer) (p.sink.taken p.new.writer) (written steps)
writer_received_all p [] same =
    subst (λ d. Appends (p.sink.taken p.old.writer) (p.sink.taken d.writer) []) (sym same)
    (Appends-nil (p.sink.taken p.old.writer))
writer_received_all p (Allocate ∷ later) (between, (done, same), held) =
    subst (λ d. Appends (p.sink.taken d.writer) (p.sink.taken p.new.writer) (written later)) same
    (writer_received_all (record p { old = between }) later held)
writer_received_all p (Say text ∷ later) (between, (said, same), held) =
    Appends-trans (p.sink.taken p.old.writer) (p.sink.taken between.writer) (p.sink.taken p.new.writer) text
    (written later) said.bytes
    (writer_received_all (record p { old = between }) later held)
writer_received_all p (ReadLine bytes ∷ later) (between, (read, same), held) =
    subst (λ w. Appends (p.sink.taken w) (p.sink.taken p.new.writer) (written later)) same
    (writer_received_all (record p { old = between }) later held)
writer_received_all p (Test refusal ∷ later) (between, (none, same), held) =
    subst (λ d. Appends (p.sink.taken d.writer) (p.sink.taken p.new.writer) (written later)) same
    (writer_received_all (record p { old = between }) later held)

-- If the conversation succeeds, the error count of the writer is unchanged.
pub held_no_new_fault : {R W : Type 0} (p : PromptCall R W) (steps : List Step)
    → ConversationEnds p steps (Ok tt)
    → p.sink.sink_faults p.new.writer ≡ p.sink.sink_faults p.old.writer
held_no_new_fault p [] same = ap (λ d. p.sink.sink_faults d.writer) same
held_no_new_fault p (Allocate ∷ later) (between, (done, same), held) =
    held_no_new_fault (record p { old = between }) later held ∙ ap (λ d. p.sink.sink_faults d.writer) same
held_no_new_fault p (Say text ∷ later) (between, (said, same), held) =
    held_no_new_fault (record p { old = between }) later held ∙ said.no_new_fault
held_no_new_fault p (ReadLine bytes ∷ later) (between, (read, same), held) =
    held_no_new_fault (record p { old = between }) later held ∙ ap p.sink.sink_faults same
held_no_new_fault p (Test refusal ∷ later) (between, (none, same), held) =
    held_no_new_fault (record p { old = between }) later held ∙ ap (λ d. p.sink.sink_faults d.writer) same

-- If the conversation stopped with an error, the writer received a prefix of what all its steps write.
pub stopped_taken : {R W : Type 0} (p : PromptCall R W) (steps : List Step) (e : Fault)
    → ConversationEnds p steps (Err e)
    → AppendsPrefix (p.sink.taken p.old.writer) (p.sink.taken p.new.writer) (written steps)
stopped_taken p [] e stopped = absurd stopped
stopped_taken p (Allocate ∷ later) e (inl (is, same)) =
    unchanged_writer_received_prefix p (written later) (ap (λ d. d.writer) same)
stopped_taken p (Allocate ∷ later) e (inr (between, (done, same), stopped)) =
    subst (λ d. AppendsPrefix (p.sink.taken d.writer) (p.sink.taken p.new.writer) (written later)) same
    (stopped_taken (record p { old = between }) later e stopped)
stopped_taken p (Say text ∷ later) e (inl ((is, failed), same)) =
    AppendsPrefix-more (p.sink.taken p.old.writer) (p.sink.taken p.new.writer) text
    (written later) failed.front
stopped_taken p (Say text ∷ later) e (inr (between, (said, same), stopped)) =
    AppendsPrefix-after (p.sink.taken p.old.writer) (p.sink.taken between.writer) (p.sink.taken p.new.writer)
    text (written later) said.bytes
    (stopped_taken (record p { old = between }) later e stopped)
stopped_taken p (ReadLine bytes ∷ later) e (inl (failed, same)) =
    unchanged_writer_received_prefix p (written later) same
stopped_taken p (ReadLine bytes ∷ later) e (inr (between, (read, same), stopped)) =
    subst (λ w. AppendsPrefix (p.sink.taken w) (p.sink.taken p.new.writer) (written later)) same
    (stopped_taken (record p { old = between }) later e stopped)
stopped_taken p (Test refusal ∷ later) e (inl (is, same)) =
    unchanged_writer_received_prefix p (written later) (ap (λ d. d.writer) same)
stopped_taken p (Test refusal ∷ later) e (inr (between, (none, same), stopped)) =
    subst (λ d. AppendsPrefix (p.sink.taken d.writer) (p.sink.taken p.new.writer) (written later)) same
    (stopped_taken (record p { old = between }) later e stopped)
