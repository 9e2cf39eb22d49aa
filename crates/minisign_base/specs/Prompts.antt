-- Conversations with a prompt: the steps in which it writes texts and reads lines, and how they
-- end. Asking for a password is one such conversation. The bytes of a conversation are all the
-- unread bytes of the prompt's reader.
use Rattle.std.specs.Prelude.{◌≡◌, ⊤, ℕ, ◌+◌, ◌<◌, List, [], ◌∷◌, ◌++◌, length, take, drop, Option, Some}
use Rattle.std.specs.Prelude.{IfSome, Result, codes}
use Rattle.std.specs.Result.{result_err}
use Rattle.minisign_base.specs.Devices.{ErrorCountRises}
use Rattle.minisign_base.specs.Fault.{Fault}
use Rattle.minisign_base.specs.DeviceCalls.{SinkFailsAtPart, PromptCall, SourceCall, SinkCompletesPart}
use Rattle.minisign_base.specs.DeviceCalls.{reader_of}
use Rattle.minisign_base.specs.DeviceCalls.{writer_of}
use Rattle.minisign_base.specs.Passwords.{password_of, read_count, typed_password}
use Rattle.minisign_base.specs.Steps.{EndsWith, StepsEnd}
use Rattle.minisign_base.specs.declared.faults.NamedFault.TheVariants.{OutOfMemory, ReadingFailed}
use Rattle.minisign_base.specs.declared.faults.NamedFault.TheVariants.{WritingFailed}

-- The text that is written if the password is empty.
abbrev pub empty_mark : List ℕ
empty_mark = codes "<empty>" ++ 10 ∷ []

-- The reader read the first line of these bytes, which were all its unread bytes, as far as those
-- are known.
pub record HasReadLine {R : Type 0} (r : SourceCall R) (bytes : List ℕ) : Type 0 where
  pub ahead : IfSome (r.source.ahead r.old) (λ xs. xs ≡ bytes)
  pub unread : IfSome (r.source.ahead r.old)
      (λ _. r.source.ahead r.new ≡ Some (drop (read_count bytes) bytes))
  pub left : r.source.left r.new + length (take (read_count bytes) bytes) ≡ r.source.left r.old
  pub no_new_fault : r.source.faults r.new ≡ r.source.faults r.old

-- The reader failed within the line. Fewer than 1026 bytes were read, as far as the bytes are
-- known.
pub record HasFailedInLine {R : Type 0} (r : SourceCall R) : Type 0 where
  pub fault : ErrorCountRises (r.source.faults r.old) (r.source.faults r.new)
  pub prefix_removed : IfSome (r.source.ahead r.new) (λ ys. IfSome (r.source.ahead r.old) (λ xs.
      (front : List ℕ) × (xs ≡ front ++ ys) × (length front < 1026)))

-- A step of a conversation: memory is allocated; a text is written; the first line of these unread
-- bytes is read; or a check is made, which passes (None) or gives an error.
pub data Step : Type 0 where
  Allocate : Step
  Say : List ℕ → Step
  ReadLine : List ℕ → Step
  Test : Option Fault → Step

-- The end of a step: its result and its effect on the prompt. Writing a text reads nothing, and reading
-- a line writes nothing.
abbrev pub StepEnds : {R W : Type 0} → PromptCall R W → Step → Result ⊤ Fault → Type 0
StepEnds p Allocate answer = EndsWith ⊤ OutOfMemory ⊤ answer × (p.new ≡ p.old)
StepEnds p (Say text) answer =
    EndsWith (SinkCompletesPart (writer_of p) text) WritingFailed (SinkFailsAtPart (writer_of p) text) answer
    × (p.new.reader ≡ p.old.reader)
StepEnds p (ReadLine bytes) answer =
    EndsWith (HasReadLine (reader_of p) bytes) ReadingFailed (HasFailedInLine (reader_of p)) answer
    × (p.new.writer ≡ p.old.writer)
StepEnds p (Test refusal) answer = (refusal ≡ result_err answer) × (p.new ≡ p.old)

-- A conversation of these steps ends with this result.
abbrev pub ConversationEnds : {R W : Type 0} → PromptCall R W → List Step → Result ⊤ Fault → Type 0
ConversationEnds p steps answer =
    StepsEnd (λ step old new. StepEnds (record p { old = old; new = new }) step) steps p.old p.new answer

-- The steps after a password was read: if the password is empty, `<empty>` is written.
abbrev pub marking_steps : List ℕ → List Step
marking_steps [] = Say empty_mark ∷ []
marking_steps (b ∷ password) = []

-- The steps of asking for a password: the text is written, and the password is typed in these
-- bytes.
abbrev pub asking_steps : List ℕ → List ℕ → List Step
asking_steps text bytes =
    Allocate ∷ Say text ∷ ReadLine bytes ∷ Test (result_err (password_of bytes))
    ∷ marking_steps (typed_password bytes)

-- All that the steps of a conversation write.
abbrev pub written : List Step → List ℕ
written [] = []
written (Allocate ∷ later) = written later
written (Say text ∷ later) = text ++ written later
written (ReadLine bytes ∷ later) = written later
written (Test refusal ∷ later) = written later
