-- Calls on devices: a device before the call (old) and after it (new), with the ghost members of
-- its trait, as one value; and relations on such values.
use Rattle.std.specs.Prelude.{◌≡◌, ⊤, ℕ, List, None, Result, MatchResult}
use Rattle.std.specs.Io.KnownBytes.{Appends}
use Rattle.minisign_base.specs.Devices.{AppendsPrefix, HasFlushed, PrefixIsRemoved, HasGoneBack, HasMarked}
use Rattle.minisign_base.specs.Devices.{ErrorCountRises}
use Rattle.minisign_base.specs.Devices.{EqualIfSecondKnown}
use Rattle.minisign_base.specs.Fault.{Fault, Named}
use Rattle.minisign_base.specs.declared.faults.NamedFault.TheVariants.{WritingFailed}
use Rattle.minisign_base.specs.Members.{RandomOf, SinkOf, SourceOf}
use Rattle.minisign_base.specs.declared.prompt.Prompt.{Prompt}

-- A call on a source that can be read again.
pub record RereaderCall (R : Type 0) : Type 1 where
  pub source : SourceOf R
  pub steady : R → Type 0
  pub old : R
  pub new : R

-- A call on a sink.
pub record SinkCall (W : Type 0) : Type 1 where
  pub sink : SinkOf W
  pub old : W
  pub new : W

-- These two records, made from their fields.
abbrev pub rereader_call : {R : Type 0} → SourceOf R → (R → Type 0) → R → R → RereaderCall R
rereader_call source steady old new = record { source = source; steady = steady; old = old; new = new }

abbrev pub sink_call : {W : Type 0} → SinkOf W → W → W → SinkCall W
sink_call sink old new = record { sink = sink; old = old; new = new }

-- The source is steady: going back restores the bytes that were unread when the mark was set.
abbrev pub IsSteady : {R : Type 0} → RereaderCall R → Type 0
IsSteady reader = reader.steady reader.old

-- The source failed: its error count rose, or is at its greatest value.
abbrev pub SourceFails : {R : Type 0} → RereaderCall R → Type 0
SourceFails reader = ErrorCountRises (reader.source.faults reader.old) (reader.source.faults reader.new)

-- The source did not fail.
abbrev pub SourceHasNoNewFault : {R : Type 0} → RereaderCall R → Type 0
SourceHasNoNewFault reader = reader.source.faults reader.new ≡ reader.source.faults reader.old

-- A prefix of the unread bytes was returned, which may be empty or all of them.
abbrev pub SourceReturnsPrefix : {R : Type 0} → RereaderCall R → Type 0
SourceReturnsPrefix reader = PrefixIsRemoved (reader.source.ahead reader.old) (reader.source.ahead reader.new)

-- A call that marks the place, and a call that goes back to it.
abbrev pub Marks : {R : Type 0} → RereaderCall R → Result ⊤ ⊤ → Type 0
Marks r answer =
    HasMarked r.steady r.source.ahead r.source.behind r.source.since r.source.is_marked r.source.faults
    r.old r.new answer

abbrev pub GoesBack : {R : Type 0} → RereaderCall R → Result ⊤ ⊤ → Type 0
GoesBack r answer =
    HasGoneBack r.source.ahead r.source.behind r.source.since r.source.is_marked r.source.faults r.old r.new
    answer

-- The sink failed: its error count rose, or is at its greatest value.
abbrev pub SinkFails : {W : Type 0} → SinkCall W → Type 0
SinkFails out = ErrorCountRises (out.sink.sink_faults out.old) (out.sink.sink_faults out.new)

-- The sink did not fail.
abbrev pub SinkHasNoNewFault : {W : Type 0} → SinkCall W → Type 0
SinkHasNoNewFault out = out.sink.sink_faults out.new ≡ out.sink.sink_faults out.old

-- The sink received these bytes. If its bytes are not known, this says nothing.
abbrev pub SinkReceives : {W : Type 0} → SinkCall W → List ℕ → Type 0
SinkReceives out bytes = Appends (out.sink.taken out.old) (out.sink.taken out.new) bytes

-- The sink received a prefix of these bytes.
abbrev pub SinkReceivesPrefix : {W : Type 0} → SinkCall W → List ℕ → Type 0
SinkReceivesPrefix out bytes = AppendsPrefix (out.sink.taken out.old) (out.sink.taken out.new) bytes

-- The sink flushed all that it received. If it is not known what was flushed, this says nothing.
abbrev pub IsFlushed : {W : Type 0} → SinkCall W → Type 0
IsFlushed out = EqualIfSecondKnown (out.sink.taken out.new) (out.sink.flushed out.new)

-- The sink received all of a part and flushed it, without an error.
pub record SinkCompletesPart {W : Type 0} (out : SinkCall W) (part : List ℕ) : Type 0 where
  pub bytes : SinkReceives out part
  pub flushed : IsFlushed out
  pub no_new_fault : SinkHasNoNewFault out

-- The sink received a prefix of a part, and failed at a write or at the flush.
pub record SinkFailsAtPart {W : Type 0} (out : SinkCall W) (part : List ℕ) : Type 0 where
  pub front : SinkReceivesPrefix out part
  pub rose : SinkFails out

-- The sink flushed nothing.
abbrev pub FlushesNothing : {W : Type 0} → SinkCall W → Type 0
FlushesNothing out = out.sink.flushed out.new ≡ out.sink.flushed out.old

-- A call that flushes.
abbrev pub Flushes : {O : Type 0} → SinkCall O → Result ⊤ ⊤ → Type 0
Flushes out answer = HasFlushed out.sink.taken out.sink.flushed out.sink.sink_faults out.old out.new answer

-- The error of a sink that failed.
abbrev pub IsWritingFault : {W : Type 0} → SinkCall W → Fault → Type 0
IsWritingFault sink e = (e ≡ Named WritingFailed) × SinkFails sink

-- Bytes are written to a sink and not flushed. On success the sink received all of them, and after
-- an error a prefix.
abbrev pub WritesBytes : {W : Type 0} → SinkCall W → List ℕ → Result ⊤ Fault → Type 0
WritesBytes out bytes answer =
    MatchResult answer (λ _. SinkReceives out bytes × SinkHasNoNewFault out)
    (λ e. IsWritingFault out e × SinkReceivesPrefix out bytes)
    × FlushesNothing out

-- A call on a sink that is not used.
abbrev pub no_sink : SinkCall ⊤
no_sink =
    record {
      sink = record { taken = λ _. None; flushed = λ _. None; sink_faults = λ _. 0 };
      old = tt;
      new = tt;
    }

-- A call on a source.
pub record SourceCall (R : Type 0) : Type 1 where
  pub source : SourceOf R
  pub old : R
  pub new : R

abbrev pub source_call : {R : Type 0} → SourceOf R → R → R → SourceCall R
source_call source old new = record { source = source; old = old; new = new }

-- A call on a random source.
pub record RandomCall (Z : Type 0) : Type 1 where
  pub random : RandomOf Z
  pub old : Z
  pub new : Z

abbrev pub random_call : {Z : Type 0} → RandomOf Z → Z → Z → RandomCall Z
random_call random old new = record { random = random; old = old; new = new }

-- A call on a prompt, which has a reader and a writer.
pub record PromptCall (R W : Type 0) : Type 1 where
  pub source : SourceOf R
  pub sink : SinkOf W
  pub old : Prompt R W
  pub new : Prompt R W

abbrev pub prompt_call : {R W : Type 0} → SourceOf R → SinkOf W → Prompt R W → Prompt R W → PromptCall R W
prompt_call source sink old new = record { source = source; sink = sink; old = old; new = new }

-- The call on the reader of a prompt, and on its writer.
abbrev pub reader_of : {R W : Type 0} → PromptCall R W → SourceCall R
reader_of p = source_call p.source p.old.reader p.new.reader

abbrev pub writer_of : {R W : Type 0} → PromptCall R W → SinkCall W
writer_of p = sink_call p.sink p.old.writer p.new.writer
