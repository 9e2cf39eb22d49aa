-- Reading data to its end, copying data, and the errors of reading a text from a source or a file.
use Rattle.std.specs.Prelude.{◌≡◌, ◌⊎◌, ⊤, ℕ, List, Option, IfSome, Result, IfErr, OnOk, OnErr, IsErrAnd}
use Rattle.std.specs.Prelude.{IsUtf8}
use Rattle.std.specs.Io.KnownBytes.{IsAtEnd}
use Rattle.minisign_base.specs.Devices.{ErrorCountRises}
use Rattle.minisign_base.specs.DeviceCalls.{FlushesNothing, IsWritingFault, RereaderCall, SinkCall}
use Rattle.minisign_base.specs.DeviceCalls.{SinkHasNoNewFault, SourceReturnsPrefix, SinkReceives}
use Rattle.minisign_base.specs.DeviceCalls.{SinkReceivesPrefix}
use Rattle.minisign_base.specs.Fault.{Fault, Named}
use Rattle.minisign_base.specs.declared.faults.NamedFault.{NamedFault}
use Rattle.minisign_base.specs.declared.faults.NamedFault.TheVariants.{OutOfMemory, ReadingFailed, NotUtf8}
use Rattle.minisign_base.specs.Members.{SourceOf}

-- The known bytes, if any, are these bytes. Used for the unread bytes of a source, and for the
-- bytes that it returned.
abbrev pub KnownBytesAre : Option (List ℕ) → List ℕ → Type 0
KnownBytesAre ahead bytes = IfSome ahead (λ xs. xs ≡ bytes)

-- The source was read to its end without an error, and the bytes read are the message. The mark is
-- unchanged.
pub record ReadsWhole {R : Type 0} (source : SourceOf R) (old new : R) (message : List ℕ) : Type 0 where
  pub known_bytes : KnownBytesAre (source.ahead old) message
  pub end : IsAtEnd (source.ahead new)
  pub mark : source.behind new ≡ source.behind old
  pub no_new_fault : source.faults new ≡ source.faults old

-- A device failed: its error count rose, and e is the given named error.
pub record HasFailed {D : Type 0} (error : NamedFault) (faults : D → ℕ) (old new : D) (e : Fault)
    : Type 0 where
  pub fault : e ≡ Named error
  pub rose : ErrorCountRises (faults old) (faults new)

-- The data was not read to its end: either an allocation failed, and the source did not; or the
-- source failed.
abbrev pub IsReadFault : {R : Type 0} → SourceOf R → R → R → Fault → Type 0
IsReadFault source old new e =
    ((e ≡ Named OutOfMemory) × (source.faults new ≡ source.faults old))
    ⊎ HasFailed ReadingFailed source.faults old new e

-- All unread data is read and written to the output, without a flush. After an error, either an
-- allocation failed before anything was read, or a device failed. The output then received a prefix
-- of the unread data, which is also a prefix of the data that was read.
pub record Copies {R O : Type 0} (reader : RereaderCall R) (out : SinkCall O) (second : List ℕ)
    (answer : Result ⊤ Fault) : Type 0 where
  pub read : OnOk answer (ReadsWhole reader.source reader.old reader.new second)
  pub since : OnOk answer (KnownBytesAre (reader.source.since reader.new) second)
  pub received : OnOk answer (SinkReceives out second)
  pub no_new_fault : OnOk answer (SinkHasNoNewFault out)
  pub failed : IfErr answer (λ e.
      ((e ≡ Named OutOfMemory) × (reader.new ≡ reader.old) × (out.new ≡ out.old))
      ⊎ HasFailed ReadingFailed reader.source.faults reader.old reader.new e
      ⊎ IsWritingFault out e)
  pub ahead : OnErr answer (KnownBytesAre (reader.source.ahead reader.old) second)
  pub left : OnErr answer (SourceReturnsPrefix reader)
  pub front : OnErr answer (SinkReceivesPrefix out second)
  pub prefix_read : OnErr answer ((given : List ℕ)
      × KnownBytesAre (reader.source.since reader.new) given × SinkReceivesPrefix out given)
  pub marked : reader.source.is_marked reader.new ≡ reader.source.is_marked reader.old
  pub unflushed : FlushesNothing out

-- The errors of reading a text from a source: the data could not be read to its end, or it is not UTF-8.
abbrev pub IsTextFault : {R : Type 0} → SourceOf R → R → R → Fault → Type 0
IsTextFault source old new e = IsReadFault source old new e
    ⊎ ((bytes : List ℕ) × ReadsWhole source old new bytes × ¬ (IsUtf8 bytes) × (e ≡ Named NotUtf8))

-- The errors of reading a text file. No contract says when each one occurs.
abbrev pub IsTextFileFault : Fault → Type 0
IsTextFileFault e = (e ≡ Named OutOfMemory) ⊎ (e ≡ Named ReadingFailed) ⊎ (e ≡ Named NotUtf8)

-- The result of reading and parsing a file: the result of parsing some text, or an error of reading
-- the file. It is not stated that this text is the contents of the file.
abbrev pub IsReadFromFile : {V : Type 0} → (List ℕ → Result V Fault) → Result V Fault → Type 0
IsReadFromFile read r = ((text : List ℕ) × (r ≡ read text)) ⊎ IsErrAnd r IsTextFileFault
