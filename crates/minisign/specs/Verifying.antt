-- The outcome of verification with a public key and a signature box, or with two texts: its stages
-- and the end of each one, success, and failure at one of the stages. The devices are the source of
-- the data, the status sink and the output sink.
use Rattle.std.specs.Prelude.{◌≡◌, ◌≢◌, ◌⊎◌, ⊤, ℕ, Bool, true, false, ◌&&◌, List, [], ◌∷◌, ◌++◌, Result, Ok}
use Rattle.std.specs.Prelude.{Err, MatchResult, IsErrAnd, if◌then◌else◌, IsSome}
use Rattle.minisign_hash.specs.Blake2b.{blake2b_digest}
use Rattle.minisign_base.specs.Fault.{Fault, Named}
use Rattle.minisign_base.specs.DeviceCalls.{Flushes, GoesBack, Marks, WritesBytes, RereaderCall, SinkCall}
use Rattle.minisign_base.specs.DeviceCalls.{SourceReturnsPrefix, IsFlushed, IsSteady, FlushesNothing}
use Rattle.minisign_base.specs.DeviceCalls.{SinkHasNoNewFault}
use Rattle.minisign_base.specs.DeviceCalls.{SourceHasNoNewFault, SinkReceives, no_sink}
use Rattle.minisign_base.specs.Steps.{EndsWith, StepsEnd}
use Rattle.minisign.specs.Acceptance.{Verifier, judge, status_lines, Vouches, signed_bytes}
use Rattle.minisign.specs.Reading.{Copies, IsReadFault, ReadsWhole, KnownBytesAre}
use Rattle.minisign.specs.Records.{PublicKeyRecord, SignatureBoxRecord, is_prehashed}
use Rattle.minisign.specs.Texts.{IsValueOrNoMemory, and_then, map_ok}
use Rattle.minisign.specs.declared.options.VerifyOptions.{VerifyOptions}
use Rattle.minisign.specs.declared.signed_data.SignedData.{SignedData}
use Rattle.minisign.specs.declared.signed_data.SignedData.TheVariants.{Digest, Message, NoData}
use Rattle.std.specs.Io.KnownBytes.{IsAtEnd}
use Rattle.minisign.specs.KeyTexts.{read_public_key}
use Rattle.minisign.specs.SignatureText.{read_signature_box}
use Rattle.minisign_base.specs.declared.faults.NamedFault.TheVariants as named

-- The stages of verification. Mark marks the current place. Read reads the data to its end, which
-- gives the bytes in its argument. Judge checks the box for a message. Report writes a text to the
-- status sink. Return goes back to the mark. Copy reads the data again, which gives the bytes in its
-- argument, and writes it to the output. Compare checks that its first argument is the digest of the
-- second. Put writes bytes to the output. Flush flushes the output.
pub data Stage : Type 0 where
  Mark : Stage
  Read : List ℕ → Stage
  Judge : Verifier → PublicKeyRecord → SignatureBoxRecord → Bool → List ℕ → Stage
  Report : List ℕ → Stage
  Return : Stage
  Copy : List ℕ → Stage
  Compare : List ℕ → List ℕ → Stage
  Put : List ℕ → Stage
  Flush : Stage

-- The devices at one point in time.
pub record Devices (R W O : Type 0) : Type 0 where
  pub reader : R
  pub status : W
  pub out : O

module _ {R W O : Type 0} (reader : RereaderCall R) (status : SinkCall W) (out : SinkCall O) where
  -- The reader, the status or the output is unchanged, because the stage does not use it.
  abbrev pub ReaderUnchanged : Type 0
  ReaderUnchanged = reader.new ≡ reader.old

  abbrev pub StatusUnchanged : Type 0
  StatusUnchanged = status.new ≡ status.old

  abbrev pub OutputUnchanged : Type 0
  OutputUnchanged = out.new ≡ out.old

  -- The end of a stage: its result and its effect on the devices. A failed Mark has the same error as a
  -- failed Return, GoingBackFailed.
  abbrev pub StageEnds : Stage → Result ⊤ Fault → Type 0
  StageEnds Mark answer = EndsWith (Marks reader (Ok tt)) named.GoingBackFailed (Marks reader (Err tt)) answer
      × StatusUnchanged × OutputUnchanged
  StageEnds (Read message) answer =
      (MatchResult answer (λ _. ReadsWhole reader.source reader.old reader.new message)
      (λ e. IsReadFault reader.source reader.old reader.new e × SourceReturnsPrefix reader)
      × (reader.source.is_marked reader.new ≡ reader.source.is_marked reader.old))
      × StatusUnchanged × OutputUnchanged
  StageEnds (Judge accepts pk x legacy message) answer = IsValueOrNoMemory answer
      (judge accepts pk x message legacy)
      × ReaderUnchanged × StatusUnchanged × OutputUnchanged
  StageEnds (Report text) answer =
      ((IsErrAnd answer (λ e. e ≡ Named named.OutOfMemory) × StatusUnchanged)
      ⊎ WritesBytes status text answer)
      × ReaderUnchanged × OutputUnchanged
  StageEnds Return answer =
      EndsWith (GoesBack reader (Ok tt)) named.GoingBackFailed (GoesBack reader (Err tt)) answer
      × StatusUnchanged × OutputUnchanged
  StageEnds (Copy second) answer = Copies reader out second answer × StatusUnchanged
  StageEnds (Compare digest second) answer =
      EndsWith (blake2b_digest 64 second ≡ digest) named.DataChanged (blake2b_digest 64 second ≢ digest)
      answer
      × ReaderUnchanged × StatusUnchanged × OutputUnchanged
  StageEnds (Put bytes) answer =
      WritesBytes out bytes answer × ReaderUnchanged × StatusUnchanged
  StageEnds Flush answer = EndsWith (Flushes out (Ok tt)) named.WritingFailed (Flushes out (Err tt)) answer
      × ReaderUnchanged × StatusUnchanged

module _ {R W O : Type 0} (reader : RereaderCall R) (status : SinkCall W) (out : SinkCall O) where
  -- These stages run in order: all succeed, or one fails and no later stage starts.
  abbrev pub StagesEnd : List Stage → Result ⊤ Fault → Type 0
  StagesEnd stages answer =
      StepsEnd
      (λ stage (old : Devices R W O) new. StageEnds (record reader { old = old.reader; new = new.reader })
      (record status { old = old.status; new = new.status }) (record out { old = old.out; new = new.out })
      stage)
      stages (record { reader = reader.old; status = status.old; out = out.old })
      (record { reader = reader.new; status = status.new; out = out.new }) answer

-- The stages that read the data. If the flag is true, the data will be read again, so the place is marked
-- first.
abbrev pub reading_stages : Bool → List ℕ → List Stage
reading_stages true message = Mark ∷ Read message ∷ []
reading_stages false message = Read message ∷ []

-- The stage that writes the status lines of a valid box, unless the flag quiet is true.
abbrev pub reporting_stages : Bool → SignatureBoxRecord → List Stage
reporting_stages true x = []
reporting_stages false x = Report (status_lines x) ∷ []

-- The stages that copy a second reading, which must have this digest.
abbrev pub second_copy_stages : List ℕ → List ℕ → List Stage
second_copy_stages digest second = Return ∷ Copy second ∷ Compare digest second ∷ Flush ∷ []

-- The stages that copy the data, if the first flag says so. The second flag is true for a prehashed
-- signature, whose data is read again; the data of a legacy signature is written from memory.
abbrev pub copying_stages : Bool → Bool → List ℕ → List ℕ → List Stage
copying_stages false hashed message second = []
copying_stages true true message second = second_copy_stages (blake2b_digest 64 message) second
copying_stages true false message second = Put message ∷ Flush ∷ []

-- The data is read again: it is to be copied, and the signature is prehashed.
abbrev pub is_reread : Bool → SignatureBoxRecord → Bool
is_reread output x = output && is_prehashed x.signature

-- All stages of verification: the data is read, the box is checked, the status lines are written,
-- and the data is copied.
abbrev pub verifying_stages : Verifier → PublicKeyRecord → SignatureBoxRecord → VerifyOptions → List ℕ
    → List ℕ
    → List Stage
verifying_stages accepts pk x options message second = reading_stages (is_reread options.output x) message
    ++ (Judge accepts pk x options.allow_legacy message
    ∷
    (reporting_stages options.quiet x
    ++ copying_stages options.output (is_prehashed x.signature) message second))

-- The bytes that are kept in memory after reading.
abbrev pub held_bytes : SignedData → List ℕ
held_bytes (Digest digest) = digest
held_bytes (Message bytes) = bytes.items
held_bytes NoData = []

-- The data that is kept of a message: its digest for a prehashed signature, the message itself for a
-- legacy signature that is allowed, and nothing for one that is not allowed.
abbrev pub HoldsSigned : SignedData → SignatureBoxRecord → Bool → List ℕ → Type 0
HoldsSigned (Digest digest) x legacy message = (is_prehashed x.signature ≡ true)
    × (digest ≡ blake2b_digest 64 message)
HoldsSigned (Message bytes) x legacy message =
    (is_prehashed x.signature ≡ false) × (bytes.items ≡ message) × (legacy ≡ true)
HoldsSigned NoData x legacy message = (is_prehashed x.signature ≡ false) × (legacy ≡ false)

-- The stages that copy the data, if the flag says so, from what was kept of it in memory.
abbrev pub held_copy_stages : Bool → SignedData → List ℕ → List Stage
held_copy_stages false signed second = []
held_copy_stages true (Digest digest) second = second_copy_stages digest second
held_copy_stages true (Message bytes) second = Put bytes.items ∷ Flush ∷ []
held_copy_stages true NoData second = []

-- The bytes that the status sink must receive for a valid box.
abbrev pub status_unless_quiet : Bool → SignatureBoxRecord → List ℕ
status_unless_quiet quiet x = if quiet then [] else status_lines x

-- The data was read to its end, which gave the message, and again from the mark to its end, which
-- gave the copy. Both have the same digest.
abbrev pub ReadsTwice : {R O : Type 0} → RereaderCall R → SinkCall O → List ℕ → List ℕ → Type 0
ReadsTwice reader out message copy = StagesEnd reader no_sink out
    (reading_stages true message ++ second_copy_stages (blake2b_digest 64 message) copy) (Ok tt)

-- The output received and flushed a copy for which the box is valid, with the same signed bytes as the
-- message. If the signature is prehashed, the copy comes from a second reading with the digest of the first.
-- If it is a legacy signature, or if the source is steady (a second reading returns the same bytes) and its
-- bytes are known, the copy is the message.
pub record HasCopy {R O : Type 0} (accepts : Verifier) (pk : PublicKeyRecord) (x : SignatureBoxRecord)
    (legacy : Bool)
    (reader : RereaderCall R) (out : SinkCall O) (message : List ℕ) : Type 0 where
  pub copy : List ℕ
  pub received : SinkReceives out copy
  pub flushed : IsFlushed out
  pub read_twice : is_prehashed x.signature ≡ true → ReadsTwice reader out message copy
  pub vouched : Vouches accepts pk x copy legacy
  pub signed_same : signed_bytes x copy ≡ signed_bytes x message
  pub legacy_same : is_prehashed x.signature ≡ false → copy ≡ message
  pub steady_same : IsSteady reader → IsSome (reader.source.ahead reader.old) → copy ≡ message

-- Verification succeeds: all the data was read, the box is valid for it, the status lines were written and
-- not flushed, and the output holds a copy if one was requested.
pub record VerifyingSucceeds {R W O : Type 0} (accepts : Verifier) (pk : PublicKeyRecord)
    (x : SignatureBoxRecord)
    (options : VerifyOptions) (reader : RereaderCall R) (status : SinkCall W) (out : SinkCall O)
    : Type 0 where
  pub message : List ℕ
  pub known_bytes : KnownBytesAre (reader.source.ahead reader.old) message
  pub vouches : Vouches accepts pk x message options.allow_legacy
  pub end : IsAtEnd (reader.source.ahead reader.new)
  pub no_new_fault : SourceHasNoNewFault reader
  pub mark : is_reread options.output x ≡ false
      → reader.source.behind reader.new ≡ reader.source.behind reader.old
  pub status_received : SinkReceives status (status_unless_quiet options.quiet x)
  pub status_no_new_fault : SinkHasNoNewFault status
  pub status_unflushed : FlushesNothing status
  pub copied : options.output ≡ true → HasCopy accepts pk x options.allow_legacy reader out message
  pub out_no_new_fault : SinkHasNoNewFault out

-- Verification fails at one of its stages, for some message and some second reading.
abbrev pub VerifyingFails : {R W O : Type 0} → Verifier → PublicKeyRecord → SignatureBoxRecord → VerifyOptions
    → RereaderCall R → SinkCall W → SinkCall O → Fault → Type 0
VerifyingFails accepts pk x options reader status out e = (message : List ℕ) × (second : List ℕ)
    × StagesEnd reader status out (verifying_stages accepts pk x options message second) (Err e)

-- The public key and the signature box in two texts, or the error of the first check that fails.
-- The public key is parsed first.
abbrev pub read_texts : List ℕ → List ℕ → Result (PublicKeyRecord × SignatureBoxRecord) Fault
read_texts pk_text sig_text =
    and_then (read_public_key pk_text) (λ key. map_ok (λ box. (key, box)) (read_signature_box sig_text))

-- The texts parse to a key and a box, and verification with these succeeds.
pub record VerifyingTextsSucceeds {R W O : Type 0} (accepts : Verifier) (pk_text sig_text : List ℕ)
    (options : VerifyOptions) (reader : RereaderCall R) (status : SinkCall W) (out : SinkCall O)
    : Type 0 where
  pub key : PublicKeyRecord
  pub box : SignatureBoxRecord
  pub key_read : read_public_key pk_text ≡ Ok key
  pub box_read : read_signature_box sig_text ≡ Ok box
  pub verified : VerifyingSucceeds accepts key box options reader status out

-- A text is rejected, or an allocation for one failed, before anything is read, reported or copied; or
-- verification fails with what the texts parse to.
abbrev pub VerifyingTextsFails : {R W O : Type 0} → Verifier → List ℕ → List ℕ → VerifyOptions
    → RereaderCall R → SinkCall W → SinkCall O → Fault → Type 0
VerifyingTextsFails accepts pk_text sig_text options reader status out e =
    (IsValueOrNoMemory (Err e) (read_texts pk_text sig_text)
    × (reader.new ≡ reader.old) × (status.new ≡ status.old) × (out.new ≡ out.old))
    ⊎ ((key : PublicKeyRecord) × (box : SignatureBoxRecord) × (read_texts pk_text sig_text ≡ Ok (key, box))
    × VerifyingFails accepts key box options reader status out e)
