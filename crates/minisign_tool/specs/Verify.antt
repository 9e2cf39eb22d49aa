-- The results of the commands `verify` and `cat`.
use Rattle.std.specs.Prelude.{◌≡◌, ℕ, ◌⊎◌, true, false, List, Ok}
use Rattle.minisign.specs.Fault.{Fault}
use Rattle.minisign.specs.Members.{SourceOf}
use Rattle.minisign.specs.DeviceCalls.{RereaderCall, SinkCall, SourceCall, SinkReceivesPrefix, rereader_call}
use Rattle.minisign.specs.DeviceCalls.{source_call, no_sink}
use Rattle.minisign.specs.Records.{PublicKeyRecord, SignatureBoxRecord}
use Rattle.minisign.specs.declared.options.VerifyOptions.{VerifyOptions}
use Rattle.minisign.specs.Acceptance.{Verifier, options_of, status_lines}
use Rattle.minisign.specs.Headline.{CopyIsVouchedFor, TextsVouchFor}
use Rattle.minisign.specs.Reading.{KnownBytesAre}
use Rattle.minisign.specs.Verifying.{HasCopy, VerifyingTextsFails, read_texts}
use Rattle.minisign_tool.specs.TextFiles.{EitherFails, ReadsBoth}
use Rattle.minisign_tool.specs.declared.verify.VerifyingDevices.{VerifyingDevices}

-- The options of `verify`: status lines are written, nothing is copied, and legacy signatures are
-- rejected.
abbrev pub says_only : VerifyOptions
says_only = options_of false false false

-- The options of `cat`: status lines are written, the data is copied, and legacy signatures are
-- rejected.
abbrev pub says_and_copies : VerifyOptions
says_and_copies = options_of false true false

-- The devices of the commands `verify` and `cat`, before and after them.
pub record VerifyingCall (P Q R : Type 0) : Type 1 where
  pub pk_file : SourceCall P
  pub sig_file : SourceCall Q
  pub data_reader : RereaderCall R

-- Builds this record. Contract clauses use it.
abbrev pub verifying_call : {P Q R : Type 0} → SourceOf P → SourceOf Q → SourceOf R → (R → Type 0)
    → VerifyingDevices P Q R → VerifyingDevices P Q R → VerifyingCall P Q R
verifying_call pk_file sig_file data_reader steady old new = record {
  pk_file = source_call pk_file old.pk_file new.pk_file;
  sig_file = source_call sig_file old.sig_file new.sig_file;
  data_reader = rereader_call data_reader steady old.data_reader new.data_reader;
}

-- Nothing was written, or a prefix of the status lines of the box that the texts parse to.
abbrev pub SaysPrefix : {W : Type 0} → SinkCall W → List ℕ → List ℕ → Type 0
SaysPrefix status pk_text sig_text =
    (status.new ≡ status.old) ⊎ ((key : PublicKeyRecord) × (box : SignatureBoxRecord)
    × (read_texts pk_text sig_text ≡ Ok (key, box)) × SinkReceivesPrefix status (status_lines box))

-- The texts in both files are valid for all of the data, and Said holds for the status lines.
pub record FilesVouch {P Q R : Type 0} (accepts : Verifier) (d : VerifyingCall P Q R)
    (Said : List ℕ → Type 0) : Type 0 where
  pub pk_text : List ℕ
  pub sig_text : List ℕ
  pub message : List ℕ
  pub pk_known : KnownBytesAre (d.pk_file.source.ahead d.pk_file.old) pk_text
  pub sig_known : KnownBytesAre (d.sig_file.source.ahead d.sig_file.old) sig_text
  pub known_bytes : KnownBytesAre (d.data_reader.source.ahead d.data_reader.old) message
  pub vouched : TextsVouchFor accepts pk_text sig_text message false
  pub lines_received : Said (status_lines vouched.box)

-- In addition, the data was copied, and the texts in both files are valid for the copy.
pub record FilesVouchForCopy {P Q R O : Type 0} (accepts : Verifier) (d : VerifyingCall P Q R)
    (out : SinkCall O)
    (Said : List ℕ → Type 0) : Type 0 where
  pub verified : FilesVouch accepts d Said
  pub copied : HasCopy accepts verified.vouched.key verified.vouched.box false d.data_reader out
      verified.message
  pub copy : CopyIsVouchedFor accepts verified.pk_text verified.sig_text false out

-- A file could not be read as a text, and no data was read; or verification with the texts failed.
abbrev pub FilesFail : {P Q R W : Type 0} → Verifier → VerifyingCall P Q R → SinkCall W → Fault → Type 0
FilesFail accepts d status e =
    (EitherFails d.pk_file d.sig_file e × (d.data_reader.new ≡ d.data_reader.old) × (status.new ≡ status.old))
    ⊎ ((pk_text sig_text : List ℕ) × ReadsBoth d.pk_file d.sig_file pk_text sig_text
    × VerifyingTextsFails accepts pk_text sig_text says_only d.data_reader status no_sink e
    × SaysPrefix status pk_text sig_text)

-- A file could not be read as a text, and no data was read or copied; or verification with the texts, or
-- copying, failed.
abbrev pub FilesFailToCopy : {P Q R O W : Type 0} → Verifier → VerifyingCall P Q R → SinkCall O → SinkCall W
    → Fault
    → Type 0
FilesFailToCopy accepts d out status e =
    (EitherFails d.pk_file d.sig_file e × (d.data_reader.new ≡ d.data_reader.old) × (out.new ≡ out.old)
    × (status.new ≡ status.old))
    ⊎ ((pk_text sig_text : List ℕ) × ReadsBoth d.pk_file d.sig_file pk_text sig_text
    × VerifyingTextsFails accepts pk_text sig_text says_and_copies d.data_reader status out e
    × SaysPrefix status pk_text sig_text)
