-- The results of the command `verify-raw`.
use Rattle.std.specs.Prelude.{◌≡◌, ℕ, ◌<◌, ◌≤◌, ◌⊎◌, false, List, length, take, None}
use Rattle.minisign.specs.Fault.{Fault, Named}
use Rattle.minisign.specs.NamedFaults.{RecordTooShort, UnsupportedSignatureAlgorithm}
use Rattle.minisign.specs.DeviceCalls.{RereaderCall, SinkCall, SourceCall, SinkReceivesPrefix, no_sink}
use Rattle.minisign.specs.Records.{PublicKeyRecord, SignatureRecord, SignatureBoxRecord, ReadsPublicKey}
use Rattle.minisign.specs.Records.{ReadsSignature, IsKnownAlgorithm}
use Rattle.minisign.specs.Acceptance.{Verifier, Vouches, verified_text}
use Rattle.minisign.specs.Texts.{line}
use Rattle.minisign.specs.Reading.{IsReadFault, ReadsWhole}
use Rattle.minisign.specs.Verifying.{VerifyingFails}
use Rattle.minisign_tool.specs.TextFiles.{ReadsBoth}
use Rattle.minisign_tool.specs.Verify.{says_only}

-- The two files contain this public key and this bare signature.
pub record HoldsRaw (key_file signature_file : List ℕ) (key : PublicKeyRecord)
    (signature : SignatureRecord) : Type 0 where
  pub reads_key : ReadsPublicKey key_file key
  pub reads_signature : ReadsSignature signature_file signature
  pub known : IsKnownAlgorithm signature.algorithm

-- The first file is too short for a public key; or it contains one, and the second file contains no
-- bare signature.
abbrev pub IsFileFault : List ℕ → List ℕ → Fault → Type 0
IsFileFault key_file signature_file e =
    ((e ≡ Named RecordTooShort) × (length key_file < 42))
    ⊎ ((key : PublicKeyRecord) × ReadsPublicKey key_file key
    × (((e ≡ Named RecordTooShort) × (length signature_file < 74))
    ⊎ ((e ≡ Named UnsupportedSignatureAlgorithm) × (74 ≤ length signature_file)
    × ¬ (IsKnownAlgorithm (take 2 signature_file)))))

-- The signature box of a bare signature.
abbrev pub bare_box : SignatureRecord → SignatureBoxRecord
bare_box signature = record { signature = signature; comments = None }

-- The two files contain a public key and a bare signature that is valid for the digest of the
-- message under this key.
pub record VouchesRaw (accepts : Verifier) (key_file signature_file message : List ℕ) : Type 0 where
  pub key : PublicKeyRecord
  pub signature : SignatureRecord
  pub held : HoldsRaw key_file signature_file key signature
  pub accepted : Vouches accepts key (bare_box signature) message false

-- Verification with the bytes of two files fails: they contain no key or no signature, and nothing
-- was read or written; or it failed at one of its stages with the key and the bare signature that
-- they contain. The data is not copied.
abbrev pub VerifyRawFails : {R W : Type 0} → Verifier → List ℕ → List ℕ → RereaderCall R → SinkCall W → Fault
    → Type 0
VerifyRawFails accepts key_file signature_file reader status e =
    (IsFileFault key_file signature_file e × (reader.new ≡ reader.old) × (status.new ≡ status.old))
    ⊎ ((key : PublicKeyRecord) × (signature : SignatureRecord)
    × HoldsRaw key_file signature_file key signature
    × VerifyingFails accepts key (bare_box signature) says_only reader status no_sink e)

-- Nothing was written, or a prefix of the status line.
abbrev pub SaysLinePrefix : {W : Type 0} → SinkCall W → Type 0
SaysLinePrefix status = (status.new ≡ status.old) ⊎ SinkReceivesPrefix status (line verified_text)

-- The key and the signature in both files are valid for all of the data, and Said holds for the
-- status line.
pub record RawFilesVouch {P Q R : Type 0} (accepts : Verifier) (pk_file : SourceCall P)
    (sig_file : SourceCall Q)
    (reader : RereaderCall R) (Said : List ℕ → Type 0) : Type 0 where
  pub key_file : List ℕ
  pub signature_file : List ℕ
  pub message : List ℕ
  pub held : ReadsBoth pk_file sig_file key_file signature_file
  pub read : ReadsWhole reader.source reader.old reader.new message
  pub vouched : VouchesRaw accepts key_file signature_file message
  pub line_received : Said (line verified_text)

-- A file was not read whole, and no data was read; if it is the first, the second is unchanged. Or
-- verification with the bytes of both failed.
abbrev pub RawFilesFail : {P Q R W : Type 0} → Verifier → SourceCall P → SourceCall Q → RereaderCall R
    → SinkCall W
    → Fault → Type 0
RawFilesFail accepts pk_file sig_file reader status e =
    (((IsReadFault pk_file.source pk_file.old pk_file.new e × (sig_file.new ≡ sig_file.old))
    ⊎ ((key_file : List ℕ) × ReadsWhole pk_file.source pk_file.old pk_file.new key_file
    × IsReadFault sig_file.source sig_file.old sig_file.new e)) × (reader.new ≡ reader.old)
    × (status.new ≡ status.old))
    ⊎ ((key_file signature_file : List ℕ) × ReadsBoth pk_file sig_file key_file signature_file
    × VerifyRawFails accepts key_file signature_file reader status e × SaysLinePrefix status)
