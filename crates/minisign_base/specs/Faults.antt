-- The named errors: for each one the number that programs in other languages see, its kind and its
-- text.
use Rattle.std.specs.Prelude.{ℕ, List, ◌++◌, codes}
use Rattle.minisign_base.specs.KeyIds.{key_id_text}
use Rattle.minisign_base.specs.declared.errors.ErrorKind.{ErrorKind}
use Rattle.minisign_base.specs.declared.errors.ErrorKind.TheVariants as kind
use Rattle.minisign_base.specs.declared.faults.NamedFault.{NamedFault}
use Rattle.minisign_base.specs.declared.faults.NamedFault.TheVariants as fault

-- The number, the kind, and the text of the error without its key IDs.
pub record FaultRow : Type 0 where
  pub number : ℕ
  pub kind : ErrorKind
  pub summary : List ℕ

abbrev pub row : ℕ → ErrorKind → List ℕ → FaultRow
row number kind summary = record { number = number; kind = kind; summary = summary }

abbrev pub fault_row : NamedFault → FaultRow
fault_row fault.OutOfMemory = row 7 kind.OutOfMemory (codes "out of memory")
fault_row fault.ReadingFailed = row 64 kind.Io (codes "reading failed")
fault_row fault.WritingFailed = row 65 kind.Io (codes "writing failed")
fault_row fault.GoingBackFailed = row 66 kind.Io (codes "going back failed")
fault_row fault.RandomSourceFailed = row 67 kind.RNG (codes "random source failed")
fault_row fault.RecordTooShort = row 20 kind.Io (codes "failed to fill whole buffer")
fault_row fault.NotUtf8 = row 8 kind.Io (codes "stream did not contain valid UTF-8")
fault_row fault.EndOfInput = row 68 kind.Io (codes "unexpected end of input")
fault_row fault.PasswordTooLong = row 69 kind.Misc (codes "passphrase can't exceed 1024 bytes length")
fault_row fault.PasswordsDiffer = row 70 kind.Generate (codes "passwords don't match!")
fault_row fault.ParametersTooHigh = row 40 kind.KDF (codes "scrypt parameters too high")
fault_row fault.InvalidParameters = row 41 kind.KDF (codes "invalid scrypt parameters")
fault_row fault.WorkTooHigh = row 43 kind.KDF (codes "scrypt work too high")
fault_row fault.MissingUntrustedComment = row 21 kind.Io (codes "Missing untrusted comment")
fault_row fault.MissingSignature = row 22 kind.Io (codes "Missing signature")
fault_row fault.MissingTrustedComment = row 23 kind.Io (codes "Missing trusted comment")
fault_row fault.MissingGlobalSignature = row 24 kind.Io (codes "Missing global signature")
fault_row fault.UntrustedCommentPrefix =
    row 25 kind.Verify (codes "Untrusted comment must start with: untrusted comment: ")
fault_row fault.SignatureNotBase64 = row 26 kind.Io (codes "invalid base64")
fault_row fault.TrustedCommentPrefix = row 27 kind.Verify
    (codes "Trusted comment should start with: trusted comment: ")
fault_row fault.UnsupportedSignatureAlgorithm = row 28 kind.Verify (codes "Unsupported signature algorithm")
fault_row fault.MissingPublicKeyComment = row 16 kind.Io (codes "Missing comment in public key")
fault_row fault.MissingEncodedPublicKey = row 17 kind.Io (codes "Missing encoded key in public key")
fault_row fault.PublicKeyLineLength =
    row 18 kind.Io (codes "Base64 conversion failed - was an actual public key given?")
fault_row fault.PublicKeyLineNotBase64 =
    row 19 kind.Io (codes "Base64 conversion failed - was an actual public key given?: invalid base64")
fault_row fault.BarePublicKeyLength =
    row 44 kind.Io (codes "base64 conversion failed - was an actual public key given?")
fault_row fault.BarePublicKeyNotBase64 =
    row 45 kind.Io (codes "base64 conversion failed - was an actual public key given?: invalid base64")
fault_row fault.MissingSecretKeyComment = row 33 kind.Io (codes "Missing comment in secret key")
fault_row fault.MissingEncodedSecretKey = row 34 kind.Io (codes "Missing encoded key in secret key")
fault_row fault.SecretKeyNotBase64 = row 35 kind.Encoding (codes "invalid base64")
fault_row fault.KeyMightBeEncrypted = row 36 kind.Io (codes "Key might be encrypted")
fault_row fault.KeyNotEncrypted = row 38 kind.Io (codes "Key is not encrypted")
fault_row fault.UnsupportedEncryptionAlgorithm = row 39 kind.Io (codes "Unsupported encryption algorithm")
fault_row fault.WrongPassword = row 42 kind.Verify (codes "Wrong password for that key")
fault_row fault.CorruptedKey = row 37 kind.Verify (codes "Corrupted key")
fault_row fault.EncryptedKeyRefused = row 71 kind.EncryptedKey
    (codes "Cannot sign with an encrypted secret key.")
fault_row (fault.RefusedByGivenKey _) =
    row 72 kind.Verify (codes "Could not verify signature with the provided public key ID")
fault_row (fault.DifferentKeyIds _ _) = row 29 kind.Verify
    (codes "Signature key id is different from public key")
fault_row fault.LegacyNotAccepted = row 30 kind.Verify (codes "Legacy signatures are not accepted")
fault_row fault.SignatureRefused = row 31 kind.Verify (codes "Signature verification failed")
fault_row fault.CommentSignatureRefused = row 32 kind.Verify (codes "Comment signature verification failed")
fault_row fault.TrustedCommentAbsent = row 73 kind.Misc (codes "trusted comment is not present")
fault_row fault.SignatureBoxIncomplete = row 74 kind.Misc
    (codes "Incomplete SignatureBox: trusted comment is missing")
fault_row fault.ClockIncorrect = row 75 kind.Misc (codes "system clock is incorrect")
fault_row fault.DataChanged = row 76 kind.Verify (codes "Data changed between verification and output")
fault_row fault.InvalidOutputLength = row 77 kind.KDF (codes "invalid output length")
fault_row fault.InputOrOutputFailed = row 78 kind.Io (codes "input or output failed")
fault_row fault.FormattingFailed = row 79 kind.Io (codes "an error occurred when formatting an argument")
fault_row fault.InvalidUtf8 = row 80 kind.Encoding (codes "invalid UTF-8")

-- The text of the error: the summary, except for the three errors that come first here.
abbrev pub named_text : NamedFault → List ℕ
named_text (fault.DifferentKeyIds signature key) =
    codes "Signature key id: " ++ (key_id_text signature ++
    (codes " is different from public key: " ++ key_id_text key))
named_text (fault.RefusedByGivenKey key) =
    codes "Could not verify signature with the provided public key ID: " ++ key_id_text key
named_text fault.EncryptedKeyRefused =
    codes "Cannot sign with an encrypted secret key. The key must be decrypted first. Options include: "
    ++ (codes "SecretKeyBox::into_secret_key(password), SecretKey::from_box(box, password), "
    ++ (codes "SecretKey::from_file(path, password), or use KeyPair::generate_unencrypted_keypair() "
    ++ codes "for passwordless keys."))
named_text f = (fault_row f).summary
