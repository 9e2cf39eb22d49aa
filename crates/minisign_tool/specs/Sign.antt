-- The results of the command `sign`.
use Rattle.std.specs.Prelude.{◌≡◌, ℕ, ◌⊎◌, None, Ok, List}
use Rattle.minisign.specs.Members.{RandomOf, SchemeOf, SinkOf, SourceOf}
use Rattle.minisign.specs.DeviceCalls.{SinkFailsAtPart, PromptCall, RandomCall, SinkCall, SourceCall}
use Rattle.minisign.specs.DeviceCalls.{SinkReceives}
use Rattle.minisign.specs.DeviceCalls.{SinkCompletesPart, prompt_call, random_call, source_call}
use Rattle.minisign.specs.Fault.{Fault, Named}
use Rattle.minisign.specs.NamedFaults.{WritingFailed}
use Rattle.minisign.specs.Records.{SecretKeyRecord, SignatureBoxRecord}
use Rattle.minisign.specs.Acceptance.{Verifier, VouchesUnderEachKey}
use Rattle.minisign.specs.Reading.{KnownBytesAre, ReadsWhole, IsTextFault}
use Rattle.minisign.specs.SignatureText.{read_signature_box}
use Rattle.minisign.specs.Signing.{IsGenuine, given_comments, GivesKey, IsKeyOf, IsSignedText}
use Rattle.minisign.specs.Signing.{TextSigningFails}
use Rattle.minisign_tool.specs.declared.sign.SigningDevices.{SigningDevices}

-- If the key is genuine, the text parses to a box that is valid for the message under every public
-- key with the seed's key bytes and this key ID.
abbrev pub ReadsBackIfGenuine : Verifier → (List ℕ → List ℕ) → SecretKeyRecord → List ℕ → List ℕ → Type 0
ReadsBackIfGenuine accepts public_of sk message text =
    (seed : List ℕ) → IsGenuine public_of sk seed
    → (x : SignatureBoxRecord) × (read_signature_box text ≡ Ok x)
    × VouchesUnderEachKey accepts (public_of seed) sk.keynum message x

-- The devices of the command `sign`, before and after it.
pub record SigningCall (K R Z A B : Type 0) : Type 1 where
  pub sk_file : SourceCall K
  pub data_reader : SourceCall R
  pub random : RandomCall Z
  pub prompt : PromptCall A B

-- Builds this record. Contract clauses use it.
abbrev pub signing_call : {K R Z A B : Type 0} → SourceOf K → SourceOf R → RandomOf Z → SourceOf A → SinkOf B
    → SigningDevices K R Z A B → SigningDevices K R Z A B → SigningCall K R Z A B
signing_call sk_file data_reader random reader writer old new = record {
  sk_file = source_call sk_file old.sk_file new.sk_file;
  data_reader = source_call data_reader old.data_reader new.data_reader;
  random = random_call random old.random new.random;
  prompt = prompt_call reader writer old.prompt new.prompt;
}

-- The text of the secret key gave a key, with a password from the prompt if the key is encrypted.
-- All the data was read, and this is the text of the box that signing makes for it with the default
-- comments. If the key is genuine, the text parses to a box that is valid for the data.
pub record SignsText {S K R Z A B : Type 0} (s : SchemeOf S) (scheme : S) (d : SigningCall K R Z A B)
    (sk_text : List ℕ) (unix_time : ℕ) (text : List ℕ) : Type 0 where
  pub key : SecretKeyRecord
  pub message : List ℕ
  pub key_given : GivesKey d.prompt None sk_text (Ok key)
  pub read : ReadsWhole d.data_reader.source d.data_reader.old d.data_reader.new message
  pub signed : IsSignedText (s.signature_of scheme) key message (given_comments None None unix_time) d.random
      text
  pub vouched : ReadsBackIfGenuine (s.accepts scheme) (s.public_of scheme) key message text

-- The key's file was read whole, and this is the text that signing with its text makes.
pub record MakesSigned {S K R Z A B : Type 0} (s : SchemeOf S) (scheme : S) (d : SigningCall K R Z A B)
    (unix_time : ℕ) (text : List ℕ) : Type 0 where
  pub sk_text : List ℕ
  pub read : ReadsWhole d.sk_file.source d.sk_file.old d.sk_file.new sk_text
  pub signs : SignsText s scheme d sk_text unix_time text

-- The key's file contains the text of a key. If this key is genuine, the signature text is valid
-- for all of the data under every public key with the seed's key bytes and the key ID.
pub record MakesVouched {K R Z A B : Type 0} (accepts : Verifier) (public_of : List ℕ → List ℕ)
    (d : SigningCall K R Z A B) (text : List ℕ) : Type 0 where
  pub sk_text : List ℕ
  pub message : List ℕ
  pub key : SecretKeyRecord
  pub sk_text_known : KnownBytesAre (d.sk_file.source.ahead d.sk_file.old) sk_text
  pub message_known : KnownBytesAre (d.data_reader.source.ahead d.data_reader.old) message
  pub key_of_text : IsKeyOf sk_text key
  pub vouched : ReadsBackIfGenuine accepts public_of key message text

-- The signature text was not written completely: the sink received a prefix of it.
pub record WriteFails {G : Type 0} (g : SinkCall G) (text : List ℕ) (e : Fault) : Type 0 where
  pub fault : e ≡ Named WritingFailed
  pub failed : SinkFailsAtPart g text

-- A signature text was written. If the key is genuine, the text is valid for all of the data under
-- every public key with the seed's key bytes and the key ID.
abbrev pub HasWrittenVouched : {K R Z A B G : Type 0} → Verifier → (List ℕ → List ℕ) → SigningCall K R Z A B
    → SinkCall G → Type 0
HasWrittenVouched accepts public_of d g = (text : List ℕ) × MakesVouched accepts public_of d text
    × SinkReceives g text

-- The text of the box that signing makes was written and flushed, without an error.
abbrev pub HasWrittenSigned : {S K R Z A B G : Type 0} → SchemeOf S → S → SigningCall K R Z A B → SinkCall G
    → ℕ
    → Type 0
HasWrittenSigned s scheme d g unix_time = (text : List ℕ) × MakesSigned s scheme d unix_time text
    × SinkCompletesPart g text

-- No signature was made: the key's file could not be read as a text, and no other device was used; or signing
-- with the text failed.
abbrev pub NoSignature : {K R Z A B : Type 0} → SigningCall K R Z A B → Fault → Type 0
NoSignature d e =
    (IsTextFault d.sk_file.source d.sk_file.old d.sk_file.new e
    × (d.prompt.new ≡ d.prompt.old) × (d.data_reader.new ≡ d.data_reader.old) × (d.random.new ≡ d.random.old))
    ⊎ ((sk_text : List ℕ) × ReadsWhole d.sk_file.source d.sk_file.old d.sk_file.new sk_text
    × TextSigningFails d.prompt None sk_text d.data_reader d.random e)

-- The command fails: no signature was made, and nothing was written; or one was made, and its text
-- was not written completely.
abbrev pub FileSigningFails : {S K R Z A B G : Type 0} → SchemeOf S → S → SigningCall K R Z A B → SinkCall G
    → ℕ
    → Fault → Type 0
FileSigningFails s scheme d g unix_time e =
    (NoSignature d e × (g.new ≡ g.old))
    ⊎ ((text : List ℕ) × MakesSigned s scheme d unix_time text × WriteFails g text e)
