-- The results of the command `keygen`.
use Rattle.std.specs.Prelude.{ℕ, List, None, Ok}
use Rattle.minisign.specs.DeviceCalls.{PromptCall, RandomCall, SinkCall, SinkCompletesPart}
use Rattle.minisign.specs.Generation.{IsGenuinePair, IsSealedPair, IsSealing, SealedTextsFail}
use Rattle.minisign.specs.Members.{SinkOf}
use Rattle.minisign.specs.Sealing.{OpensTo, xored_key}
use Rattle.minisign.specs.KeyTexts.{public_key_text, secret_key_text}
use Rattle.minisign.specs.Records.{PublicKeyRecord, SecretKeyRecord}
use Rattle.minisign_tool.specs.Report.{ShowsOnlyFault}

-- No keys were made, and nothing was sent except the warning and the error line.
abbrev pub ShowsNoKeys : {E Z R W P K : Type 0} → SinkOf E → E → E → (List ℕ → List ℕ) → RandomCall Z
    → PromptCall R W → SinkCall P → SinkCall K → Type 0
ShowsNoKeys sink old new public_of z p pk_sink sk_sink =
    ShowsOnlyFault sink old new (SealedTextsFail public_of z p None pk_sink sk_sink None)

-- A key pair was made from bytes of the random source, under a password that was typed twice. One
-- sink received the text of the public key, the other the text of the secret key with the default
-- comment. This text decrypts under the password to the secret key that belongs to the public key,
-- and to no other.
pub record MakesKeys {Z R W P K : Type 0} (public_of : List ℕ → List ℕ) (z : RandomCall Z)
    (p : PromptCall R W)
    (pk_sink : SinkCall P) (sk_sink : SinkCall K) : Type 0 where
  pub password : List ℕ
  pub pk : PublicKeyRecord
  pub sk : SecretKeyRecord
  pub typed : IsSealing p None (Ok password)
  pub pair : IsSealedPair public_of password z pk sk
  pub public : SinkCompletesPart pk_sink (public_key_text pk)
  pub secret : SinkCompletesPart sk_sink (secret_key_text None sk)
  pub opens : OpensTo (secret_key_text None sk) password 1 (xored_key sk password)
  pub belongs : IsGenuinePair public_of pk (xored_key sk password)
