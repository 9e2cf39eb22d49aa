-- Lemmas about the key that the text of an encrypted key gives under its password.
use Rattle.std.proofs.Common.{◌≡◌, ℕ, Bool, true, false, not, bytes_eq, List, None, inl, inr, refl, ◌∙◌}
use Rattle.std.specs.Option.{option_map_or}
use Rattle.std.specs.Result.{result_ok}
use Rattle.std.specs.declared.result.Result.{Result}
use Rattle.std.specs.declared.result.Result.TheVariants.{Ok, Err}
use Rattle.minisign.specs.Fault.{Fault, Named}
use Rattle.minisign.specs.NamedFaults.{KeyNotEncrypted, OutOfMemory, UnsupportedEncryptionAlgorithm}
use Rattle.minisign.specs.Sealing.{IsOpenedOrNoMemory, is_sealed_text, key_with_password, open_key, no_kdf}
use Rattle.minisign.specs.Sealing.{open_sealed, scrypt_kdf, sealed_by_scrypt, wants_password}
use Rattle.minisign.specs.Records.{SecretKeyRecord}
use Rattle.minisign.specs.KeyTexts.{read_secret_key}
use Rattle.minisign.specs.Texts.{and_then, require}

-- If a text decrypts under a password, it is the text of an encrypted key.
sealed_text : (text password : List ℕ) (key : SecretKeyRecord) → open_key text password None ≡ Ok key
    → is_sealed_text text ≡ true
unfolding open_key is_sealed_text
sealed_text text password key h = of (read_secret_key text) h
  where
    of_kdf : (k : SecretKeyRecord) (b : Bool)
        → and_then (require (not b) KeyNotEncrypted
        (require (bytes_eq k.kdf scrypt_kdf) UnsupportedEncryptionAlgorithm (Ok k)))
        (λ l. open_sealed l password None) ≡ Ok key
        → not b ≡ true
    of_kdf k true h = cc h
    of_kdf k false h = refl

    of : (r : Result SecretKeyRecord Fault)
        → and_then (and_then r sealed_by_scrypt) (λ l. open_sealed l password None) ≡ Ok key
        → option_map_or wants_password (result_ok r) false ≡ true
    of (Ok k) h = of_kdf k (bytes_eq k.kdf no_kdf) h
    of (Err e) h = cc h

-- The key that a call returned is the key to which the text decrypts.
pub same_key : (text password : List ℕ) (k key : SecretKeyRecord)
    → IsOpenedOrNoMemory text None (Ok k) (key_with_password text password)
    → open_key text password None ≡ Ok key → k ≡ key
same_key text password k key (inl given) opens =
    let sealed = sealed_text text password key opens in
    let opened : key_with_password text password ≡ Ok key = rw sealed opens in
    let both = given ∙ opened in
    cc both
same_key text password k key (inr memory) opens = cc memory.0

-- If a call returned no key for a text that decrypts, an allocation failed.
pub refused_memory : (text password : List ℕ) (e : Fault) (key : SecretKeyRecord)
    → IsOpenedOrNoMemory text None (Err e) (key_with_password text password)
    → open_key text password None ≡ Ok key → e ≡ Named OutOfMemory
refused_memory text password e key (inl refused) opens =
    let sealed = sealed_text text password key opens in
    let opened : key_with_password text password ≡ Ok key = rw sealed opens in
    let both = refused ∙ opened in
    cc both
refused_memory text password e key (inr memory) opens = cc memory.0
