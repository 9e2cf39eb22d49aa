-- Lemmas about decrypting secret keys, and about the key that a text gives. The functions agree with the
-- relations. Other lemmas are about the result of decryption with a given or a typed password, and about the
-- key that a text gives for signing.
use Rattle.std.proofs.Common.{◌≡◌, ℕ, Bool, true, false, not, bytes_eq, List, Option, None, refl, sym, ap}
use Rattle.std.proofs.Common.{◌∙◌, is_ok, true≢false, Result, Ok, Err, IsOk, ◌⊎◌, Some, IfOk, IfErr, inl, inr}
use Rattle.std.proofs.Common.{[], IfSome, option_map}
use Rattle.minisign.proofs.Common.{result_err, bytes_eq-Decides, Fault, without_value, NamedFault}
use Rattle.minisign.proofs.Common.{WorkTooHigh, Numbers, PromptCall, Named, ConversationEnds, password_of}
use Rattle.minisign.proofs.Common.{OutOfMemory, option_map_or, result_ok}
use Rattle.minisign.specs.Records.{SecretKeyRecord}
use Rattle.minisign.specs.KeyTexts.{read_secret_key}
use Rattle.minisign.specs.Sealing.{allowed_work, checksum_of, is_within, key_limits, no_kdf, open_sealed}
use Rattle.minisign.specs.Sealing.{restored_key, scrypt_kdf, sealed_by_scrypt, unencrypted_key, xored_key}
use Rattle.minisign.specs.Sealing.{wants_password, IsOpened, IsUnencryptedText, open_key}
use Rattle.minisign.specs.Sealing.{read_unencrypted_key, IsOpening, opening_steps, IsOpenedOrNoMemory}
use Rattle.minisign.specs.Sealing.{is_sealed_text, key_with_password}
use Rattle.minisign.specs.Texts.{IsReading, and_then, require}
use Rattle.minisign.proofs.ReadTexts.{passed, read_before, same_end, same_value}
use Rattle.minisign.proofs.SecretKeyTexts.{read_as}
use Rattle.minisign.specs.Signing.{GivesKey, IsKeyOf}

-- A value is not an error.
pub no_fault : {V : Type 0} (r : Result V Fault) → IsOk r → result_err r ≡ None
no_fault (Ok v) _ = refl
no_fault (Err e) ok = absurd (true≢false (sym ok))

-- A key is accepted as encrypted with scrypt exactly if it names scrypt.
sealed_only_if : (k l : SecretKeyRecord) → sealed_by_scrypt k ≡ Ok l → (k ≡ l) × (k.kdf ≡ scrypt_kdf)
sealed_only_if k l h =
    let first = passed _ _ _ l h in
    let second = passed _ _ _ l first.1 in
    (same_value k l second.1, (bytes_eq-Decides _ _).0 second.0)

pub sealed_if : (k : SecretKeyRecord) → k.kdf ≡ scrypt_kdf → sealed_by_scrypt k ≡ Ok k
sealed_if k h = rw h refl

-- If two checks succeed, the result is their value.
both_passed : {V : Type 0} (a b : Bool) (e f : NamedFault) (v : V)
    → Ok tt ≡ without_value (require a e (require b f (Ok v))) → require a e (require b f (Ok v)) ≡ Ok v
both_passed true true e f v h = refl
both_passed true false e f v h = cc h
both_passed false b e f v h = cc h

pub sealed_passed : (k : SecretKeyRecord) → Ok tt ≡ without_value (sealed_by_scrypt k)
    → sealed_by_scrypt k ≡ Ok k
sealed_passed k h = both_passed _ _ _ _ k h

pub unencrypted_passed : (k : SecretKeyRecord) → Ok tt ≡ without_value (unencrypted_key k)
    → unencrypted_key k ≡ Ok k
unencrypted_passed k h = both_passed _ _ _ _ k h

-- A key that is returned after the checksum test is unchanged, and its checksum matches.
restored_only_if : (k v : SecretKeyRecord) → restored_key k ≡ Ok v → (k ≡ v) × (k.checksum ≡ checksum_of k)
restored_only_if k v h =
    let (same, is) = passed _ _ _ v h in
    (same_value k v is, (bytes_eq-Decides _ _).0 same)

-- If an encrypted key decrypts, its limits are allowed and within the bound, and its checksum matches
-- after decryption.
opened_only_if : (k v : SecretKeyRecord) (password : List ℕ) (bound : Option ℕ) → open_sealed k password bound
    ≡ Ok v
    → IsOk (allowed_work k bound) × (xored_key k password ≡ v) × (v.checksum ≡ checksum_of v)
opened_only_if k v _ _ h =
    let (w, work, restored) = read_before _ _ v h in
    let (is, checksum) = restored_only_if _ v restored in
    (ap is_ok work, is, rw is at checksum)

-- If the limits are allowed and the checksum matches, a key decrypts for each bound that its p does
-- not exceed, and the error for all other bounds is WorkTooHigh.
pub opened_within : (k : SecretKeyRecord) (password : List ℕ) (bound : Option ℕ) (v : Numbers)
    → key_limits k ≡ Ok v
    → (xored_key k password).checksum ≡ checksum_of (xored_key k password)
    → open_sealed k password bound ≡ require (is_within bound v.p) WorkTooHigh (Ok (xored_key k password))
opened_within k password bound v allowed h =
    let checksum = (bytes_eq-Decides (xored_key k password).checksum _).1 h in
    rw (allowed, checksum) (by_cases (is_within bound v.p))
  where
    by_cases : (b : Bool) → and_then (require b WorkTooHigh (Ok v)) (λ _. Ok (xored_key k password))
        ≡ require b WorkTooHigh (Ok (xored_key k password))
    by_cases true = refl
    by_cases false = refl

-- If the work is allowed and the checksum matches after decryption, the key decrypts.
pub opened_from_parts : (k v : SecretKeyRecord) (password : List ℕ) (bound : Option ℕ) (w : Numbers)
    → v ≡ xored_key k password
    → allowed_work k bound ≡ Ok w → restored_key v ≡ Ok v → open_sealed k password bound ≡ Ok v
opened_from_parts k v password _ w is work restored = ap
    (λ r. and_then r (λ _. restored_key (xored_key k password))) work ∙ ap restored_key (sym is) ∙ restored

-- If a text parses to a key, the result of sealed_by_scrypt for the text is that for the key.
pub sealed_text : (text : List ℕ) (k : SecretKeyRecord) (r : Result SecretKeyRecord Fault)
    → read_secret_key text ≡ Ok k → sealed_by_scrypt k ≡ r → and_then (read_secret_key text) sealed_by_scrypt
    ≡ r
sealed_text _ k r read of_key = ap (λ x. and_then x sealed_by_scrypt) read ∙ of_key

-- A text that does not parse as a secret key has the same error when an encrypted key is expected.
pub unread_text : (text : List ℕ) (e : Fault) → read_secret_key text ≡ Err e
    → and_then (read_secret_key text) sealed_by_scrypt ≡ Err e
unread_text _ e read = ap (λ x. and_then x sealed_by_scrypt) read

-- If a text contains a key that is encrypted with scrypt, decrypting the text is decrypting this key.
pub open_text : (text password : List ℕ) (bound : Option ℕ) (k : SecretKeyRecord)
    → and_then (read_secret_key text) sealed_by_scrypt ≡ Ok k → open_key text password bound
    ≡ open_sealed k password bound
unfolding open_key
open_text _ password bound k read = ap (λ x. and_then x (λ l. open_sealed l password bound)) read

-- If a text contains no key that is encrypted with scrypt, decrypting it fails with the same error.
pub unopened_text : (text password : List ℕ) (bound : Option ℕ) (e : Fault)
    → and_then (read_secret_key text) sealed_by_scrypt ≡ Err e → open_key text password bound ≡ Err e
unfolding open_key
unopened_text _ password bound e read = ap (λ x. and_then x (λ l. open_sealed l password bound)) read

text_opens : (text password : List ℕ) (bound : Option ℕ) (v : SecretKeyRecord) → open_key text password bound
    ≡ Ok v → IsOpened text password bound v
unfolding open_key
text_opens _ password bound v h =
    let (k, sealed, opened) = read_before _ _ v h in
    let (l, read, taken) = read_before _ _ k sealed in
    let (same, kdf) = sealed_only_if l k taken in
    let (allowed, is, restored) = opened_only_if l v _ _
    (ap (λ m. open_sealed m password bound) same ∙ opened) in
    record {
      sealed = l;
      read = ((read_as _).value l).0 read;
      kdf = kdf;
      allowed = allowed;
      key = sym is;
      restored = restored;
    }

some_work : (r : Result Numbers Fault) → IsOk r → (w : Numbers) × (r ≡ Ok w)
some_work (Ok w) _ = (w, refl)
some_work (Err e) ok = absurd (true≢false (sym ok))

opens_text : (text password : List ℕ) (bound : Option ℕ) (v : SecretKeyRecord)
    → IsOpened text password bound v → open_key text password bound ≡ Ok v
opens_text text _ _ v h =
    let read = ((read_as text).value h.sealed).1 h.read in
    let (w, work) = some_work _ h.allowed in
    open_text _ _ _ _ (sealed_text _ _ _ read (sealed_if _ h.kdf))
    ∙ opened_from_parts _ v _ _ w h.key work (rw ((bytes_eq-Decides _ _).1 h.restored) refl)

-- The function open_key agrees with the relation IsOpened.
pub opened_as : (text password : List ℕ) (bound : Option ℕ)
    → IsReading (IsOpened text password bound) (open_key text password bound)
opened_as _ _ _ = record { value = λ v. (text_opens _ _ _ v, opens_text _ _ _ v) }

-- A key is accepted as never encrypted exactly if it names no key derivation and its checksum matches.
pub unencrypted_if : (k : SecretKeyRecord) → k.kdf ≡ no_kdf → k.checksum ≡ checksum_of k
    → unencrypted_key k ≡ Ok k
unencrypted_if k none same =
    rw ((bytes_eq-Decides k.kdf _).1 none, (bytes_eq-Decides k.checksum _).1 same) refl

unencrypted_only_if : (k l : SecretKeyRecord) → unencrypted_key k ≡ Ok l → (k ≡ l) × (k.kdf ≡ no_kdf)
    × (k.checksum ≡ checksum_of k)
unencrypted_only_if k l h =
    let kdf = passed _ _ _ l h in
    let checksum = passed _ _ _ l kdf.1 in (
      same_value k l checksum.1,
      (bytes_eq-Decides _ _).0 kdf.0,
      (bytes_eq-Decides _ _).0 checksum.0,
    )

pub unencrypted_text : (text : List ℕ) (k : SecretKeyRecord) (r : Result SecretKeyRecord Fault)
    → read_secret_key text ≡ Ok k → unencrypted_key k ≡ r → read_unencrypted_key text ≡ r
unfolding read_unencrypted_key
unencrypted_text _ k r read of_key = ap (λ x. and_then x unencrypted_key) read ∙ of_key

-- A text that does not parse as a secret key has the same error when an unencrypted key is expected.
pub unread_unencrypted : (text : List ℕ) (e : Fault) → read_secret_key text ≡ Err e
    → read_unencrypted_key text ≡ Err e
unfolding read_unencrypted_key
unread_unencrypted _ e read = ap (λ x. and_then x unencrypted_key) read

text_is_unencrypted : (text : List ℕ) (v : SecretKeyRecord) → read_unencrypted_key text ≡ Ok v
    → IsUnencryptedText text v
unfolding read_unencrypted_key
text_is_unencrypted _ v h =
    let (k, read, taken) = read_before _ _ v h in
    let (same, kdf, checksum) = unencrypted_only_if k v taken in
    record {
      read = ((read_as _).value v).0 (read ∙ ap Ok same);
      kdf = ap (λ l. l.kdf) (sym same) ∙ kdf;
      checksum = rw same at checksum;
    }

-- The function read_unencrypted_key agrees with the relation IsUnencryptedText.
pub unencrypted_as : (text : List ℕ) → IsReading (IsUnencryptedText text) (read_unencrypted_key text)
unencrypted_as _ = record {
  value = λ v. (
    text_is_unencrypted _ v,
    λ h. unencrypted_text _ v _ (((read_as _).value v).1 h.read) (unencrypted_if v h.kdf h.checksum),
  );
}

-- If a text parses to a key, read_unencrypted_key of the text has the result of unencrypted_key of the
-- key.
module _ (text : List ℕ) (k : SecretKeyRecord) (read : Ok k ≡ read_secret_key text) where
  pub unencrypted_refused : (e : Fault) → Err e ≡ without_value (unencrypted_key k)
      → Err e ≡ read_unencrypted_key text
  unencrypted_refused e h = sym (unencrypted_text _ k _ (sym read) (same_end _ e h))

  pub unencrypted_value : Ok tt ≡ without_value (unencrypted_key k) → Ok k ≡ read_unencrypted_key text
  unencrypted_value h = sym (unencrypted_text _ k _ (sym read) (unencrypted_passed k h))

-- A text that no password decrypts is rejected with the prompt unchanged, whether a password is
-- given or not.
pub closed_opening : {R W : Type 0} (p : PromptCall R W) (given : Option (List ℕ)) (text : List ℕ)
    (bound : Option ℕ) (e : Fault)
    → p.new ≡ p.old → and_then (read_secret_key text) sealed_by_scrypt ≡ Err e
    → IsOpening p given text bound (Err e)
closed_opening p (Some _) _ _ e same refused =
    (same, inl (sym (unopened_text _ _ _ e refused)))
closed_opening p None _ _ e same refused = inl (refused, same)

-- Decrypting a parsed key with a typed password satisfies IsOpening.
pub asked_opening : {R W : Type 0} (p : PromptCall R W) (text : List ℕ) (bound : Option ℕ)
    (k : SecretKeyRecord) (r : Result SecretKeyRecord Fault)
    → and_then (read_secret_key text) sealed_by_scrypt ≡ Ok k
    → IfOk r (λ v. (bytes : List ℕ) × (password : List ℕ) × (password_of bytes ≡ Ok password)
    × (open_sealed k password bound ≡ Ok v)
    × ConversationEnds p (opening_steps k bound bytes) (Ok tt))
    → IfErr r (λ e. (bytes : List ℕ) × ConversationEnds p (opening_steps k bound bytes) (Err e))
    → IsOpening p None text bound r
asked_opening p _ _ k (Ok v) read (bytes, password, typed, opens, ended) _ =
    (k, bytes, password, read, typed, open_text _ _ _ k read ∙ opens, ended)
asked_opening p _ _ k (Err e) read _ (bytes, stopped) = inr (k, bytes, read, stopped)

-- Decrypting a parsed key with a given password satisfies IsOpening.
pub given_opening : {R W : Type 0} (p : PromptCall R W) (password text : List ℕ) (bound : Option ℕ)
    (k : SecretKeyRecord) (r : Result SecretKeyRecord Fault)
    → p.new ≡ p.old → and_then (read_secret_key text) sealed_by_scrypt ≡ Ok k
    → (r ≡ open_sealed k password bound) ⊎ ((r ≡ Err (Named OutOfMemory)) × IsOk (allowed_work k bound))
    → IsOpening p (Some password) text bound r
given_opening p _ _ _ k r same read (inl is) =
    (same, inl (is ∙ sym (open_text _ _ _ k read)))
given_opening p _ _ _ k r same read (inr memory) = (same, inr (memory.0, rw read memory.1))

-- With a given password, the result of decryption is that of open_key or out of memory.
pub headline_of : {R W : Type 0} (p : PromptCall R W) (given : Option (List ℕ)) (text : List ℕ)
    (bound : Option ℕ) (r : Result SecretKeyRecord Fault)
    → IsOpening p given text bound r
    → IfSome given (λ p. IsOpenedOrNoMemory text bound r (open_key text p bound))
headline_of p None _ _ r h = tt
headline_of p (Some _) _ _ r h = h.1

-- is_sealed_text is a function of the result of parsing the text.
is_sealed : (text : List ℕ) (r : Result SecretKeyRecord Fault) → read_secret_key text ≡ r
    → is_sealed_text text ≡ option_map_or wants_password (result_ok r) false
unfolding is_sealed_text
is_sealed _ r read = ap (λ x. option_map_or wants_password (result_ok x) false) read

module _ {R W : Type 0} (p : PromptCall R W) (given : Option (List ℕ)) (text : List ℕ)
    (r : Result SecretKeyRecord Fault) where
  -- If the key names a key derivation, decrypting the text satisfies GivesKey.
  pub sealed_key : (k : SecretKeyRecord) → read_secret_key text ≡ Ok k → bytes_eq k.kdf no_kdf ≡ false
      → IsOpening p given text None r → GivesKey p given text r
  sealed_key k read other h = inl (is_sealed _ _ read ∙ ap not other, h)

  -- If the key names no key derivation, reading it as an unencrypted key satisfies GivesKey.
  pub unsealed_key : (k : SecretKeyRecord) → read_secret_key text ≡ Ok k → bytes_eq k.kdf no_kdf ≡ true
      → p.new ≡ p.old
      → r ≡ read_unencrypted_key text → GivesKey p given text r
  unsealed_key k read none same h = inr (is_sealed _ _ read ∙ ap not none, same, h)

-- A given password leaves the prompt unchanged.
pub untouched : {P R W : Type 0} (p : PromptCall R W) (bytes : P → List ℕ) (given : Option P) (text : List ℕ)
    (r : Result SecretKeyRecord Fault)
    → GivesKey p (option_map bytes given) text r → IfSome given (λ _. p.new ≡ p.old)
untouched p _ None _ r h = tt
untouched p _ (Some _) _ r (inl (_, (same, h))) = same
untouched p _ (Some _) _ r (inr (_, same, h)) = same

-- The error of a text that does not parse as a key satisfies GivesKey.
pub unread_key : {R W : Type 0} (p : PromptCall R W) (given : Option (List ℕ)) (text : List ℕ) (e : Fault)
    → p.new ≡ p.old
    → read_secret_key text ≡ Err e → GivesKey p given text (Err e)
unread_key p _ _ e same read = inr (is_sealed _ _ read, same, sym (unread_unencrypted _ e read))

-- With a given password, the result is that of key_with_password or out of memory.
pub with_password : {Same : Type 0} (password text : List ℕ) (r : Result SecretKeyRecord Fault)
    → ((is_sealed_text text ≡ true) × (Same × IsOpenedOrNoMemory text None r (open_key text password None)))
    ⊎ ((is_sealed_text text ≡ false) × Same × (r ≡ read_unencrypted_key text))
    → IsOpenedOrNoMemory text None r (key_with_password text password)
with_password _ _ r (inl (sealed, (_, inl h))) = rw sealed (inl h)
with_password _ _ r (inl (sealed, (_, inr memory))) = rw sealed (inr memory)
with_password _ _ r (inr (plain, _, h)) = rw plain (inl h)

-- If the result is a key, it is the key of the given result.
given_value : (text : List ℕ) (key : SecretKeyRecord) (given : Result SecretKeyRecord Fault)
    → IsOpenedOrNoMemory text None (Ok key) given → given ≡ Ok key
given_value _ _ _ (inl is) = sym is
given_value text key given (inr memory) = absurd (cc memory.0)

-- A key that was returned, with a typed or a given password, is one that the text gives.
pub key_of_given : {R W : Type 0} (p : PromptCall R W) (given : Option (List ℕ)) (text : List ℕ)
    (key : SecretKeyRecord)
    → GivesKey p given text (Ok key) → IsKeyOf text key
key_of_given p (Some password) _ _ h =
    (password, given_value _ _ _ (with_password _ _ _ h))
key_of_given p None _ _ (inl (sealed, (k, _, password, _, _, opens, _))) =
    (password, rw sealed opens)
key_of_given p None _ _ (inr (plain, _, h)) = ([], rw plain (sym h))
