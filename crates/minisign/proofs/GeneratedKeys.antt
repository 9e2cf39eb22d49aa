-- Lemmas about keys that are made of their parts, about their texts, and about generated keys.
use Rattle.std.proofs.Common.{◌≡◌, ◌^◌, ◌<◌, ℕ, List, length, None, Ok, unwrap_or, refl, sym, ap, ◌∙◌, arith}
use Rattle.std.proofs.Common.{false, ◌⊎◌, ◌+◌, Option, Some, Result, Err, IsOk, IfOk, true, not, inl, inr}
use Rattle.std.proofs.Common.{subst, w64, true≢false, bytes_eq}
use Rattle.minisign.proofs.Common.{Named, RandomCall, OutOfMemory, result_err, cost_log2, limits, numbers}
use Rattle.minisign.proofs.Common.{sealing_limits, bytes_eq-Decides, to_le_bytes, LacksByte, Fault}
use Rattle.minisign.proofs.Common.{WorkTooHigh, Numbers}
use Rattle.minisign_base.specs.Scheme.{IsBytes}
use Rattle.minisign.specs.Records.{PublicKeyRecord, SecretKeyRecord}
use Rattle.minisign.specs.Sealing.{is_encrypted, xored_key, allowed_work, checksum_of, is_within, key_limits}
use Rattle.minisign.specs.Sealing.{key_xor, open_sealed, scrypt_kdf, sealed_by_scrypt, unencrypted_key}
use Rattle.minisign.specs.Sealing.{OpensTo, open_key}
use Rattle.minisign.specs.Generation.{AreSeedAndKeynum, IsGenuinePair, IsSealedPair, OpensToPair, key_to_seal}
use Rattle.minisign.specs.Generation.{public_key_of, secret_of, unsealed_key, IsMadeText}
use Rattle.std.proofs.lemmas.Nat.{from_le_bytes-to_le_bytes_8}
use Rattle.minisign.specs.KeyTexts.{read_secret_key, secret_key_text}
use Rattle.minisign.specs.declared.making.Sealing.{Sealing}
use Rattle.minisign.proofs.SealingLimits.{sealing_numbers}
use Rattle.minisign.specs.Texts.{and_then, require}
use Rattle.minisign.proofs.Openings.{opened_within, sealed_if, unencrypted_if, unencrypted_text}

-- The scrypt parameters of a key are those for the limits that it stores.
pub limits_of_fields : (k : SecretKeyRecord) (operations memory : ℕ) → operations < 2 ^ 64 → memory < 2 ^ 64
    → k.operations_limit ≡ to_le_bytes w64 operations → k.memory_limit ≡ to_le_bytes w64 memory
    → key_limits k ≡ sealing_limits memory operations
unfolding key_limits
limits_of_fields k operations memory some more same_operations same_memory =
    rw (
      same_operations,
      same_memory,
      from_le_bytes-to_le_bytes_8 operations some,
      from_le_bytes-to_le_bytes_8 memory more,
    ) refl

-- A check without a bound returns the parameters unchanged.
unbounded : (r : Result Numbers Fault) → and_then r (λ v. Ok v) ≡ r
unbounded (Ok v) = refl
unbounded (Err e) = refl

-- Without a bound on p, the work is allowed only if the limits are.
pub work_allowed : (k : SecretKeyRecord) (l : Result Numbers Fault) → key_limits k ≡ l
    → IsOk (allowed_work k None) → IsOk l
work_allowed k l same h = rw (unbounded (key_limits k) ∙ same) at h

-- If the limits l are allowed, unwrap_or (result_err l) f is f.
pub fault_of_allowed_limits : (l : Result Numbers Fault) (e f : Fault) → IsOk l → e ≡ f
    → e ≡ unwrap_or (result_err l) f
fault_of_allowed_limits (Ok v) e f _ is = is
fault_of_allowed_limits (Err g) e f ok _ = absurd (true≢false (sym ok))

-- If encrypting a key fails, the error is that of its limits, or out of memory if they are allowed.
pub stream_fault : (k : SecretKeyRecord) (l : Result Numbers Fault) (e : Fault) → key_limits k ≡ l
    → ((e ≡ Named OutOfMemory) × IsOk (allowed_work k None)) ⊎ (allowed_work k None ≡ Err e)
    → e ≡ unwrap_or (result_err l) (Named OutOfMemory)
stream_fault k l e same (inl (memory, allowed)) =
    fault_of_allowed_limits l e _ (work_allowed k l same allowed) memory
stream_fault k l e same (inr refused) = rw (← same, ← unbounded (key_limits k), refused) refl

-- Limits that are allowed give the parameters that `numbers` computes.
allowed_limits : (memory operations : ℕ) (r : Result Numbers Fault) → sealing_limits memory operations ≡ r
    → IsOk r → r ≡ Ok (numbers memory operations)
allowed_limits _ _ (Ok v) same _ =
    ap Ok (sym (sealing_numbers _ _ v same))
allowed_limits _ _ (Err e) _ ok = absurd (true≢false (sym ok))

-- An unencrypted key is accepted as one that was never encrypted.
pub unsealed_is_unencrypted : (keynum secret : List ℕ) → unencrypted_key (unsealed_key keynum secret)
    ≡ Ok (unsealed_key keynum secret)
unfolding unsealed_key
unsealed_is_unencrypted _ _ = unencrypted_if _ refl refl

no_mismatch : (xs : List ℕ) → not (bytes_eq xs xs) ≡ false
no_mismatch xs = let same : bytes_eq xs xs ≡ true = (bytes_eq-Decides xs xs).1 refl in rw same refl

-- A key that is to be encrypted is not encrypted yet: its checksum is the right one.
pub not_encrypted_yet : (keynum secret salt : List ℕ) (operations memory : ℕ)
    → is_encrypted (key_to_seal keynum secret salt operations memory) ≡ false
unfolding key_to_seal unsealed_key
not_encrypted_yet keynum secret _ _ _ = no_mismatch (checksum_of (unsealed_key keynum secret))

-- The text of an unencrypted key satisfies IsMadeText.
pub made_unsealed : (keynum secret comment text : List ℕ) (s : Sealing) (sk : SecretKeyRecord)
    → sk ≡ unsealed_key keynum secret
    → text ≡ secret_key_text (Some comment) sk → (LacksByte 10 comment → read_secret_key text ≡ Ok sk)
    → length text ≡ length comment + 233
    → IsMadeText keynum secret None s comment text
made_unsealed _ _ comment _ s _ same written reads size = record {
  written = written ∙ ap (λ k. secret_key_text (Some comment) k) same;
  gives = λ lacks. unencrypted_text _ _ _ (reads lacks ∙ ap Ok same) (unsealed_is_unencrypted _ _);
  size = size;
}

-- The encrypted key decrypts under its password, and so does each text that parses to it.
module _ (keynum secret salt password : List ℕ) (operations memory : ℕ) (some : operations < 2 ^ 64)
    (more : memory < 2 ^ 64) (sk : SecretKeyRecord)
    (sealed : sk ≡ xored_key (key_to_seal keynum secret salt operations memory) password)
    (opened : xored_key sk password ≡ key_to_seal keynum secret salt operations memory)
    (v : Numbers) (allowed : sealing_limits memory operations ≡ Ok v) where
  kdf : sk.kdf ≡ scrypt_kdf
  unfolding key_xor key_to_seal
  kdf = ap (λ k. k.kdf) sealed

  named : key_limits sk ≡ Ok v
  unfolding key_xor key_to_seal
  named = limits_of_fields sk _ _ some more (ap (λ k. k.operations_limit) sealed)
      (ap (λ k. k.memory_limit) sealed) ∙ allowed

  restored : (xored_key sk password).checksum ≡ checksum_of (xored_key sk password)
  unfolding key_to_seal unsealed_key
  restored = subst (λ (k : SecretKeyRecord). k.checksum ≡ checksum_of k) (sym opened) refl

  pub sealed_opens : (bound : Option ℕ)
      → and_then (sealed_by_scrypt sk) (λ k. open_sealed k password bound)
      ≡ require (is_within bound v.p) WorkTooHigh (Ok (xored_key sk password))
  sealed_opens bound = ap (λ r. and_then r (λ k. open_sealed k password bound)) (sealed_if sk kdf)
      ∙ opened_within sk _ _ v named restored

  pub text_opens : (text : List ℕ) → read_secret_key text ≡ Ok sk
      → OpensTo text password v.p (xored_key sk password)
  unfolding open_key
  text_opens _ read = λ bound. ap
      (λ r. and_then (and_then r sealed_by_scrypt) (λ k. open_sealed k password bound)) read
      ∙ sealed_opens _

-- The text of an encrypted key satisfies IsMadeText.
pub made_sealed : (keynum secret password comment text : List ℕ) (s : Sealing) (sk : SecretKeyRecord)
    → s.operations_limit < 2 ^ 64 → s.memory_limit < 2 ^ 64
    → sk ≡ xored_key (key_to_seal keynum secret s.salt s.operations_limit s.memory_limit) password
    → xored_key sk password ≡ key_to_seal keynum secret s.salt s.operations_limit s.memory_limit
    → IsOk (sealing_limits s.memory_limit s.operations_limit)
    → text ≡ secret_key_text (Some comment) sk → (LacksByte 10 comment → read_secret_key text ≡ Ok sk)
    → length text ≡ length comment + 233
    → IsMadeText keynum secret (Some password) s comment text
made_sealed keynum secret password comment text s sk some more sealed opened allowed written reads size =
    record {
      written = written ∙ ap (λ k. secret_key_text (Some comment) k) sealed;
      gives = λ lacks. (rw opened at (text_opens _ _ _ _ _ _ some more _ sealed opened _
          (allowed_limits _ _ _ refl allowed) _ (reads lacks)));
      size = size;
    }

-- A statement about a returned text follows from three clauses about the text.
pub of_text : {T E A : Type 0} (r : Result T E) (P Q S V : T → Type 0) → IfOk r P → (A → IfOk r Q) → IfOk r S
    → ((t : T) → P t → (A → Q t) → S t → V t) → IfOk r V
of_text (Ok t) P Q S V p q s f = f t p q s
of_text (Err e) P Q S V p q s f = tt

-- 32 random bytes and 8 more are a seed and a key ID.
pub seed_and_keynum : (seed keynum : List ℕ) → IsBytes seed × (length seed ≡ 32)
    → IsBytes keynum × (length keynum ≡ 8) → AreSeedAndKeynum seed keynum
seed_and_keynum _ _ (seed_bytes, seed_length) (keynum_bytes, keynum_length) =
    record {
      seed_length = seed_length;
      seed_bytes = seed_bytes;
      keynum_length = keynum_length;
      keynum_bytes = keynum_bytes;
    }

-- A public key and a decrypted secret key that are made of the same seed and key ID belong together.
pair_of_parts : (public_of : List ℕ → List ℕ) (seed keynum : List ℕ) (pk : PublicKeyRecord)
    (sk : SecretKeyRecord) → AreSeedAndKeynum seed keynum → pk ≡ public_key_of public_of seed keynum
    → sk.keynum ≡ keynum → sk.secret ≡ secret_of public_of seed → is_encrypted sk ≡ false
    → IsGenuinePair public_of pk sk
pair_of_parts _ seed keynum _ _ lengths public same_keynum same_secret opened = record {
  seed = seed;
  genuine = record {
    seed_length = lengths.seed_length;
    seed_bytes = lengths.seed_bytes;
    secret = same_secret;
    opened = opened;
  };
  key = ap (λ k. k.key) public;
  keynum = ap (λ k. k.keynum) public ∙ sym same_keynum;
}

-- The two keys of an unencrypted pair belong together.
pub unsealed_pair : (public_of : List ℕ → List ℕ) (seed keynum : List ℕ) (pk : PublicKeyRecord)
    (sk : SecretKeyRecord) → AreSeedAndKeynum seed keynum
    → pk ≡ public_key_of public_of seed keynum → sk ≡ unsealed_key keynum (secret_of public_of seed)
    → IsGenuinePair public_of pk sk
unfolding unsealed_key
unsealed_pair _ _ keynum pk sk lengths public secret =
    pair_of_parts _ _ _ pk sk lengths public (ap (λ k. k.keynum) secret)
    (ap (λ k. k.secret) secret) (ap (λ k. is_encrypted k) secret)

-- The default limits are allowed, and give N = 2 ^ 15, r = 8 and p = 1.
default_limits : sealing_limits 33554432 1048576 ≡ Ok (record { n_log2 = 15; r = 8; p = 1 })
unfolding limits numbers cost_log2
default_limits = refl

-- With the default limits, only an allocation can fail.
pub only_memory : unwrap_or (result_err (sealing_limits 33554432 1048576)) (Named OutOfMemory)
    ≡ Named OutOfMemory
only_memory = ap (λ l. unwrap_or (result_err l) (Named OutOfMemory)) default_limits

-- An encrypted pair decrypts under its password.
pub sealed_pair : {Z : Type 0} (public_of : List ℕ → List ℕ) (password : List ℕ) (z : RandomCall Z)
    (pk : PublicKeyRecord) (sk : SecretKeyRecord)
    → IsSealedPair public_of password z pk sk → OpensToPair public_of password pk sk
unfolding key_to_seal unsealed_key
sealed_pair public_of password z pk sk pair =
    let sealed = pair.sealed in
    let secret = secret_of public_of pair.seed in
    record {
      opens = sealed_opens pair.keynum secret pair.salt password 1048576 33554432 (omega arith) (omega arith)
          sk sealed.secret sealed.opened _ default_limits None;
      pair = pair_of_parts _ _ _ pk _ pair.lengths
          sealed.public (ap (λ k. k.keynum) sealed.opened) (ap (λ k. k.secret) sealed.opened)
          (ap (λ k. is_encrypted k) sealed.opened
          ∙ not_encrypted_yet pair.keynum secret pair.salt 1048576 33554432);
      texts = text_opens pair.keynum secret pair.salt password 1048576 33554432 (omega arith) (omega arith)
          sk sealed.secret sealed.opened _ default_limits;
    }
