-- The facts about a derived key that callers use: its length, and that it consists of bytes.
use Rattle.std.proofs.Common.{◌≡◌, ℕ, zero, suc, ◌+◌, ◌/◌, ◌^◌, ◌<◌, List, [], ◌∷◌, ◌++◌, length, slice_index}
use Rattle.std.proofs.Common.{All, mod-lt, lit<, subst, refl, sym, ap, ◌∙◌, arith, add-one}
use Rattle.std.proofs.lemmas.List.{length-take-le}
use Rattle.std.proofs.lemmas.List.Elements.{All-append, All-get_or, All-take}
use Rattle.std.specs.Int.{w32, to_be_bytes}
use Rattle.sha2.specs.Sha256.{digest_bytes, sha256}
use Rattle.minisign_kdf.specs.Blocks.{joined_lists}
use Rattle.minisign_kdf.specs.Hmac.{hmac}
use Rattle.minisign_kdf.specs.Pbkdf2.{pbkdf2}
use Rattle.minisign_kdf.specs.Scrypt.{scrypt}
use Rattle.minisign_kdf.proofs.Joined.{joined_lists_next, joined_lists_none, length-joined_lists}

-- HMAC-SHA-256 has 32 bytes.
pub length-hmac : (key text : List ℕ) → length (hmac key text) ≡ 32
unfolding hmac sha256 digest_bytes
length-hmac key text = refl

-- PBKDF2 and scrypt return as many bytes as were requested.
pub length-pbkdf2 : (password salt : List ℕ) (len : ℕ) → length (pbkdf2 password salt len) ≡ len
unfolding pbkdf2
length-pbkdf2 password salt len =
    let whole = length-joined_lists (λ (i : ℕ). hmac password (salt ++ to_be_bytes w32 (i + 1))) 32
    ((len + 31) / 32) (λ i. length-hmac password _) in
    length-take-le len (joined_lists (λ i. hmac password (salt ++ to_be_bytes w32 (i + 1))) ((len + 31) / 32))
    (omega (arith, whole))

pub length-scrypt : (password salt : List ℕ) (n r p len : ℕ) → length (scrypt password salt n r p len) ≡ len
unfolding scrypt
length-scrypt password salt n r p len = length-pbkdf2 password _ len

-- == Derived keys consist of bytes ==

abbrev IsByte : ℕ → Type 0
IsByte b = b < 2 ^ 8

four_are_bytes : (w x y z : ℕ) → IsByte w → IsByte x → IsByte y → IsByte z → All IsByte (w ∷ x ∷ y ∷ z ∷ [])
four_are_bytes w x y z hw hx hy hz zero d lt = hw
four_are_bytes w x y z hw hx hy hz (suc zero) d lt = hx
four_are_bytes w x y z hw hx hy hz (suc (suc zero)) d lt = hy
four_are_bytes w x y z hw hx hy hz (suc (suc (suc zero))) d lt = hz
four_are_bytes w x y z hw hx hy hz (suc (suc (suc (suc k)))) d lt = absurd (omega arith)

word_is_bytes : (n : ℕ) → All IsByte (to_be_bytes w32 n)
word_is_bytes n = four_are_bytes _ _ _ _ (mod-lt (n / 2 ^ 24) (lit< tt)) (mod-lt (n / 2 ^ 16) (lit< tt))
    (mod-lt (n / 2 ^ 8) (lit< tt)) (mod-lt n (lit< tt))

digest_is_bytes : (h : List ℕ) (n : ℕ) → All IsByte (digest_bytes h n)
unfolding digest_bytes
digest_is_bytes h zero = λ k d lt. absurd (omega arith)
digest_is_bytes h (suc n) = All-append IsByte (digest_bytes h n) (to_be_bytes w32 (slice_index h n))
    (digest_is_bytes h n)
    (word_is_bytes (slice_index h n))

hmac_is_bytes : (key text : List ℕ) → All IsByte (hmac key text)
unfolding hmac sha256
hmac_is_bytes key text = digest_is_bytes _ 8

joined_lists_are_bytes : (f : ℕ → List ℕ) (n : ℕ)
    → ((i : ℕ) → All IsByte (f i)) → All IsByte (joined_lists f n)
joined_lists_are_bytes f zero each =
    subst (All IsByte) (sym (joined_lists_none f)) (λ k d lt. absurd (omega arith))
joined_lists_are_bytes f (suc n) each =
    subst (All IsByte) (sym (joined_lists_next f n) ∙ ap (joined_lists f) (add-one n))
    (All-append IsByte (joined_lists f n) (f n) (joined_lists_are_bytes f n each) (each n))

pbkdf2_is_bytes : (password salt : List ℕ) (len : ℕ) → All IsByte (pbkdf2 password salt len)
unfolding pbkdf2
pbkdf2_is_bytes password salt len =
    All-take IsByte len _ (joined_lists_are_bytes (λ (i : ℕ). hmac password (salt ++ to_be_bytes w32 (i + 1)))
    ((len + 31) / 32) (λ i. hmac_is_bytes password _))

-- Each element of a derived key is below 256.
pub scrypt_bytes : (password salt : List ℕ) (n r p len : ℕ) (i : ℕ) → i < len
    → slice_index (scrypt password salt n r p len) i < 2 ^ 8
unfolding scrypt
scrypt_bytes password salt n r p len i lt =
    let l : i < length (scrypt password salt n r p len) = omega
    (arith, length-scrypt password salt n r p len) in
    All-get_or IsByte _ i 0 l (pbkdf2_is_bytes password _ len)
