-- Proof that the three steps of the code compute scrypt: PBKDF2, scryptROMix of each part, PBKDF2.
use Rattle.std.proofs.Common.{◌≡◌, ℕ, ◌*◌, ◌^◌, List, ap, ◌∙◌, arith}
use Rattle.minisign_kdf.specs.Blocks.{block, joined_lists}
use Rattle.minisign_kdf.specs.Pbkdf2.{pbkdf2}
use Rattle.minisign_kdf.specs.Scrypt.{rom_mix, scrypt}

product_is : (r p : ℕ) → 128 * r * p ≡ p * 128 * r
product_is r p = grind arith

pub scrypt_is : (password salt : List ℕ) (k r p k' r' p' n len : ℕ) (b mixed out : List ℕ) → k' ≡ k → r' ≡ r
    → p' ≡ p → n ≡ 128 * r' * p' → b ≡ pbkdf2 password salt n
    → mixed ≡ joined_lists (λ i. rom_mix r' (2 ^ k') (block (128 * r') b i)) p'
    → out ≡ pbkdf2 password mixed len → out ≡ scrypt password salt (2 ^ k) r p len
unfolding scrypt
scrypt_is password salt k r p k' r' p' n len b mixed out ek er ep en eb em eo =
    let first : b ≡ pbkdf2 password salt (p * 128 * r) = eb ∙ ap (pbkdf2 password salt)
    (en ∙ (λ t. 128 * er t * ep t) ∙ product_is r p) in
    eo ∙ ap (λ (m : List ℕ). pbkdf2 password m len)
    (em ∙ (λ t. joined_lists (λ i. rom_mix (er t) (2 ^ ek t) (block (128 * er t) (first t) i)) (ep t)))
