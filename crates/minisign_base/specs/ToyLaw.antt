-- Proof that the toy scheme obeys the law of signature schemes: it accepts every signature that it made,
-- whatever its table is. The law is a field of the trait `Scheme`, so its proof is in specs/.
use Rattle.std.proofs.Common.{◌≡◌, ℕ, Option, None, Some, List, ◌++◌, length, drop, ◌||◌, true, false, refl}
use Rattle.std.proofs.Common.{arith}
use Rattle.std.proofs.lemmas.List.{drop_at, length-replicate, length-take-le, take_at}
use Rattle.std.proofs.lemmas.Slice.Eq.{bytes_eq-Decides}
use Rattle.minisign_base.specs.Scheme.{IsBytes, AreRandomBytes}
use Rattle.minisign_base.specs.Toy.{toy_public_of, toy_signature_of, toy_accepts, toy_accepts_with, is_listed}
use Rattle.minisign_base.specs.Toy.{random_half, checked_half}
use Rattle.minisign_base.specs.declared.toy.Triple.{Triple}

-- The random half has 32 bytes.
length-random_half : (z : Option (List ℕ)) → AreRandomBytes z → length (random_half z) ≡ 32
length-random_half None h = length-replicate {A = ℕ} 32 0
length-random_half (Some z) h = length-take-le 32 z (omega (arith, h.1))

-- Without a table, the scheme accepts the signature of a message with a seed under the public key of this
-- seed, because the checked half of the signature is the one that it computes itself.
accepts_own_signature_without_table : (seed m : List ℕ) (z : Option (List ℕ)) → IsBytes seed
    → length seed ≡ 32 → IsBytes m → AreRandomBytes z
    → toy_accepts m (toy_public_of seed) (toy_signature_of m (seed ++ toy_public_of seed) z) ≡ true
accepts_own_signature_without_table seed m z bytes len message nonce =
    let random = random_half z in
    let size = length-random_half z nonce in
    let key = toy_public_of seed in
    let checked = checked_half random (drop 32 (seed ++ key)) m in
    rw (take_at random checked 32 size, drop_at random checked 32 size, drop_at seed key 32 len)
    ((bytes_eq-Decides (checked_half random key m) (checked_half random key m)).1 refl)

-- With any table, the scheme accepts the signature of a message with a seed under the public key of this
-- seed.
pub accepts_own_signature : (table : List Triple) (seed m : List ℕ) (z : Option (List ℕ)) → IsBytes seed
    → length seed ≡ 32
    → IsBytes m → AreRandomBytes z
    → toy_accepts_with table m (toy_public_of seed) (toy_signature_of m (seed ++ toy_public_of seed) z) ≡ true
accepts_own_signature table seed m z bytes len message nonce =
    let key = toy_public_of seed in
    let signature = toy_signature_of m (seed ++ key) z in
    rw (accepts_own_signature_without_table seed m z bytes len message nonce)
    (elim (is_listed table m key signature) as (λ listed. (listed || true) ≡ true)
    [ true ↦ refl | false ↦ refl ])
