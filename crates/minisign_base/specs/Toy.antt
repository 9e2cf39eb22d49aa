-- The toy scheme, for tests. It obeys the law of signature schemes: it accepts the signatures that it makes.
-- But it protects nothing: everybody who has the public key can sign.
use Rattle.std.specs.Prelude.{ℕ, ◌+◌, ◌%◌, ◌==◌, ◌&&◌, ◌||◌, Bool, Option, Some, None, List, [], ◌∷◌, ◌++◌}
use Rattle.std.specs.Prelude.{map, take, drop, replicate, bit_xor, if◌then◌else◌}
use Rattle.std.specs.List.{list_any, range_with_len}
use Rattle.std.specs.Simd.Lanes.{zip2}
use Rattle.std.specs.Str.{bytes_eq}
use Rattle.minisign_base.specs.declared.toy.Triple.{Triple}

-- The public key of a seed: each byte xored with 0x5a.
abbrev pub toy_public_of : List ℕ → List ℕ
toy_public_of seed = map (λ b. bit_xor b 0x5a) seed

-- The xor of the bytes whose index is i modulo 32. The first byte has index j.
abbrev pub column : ℕ → ℕ → List ℕ → ℕ
column i j [] = 0
column i j (b ∷ m) = bit_xor (if j % 32 == i then b else 0) (column i (j + 1) m)

-- The folded message, 32 bytes: byte i is the xor of the message's bytes i, i + 32, i + 64 and so
-- on.
unfoldable pub fold_of : List ℕ → List ℕ
fold_of m = map (λ i. column i 0 m) (range_with_len 0 32)

-- The random half of a signature: the first 32 of 64 random bytes, or zeros.
abbrev pub random_half : Option (List ℕ) → List ℕ
random_half (Some z) = take 32 z
random_half None = replicate 32 0

-- The second half of a signature, which the check computes again: the xor of the random half, the public key
-- and the folded message.
abbrev pub checked_half : List ℕ → List ℕ → List ℕ → List ℕ
checked_half random key m = zip2 bit_xor (zip2 bit_xor random key) (fold_of m)

-- A signature: the random half and the second half. The public key is the last 32 of the secret
-- bytes.
abbrev pub toy_signature_of : List ℕ → List ℕ → Option (List ℕ) → List ℕ
toy_signature_of m secret z = random_half z ++ checked_half (random_half z) (drop 32 secret) m

-- The check of the toy scheme: the second half of the signature is the xor of the first half, the
-- public key and the folded message.
abbrev pub toy_accepts : List ℕ → List ℕ → List ℕ → Bool
toy_accepts m key signature = bytes_eq (drop 32 signature) (checked_half (take 32 signature) key m)

-- The table contains this message, public key and signature as one triple.
abbrev pub is_listed : List Triple → List ℕ → List ℕ → List ℕ → Bool
is_listed table m key signature =
    list_any (λ t. bytes_eq t.message.now m && (bytes_eq t.public_key key && bytes_eq t.signature signature))
    table

-- The check of the toy scheme with a table: it accepts the table's triples and the scheme's own
-- signatures.
abbrev pub toy_accepts_with : List Triple → List ℕ → List ℕ → List ℕ → Bool
toy_accepts_with table m key signature = is_listed table m key signature || toy_accepts m key signature
