-- scrypt (RFC 7914, sections 2 and 4 to 6), on lists of bytes. A block has 64 bytes. A part, which
-- the RFC calls B, has 2 * r blocks.
use Rattle.std.specs.Prelude.{ℕ, zero, suc, ◌+◌, ◌-◌, ◌*◌, ◌%◌, List, ◌++◌, Bool, ◌&&◌, bit_xor, nat_le}
use Rattle.std.specs.Simd.Lanes.{zip2, number_l}
use Rattle.minisign_kdf.specs.Blocks.{block, joined_lists}
use Rattle.minisign_kdf.specs.Pbkdf2.{longest_key, pbkdf2}
use Rattle.minisign_kdf.specs.Salsa20.{salsa20_8}

-- The block Y_i of scryptBlockMix: Y_0 = Salsa(B_(2r-1) xor B_0), and Y_i = Salsa(Y_(i-1) xor B_i)
-- (section 4).
unfoldable pub mixed_block : ℕ → List ℕ → ℕ → List ℕ
mixed_block r b zero = salsa20_8 (zip2 bit_xor (block 64 b (2 * r - 1)) (block 64 b 0))
mixed_block r b (suc i) = salsa20_8 (zip2 bit_xor (mixed_block r b i) (block 64 b (suc i)))

-- scryptBlockMix: Y_0, Y_2, .., Y_(2r-2), Y_1, Y_3, .., Y_(2r-1) (section 4).
unfoldable pub block_mix : ℕ → List ℕ → List ℕ
block_mix r b = joined_lists (λ i. mixed_block r b (2 * i)) r
    ++ joined_lists (λ i. mixed_block r b (2 * i + 1)) r

-- The row V_i of scryptROMix: scryptBlockMix applied i times to B (section 5).
unfoldable pub row_at : ℕ → List ℕ → ℕ → List ℕ
row_at r b zero = b
row_at r b (suc i) = block_mix r (row_at r b i)

-- The loop of scryptROMix: x after t times j = Integerify(X) mod N, X = scryptBlockMix(X xor V_j),
-- with n for N. Integerify reads the last block as a number, least significant byte first (section
-- 5).
unfoldable pub mixed_part : ℕ → ℕ → (ℕ → List ℕ) → List ℕ → ℕ → List ℕ
mixed_part r n v x zero = x
mixed_part r n v x (suc t) =
    let y = mixed_part r n v x t in
    block_mix r (zip2 bit_xor y (v (number_l 256 (block 64 y (2 * r - 1)) % n)))

-- scryptROMix: X begins as scryptBlockMix applied N times to B, and is mixed N times (section 5).
unfoldable pub rom_mix : ℕ → ℕ → List ℕ → List ℕ
rom_mix r n b = mixed_part r n (row_at r b) (row_at r b n) n

-- True for the lengths that a derived key can have (section 2).
abbrev pub is_key_length : ℕ → Bool
is_key_length len = nat_le 1 len && nat_le len longest_key

-- scrypt with the cost n, the block size r and the parallelization p: a derived key of len bytes
-- (section 6).
unfoldable pub scrypt : List ℕ → List ℕ → ℕ → ℕ → ℕ → ℕ → List ℕ
scrypt password salt n r p len =
    let b = pbkdf2 password salt (p * 128 * r) in
    pbkdf2 password (joined_lists (λ i. rom_mix r n (block (128 * r) b i)) p) len
