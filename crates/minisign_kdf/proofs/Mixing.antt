-- Lemmas about scryptBlockMix, block by block.
use Rattle.std.proofs.Common.{◌≡◌, ℕ, zero, suc, ◌+◌, ◌-◌, ◌*◌, ◌<◌, ◌≤◌, List, ◌++◌, length, take, drop}
use Rattle.std.proofs.Common.{bit_xor, refl, sym, ap, ◌∙◌, arith, add-one}
use Rattle.std.specs.Simd.Lanes.{zip2}
use Rattle.std.proofs.lemmas.List.{length-take-le, take_all}
use Rattle.std.proofs.lemmas.Slice.{take-put_mid}
use borrow.Rule.Slice.PartMut.{put_mid}
use Rattle.minisign_kdf.specs.Blocks.{block, joined_lists}
use Rattle.minisign_kdf.specs.Diagonal.{diagonal_bytes, standard_order}
use Rattle.minisign_kdf.specs.Salsa20.{bytes_of_words32, salsa20_8}
use Rattle.minisign_kdf.specs.Scrypt.{block_mix, mixed_block}
use Rattle.minisign_kdf.proofs.Blocks.{cut-zip2}
use Rattle.minisign_kdf.proofs.Joined.{joined_lists_next}
use Rattle.minisign_kdf.proofs.Ordered.{block-diagonal_bytes, diagonal_bytes-append, diagonal_bytes-block}

-- The block that is xored with block number i: the last block if i is 0, and otherwise the mixed
-- block i - 1.
unfoldable pub previous_block : ℕ → List ℕ → ℕ → List ℕ
previous_block r b zero = block 64 b (2 * r - 1)
previous_block r b (suc i) = mixed_block r b i

pub mixed_block_is : (r : ℕ) (b : List ℕ) (i : ℕ)
    → mixed_block r b i ≡ salsa20_8 (zip2 bit_xor (previous_block r b i) (block 64 b i))
unfolding previous_block mixed_block
mixed_block_is r b zero = refl
mixed_block_is r b (suc i) = refl

pub previous_block_next : (r : ℕ) (b : List ℕ) (i : ℕ) → previous_block r b (i + 1) ≡ mixed_block r b i
unfolding previous_block
previous_block_next r b i = rw add-one refl

-- Block number i of scryptBlockMix is Salsa20/8 of the xor of `previous_block` and block i of the input.
pub mixed_next : (r : ℕ) (xs x y c : List ℕ) (i n k : ℕ) → length xs ≡ 32 * r → i < 2 * r
    → x ≡ previous_block r (diagonal_bytes xs) i → n ≡ 16 → k ≡ 16 * i
    → c ≡ take n (drop k xs) → y ≡ salsa20_8 (zip2 bit_xor x (bytes_of_words32 (standard_order c)))
    → y ≡ mixed_block r (diagonal_bytes xs) i
mixed_next r xs x y c i n k len lt ex en ek ec ey =
    let cut : bytes_of_words32 (standard_order c) ≡ block 64 (diagonal_bytes xs) i =
    rw (ec, en, ek) (sym (block-diagonal_bytes xs (2 * r) i (omega arith) lt)) in
    rw (ey, ex, cut) (sym (mixed_block_is r (diagonal_bytes xs) i))

-- If the first i blocks have been written, writing the 16 words of block number i gives the first
-- i + 1 blocks.
pub written_next : (f : ℕ → List ℕ) (i k : ℕ) (xs ys y : List ℕ) → diagonal_bytes (take (16 * i) xs)
    ≡ joined_lists f i → ys ≡ y → bytes_of_words32 (standard_order y) ≡ f i
    → length ys ≡ 16 → 16 * i ≤ length xs → diagonal_bytes (take (16 * (i + 1)) (put_mid (16 * i) k xs ys))
    ≡ joined_lists f (i + 1)
written_next f i k xs ys y done ey ef len fits =
    let front : length (take (16 * i) xs) ≡ 16 * i = length-take-le (16 * i) xs fits in
    ap diagonal_bytes (take-put_mid (16 * i) k xs ys (16 * (i + 1)) (omega arith) fits)
    ∙ diagonal_bytes-append (take (16 * i) xs) ys i 1 front len
    ∙ (λ t. done t ++ (diagonal_bytes-block ys len ∙ ap (λ (l : List ℕ). bytes_of_words32 (standard_order l))
    ey ∙ ef) t)
    ∙ sym (joined_lists_next f i)

-- If all even and all odd blocks have been written, the result is scryptBlockMix.
pub written_all : (r i : ℕ) (b even odd : List ℕ) → i ≡ r → length even ≡ 16 * r → length odd ≡ 16 * r
    → diagonal_bytes (take (16 * i) even) ≡ joined_lists (λ j. mixed_block r b (2 * j)) i
    → diagonal_bytes (take (16 * i) odd) ≡ joined_lists (λ j. mixed_block r b (2 * j + 1)) i
    → diagonal_bytes (even ++ odd) ≡ block_mix r b
unfolding block_mix
written_all r i b even odd ei le lo he ho =
    let we : take (16 * i) even ≡ even = take_all (16 * i) even (omega arith) in
    let wo : take (16 * i) odd ≡ odd = take_all (16 * i) odd (omega arith) in
    diagonal_bytes-append even odd r r le lo
    ∙ (λ t. (ap diagonal_bytes (sym we) ∙ he ∙ ap (joined_lists (λ (j : ℕ). mixed_block r b (2 * j))) ei) t
    ++ (ap diagonal_bytes (sym wo) ∙ ho ∙ ap (joined_lists (λ (j : ℕ). mixed_block r b (2 * j + 1))) ei) t)

-- For block 0, `previous_block` is the last block of the input.
pub previous_block_first : (r : ℕ) (xs x : List ℕ) (n k : ℕ) → length xs ≡ 32 * r → 1 ≤ r → n ≡ 16
    → k ≡ 32 * r - 16
    → x ≡ take n (drop k xs)
    → bytes_of_words32 (standard_order x) ≡ previous_block r (diagonal_bytes xs) (2 * 0)
unfolding previous_block
previous_block_first r xs x n k len some en ek ex =
    let e : 32 * r - 16 ≡ 16 * (2 * r - 1) = omega arith in
    rw (ex, en, ek, e) (sym (block-diagonal_bytes xs (2 * r) (2 * r - 1) (omega arith) (omega arith)))

-- The xor of one block of two lists is the same block of their xor.
pub xored_block : (x y z : List ℕ) (k n m : ℕ) → length x ≡ length y → n ≡ 16 → m ≡ 16
    → z ≡ zip2 bit_xor (take n (drop k x)) (take m (drop k y)) → z ≡ take 16 (drop k (zip2 bit_xor x y))
xored_block x y z k n m e en em ez = ez
    ∙ (λ t. zip2 bit_xor (take (en t) (drop k x)) (take (em t) (drop k y)))
    ∙ sym (cut-zip2 bit_xor 16 k x y e)
