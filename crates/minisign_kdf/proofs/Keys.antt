-- Lemmas about the key of HMAC and the keys that PBKDF2 derives.
use Rattle.std.proofs.Common.{◌≡◌, ℕ, ◌+◌, ◌*◌, ◌/◌, ◌<◌, ◌≤◌, List, [], ◌∷◌, ◌++◌, length, take, map}
use Rattle.std.proofs.Common.{slice_index, slice_set, bit_xor, sym, ap, ◌∙◌, arith}
use Rattle.std.proofs.Math.Seq.{take-append-add}
use Rattle.std.proofs.lemmas.List.{append-nil, nil_from_length, take_all, get_or-map, length-map, take_more}
use Rattle.std.proofs.lemmas.List.{take_more_set}
use Rattle.std.specs.Int.{w32, to_be_bytes}
use Rattle.minisign_kdf.specs.Blocks.{joined_lists}
use Rattle.minisign_kdf.specs.Hmac.{hmac}
use Rattle.minisign_kdf.specs.Pbkdf2.{pbkdf2}
use Rattle.minisign_kdf.proofs.Joined.{joined_lists_next}

-- If the first i bytes have been xored with the pad, xoring byte number i gives the first i + 1
-- bytes.
pub padded_next : (pad i : ℕ) (block out : List ℕ) → take i out ≡ take i (map (λ b. bit_xor b pad) block)
    → i < length out → i < length block
    → take (i + 1) (slice_set out i (bit_xor (slice_index block i) pad))
    ≡ take (i + 1) (map (λ b. bit_xor b pad) block)
padded_next pad i block out done lo lb =
    let f : ℕ → ℕ = λ b. bit_xor b pad in
    take_more_set out i _ lo
    ∙ (λ t. done t ++ sym (get_or-map f block i 0 0 lb) t ∷ [])
    ∙ sym (take_more (map f block) i 0 (omega (arith, length-map block f)))

-- If the output consists of whole blocks of 32 bytes, these blocks are the derived key.
pub pbkdf2_whole : (password salt w rest : List ℕ) (count len : ℕ)
    → w ≡ joined_lists (λ i. hmac password (salt ++ to_be_bytes w32 (i + 1))) count → length w ≡ 32 * count
    → len ≡ 32 * count → length rest ≡ 0 → w ++ rest ≡ pbkdf2 password salt len
unfolding pbkdf2
pbkdf2_whole password salt w rest count len ew lw el none =
    let blocks : (len + 31) / 32 ≡ count = omega arith in
    ap (λ (l : List ℕ). w ++ l) (nil_from_length rest none) ∙ append-nil w
    ∙ sym (take_all len w (omega arith))
    ∙ ap (take len) (ew ∙ ap (joined_lists (λ (i : ℕ). hmac password (salt ++ to_be_bytes w32 (i + 1))))
    (sym blocks))

-- If 1 to 32 bytes follow the whole blocks, the whole blocks and the beginning of the next block
-- are the derived key.
pub pbkdf2_cut : (password salt w y : List ℕ) (count n len : ℕ)
    → w ≡ joined_lists (λ i. hmac password (salt ++ to_be_bytes w32 (i + 1))) count → length w ≡ 32 * count
    → len ≡ 32 * count + n → 0 < n → n ≤ 32 → y ≡ take n (hmac password (salt ++ to_be_bytes w32 (count + 1)))
    → w ++ y ≡ pbkdf2 password salt len
unfolding pbkdf2
pbkdf2_cut password salt w y count n len ew lw el some few ey =
    let f : ℕ → List ℕ = λ i. hmac password (salt ++ to_be_bytes w32 (i + 1)) in
    let blocks : (len + 31) / 32 ≡ count + 1 = omega arith in
    let at : len ≡ length w + n = omega arith in
    ap (λ (l : List ℕ). w ++ l) ey ∙ sym (take-append-add w (f count) n)
    ∙ (λ t. take (sym at t) (ew t ++ f count))
    ∙ ap (take len) (sym (joined_lists_next f count) ∙ ap (joined_lists f) (sym blocks))
